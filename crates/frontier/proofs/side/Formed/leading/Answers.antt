-- `leading` meets its contract: the axis is absent on the other side, or listed. Assumes nothing.
use mathlib.Core.Path.{sym, ap, ◌∙◌}
use lib.ListN.{get_or}
use Rattle.std.specs.Prelude.{option_map}
use native.Mathlib.Omega.{arith}
use borrow.Author.Rules.{rules}
use Rattle.frontier_slots.specs.Slots.{slot}
use Rattle.frontier.proofs.Join.{listed_some, next_absent, next_listed}
use Rattle.frontier.proofs.side.Formed.leading.Goals as goal

pub returns-in_default : goal.returns-in_default
unfolding slot
returns-in_default c =
    let q = ap (option_map (λ k. get_or c.args.other.epochs.now k 0)) (sym c.in_default.is)
    ∙ c.slot_from.ensures.found c.args.other.rising in
    record {
      bounds = search rules;
      union_goes_on = next_absent _ _ _ _ _ _ _ _ c.args.self.rising c.args.other.rising
          c.requires.inside.0 c.requires.inside.1 c.requires.first q;
    }

pub returns : goal.returns
returns c =
    let q = ap (option_map (λ k. get_or c.args.other.epochs.now k 0)) (sym c.in-Some.is)
    ∙ c.slot_from.ensures.found c.args.other.rising in
    let l = listed_some _ _ _ _ _ _ q in record {
      bounds = (search rules, omega (arith, l), search rules);
      union_goes_on = next_listed _ _ _ _ _ _ _ _ c.args.self.rising c.args.other.rising _ _
          c.max.ensures c.requires.inside.0 l c.requires.first q;
    }

pub offset_bounds-other-at : goal.offset_bounds-other-at
offset_bounds-other-at c =
    record { fits = omega (arith, (c.slot_from.ensures.of_axis _ c.in-Some.is).0, c.args.other.few) }

pub bounds-other-at : goal.bounds-other-at
bounds-other-at c =
    omega (arith, (c.slot_from.ensures.of_axis _ c.in-Some.is).0, c.args.other.few, c.args.other.sixteen.1)
