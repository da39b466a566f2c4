-- `raise` meets its contract: refused, stored in the axis's slot, or joined with one entry. Assumes nothing.
use Rattle.std.proofs.Common.{◌≡◌, ◌<◌, get_or, sym, ap₂, ◌∙◌, arith, ℕ, refl}
use Rattle.frontier.specs.declared.Frontier.{Frontier}
use Rattle.frontier.specs.declared.Merged.{Merged}
use Rattle.frontier_slots.specs.Entries.{most_entries}
use Rattle.frontier.specs.Frontiers.{refusal}
use Rattle.frontier.proofs.Fill.{not_zero}
use Rattle.frontier.proofs.Sides.{refused_by, not_refused}
use Rattle.frontier.specs.Walks.{left_number}
use Rattle.frontier.proofs.Meaning.{raise_all}
use Rattle.frontier.proofs.Raise.{raise_refused, raise_stored}
use Rattle.frontier.proofs.Frontier.raise.Goals as goal
use Rattle.frontier.proofs.Frontier.raise.Goals.{In-Some, In_default}

-- the slot is of the axis
listed : (c : In-Some) → (c.in-Some.at < c.args.self.len) × (get_or c.args.self.axes c.in-Some.at 0 ≡ c.args.axis)
listed c = let w = c.search.ensures.means.of_axis _ c.in-Some.is in (w.0, w.3)

below : (c : In-Some) → c.in-Some.at < most_entries
below c = let w = c.search.ensures.means.of_axis _ c.in-Some.is in omega (arith, w.0, w.1)

-- what the judgement tells, where it is no refusal
fits : (c : In_default) → left_number c.args.self c.args.capacity ≡ 0
fits c = not_refused _ _ _ c.judged.ensures c.in_default.not-Err

pub returns-in-Err : goal.returns-in-Err
unfolding left_number refusal
returns-in-Err c =
    let w = raise_all _ _ _ _ _
    (ap₂ {C = Merged} (λ (n : ℕ) (f : Frontier). record { number = n; frontier = f }) c.number.ensures c.empty.ensures
    ∙ raise_refused c.args.self _ _ _ _ (sym (refused_by _ _ _ c.judged.ensures _ c.in-Err.is)) (not_zero _)) in
    record { answers = w.0; right = w.1 }

pub offset_bounds-self-at : goal.offset_bounds-self-at
offset_bounds-self-at c =
    record { fits = omega (arith, below (goal.at.offset_bounds-self-at c).In-Some) }

pub bounds-self-at : goal.bounds-self-at
bounds-self-at c = below (goal.at.bounds-self-at c).In-Some

pub offset_bounds-self-at-in-Some : goal.offset_bounds-self-at-in-Some
offset_bounds-self-at-in-Some c =
    record { fits = omega (arith, below (goal.at.offset_bounds-self-at-in-Some c).In-Some) }

pub bounds-self-at-in-Some : goal.bounds-self-at-in-Some
bounds-self-at-in-Some c = below (goal.at.bounds-self-at-in-Some c).In-Some

pub returns-in-Some : goal.returns-in-Some
unfolding left_number
returns-in-Some c =
    let l = (goal.at.returns-in-Some c).In-Some in
    let w = raise_all _ _ _ _ _
    (raise_stored c.args.self _ _ _ _ refl (fits (goal.at.returns-in-Some c).In_default) _ _
    (listed l).0 (listed l).1 c.max.ensures c.if-len-capacity.true) in
    record { answers = w.0; right = w.1 }

pub with_one-requires : goal.with_one-requires
with_one-requires c = fits (goal.at.with_one-requires c).In_default

pub returns : goal.returns
returns c = let w = raise_all _ _ _ _ _ c.with_one.ensures in record { answers = w.0; right = w.1 }
