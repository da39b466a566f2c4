-- `reaches` meets its contract: the loop's invariant is `Reach`. Assumes nothing.
use Prim.Native.Nat.{◌<◌}
use native.Mathlib.Omega.{arith}
use Rattle.frontier_slots.specs.Entries.{most_entries}
use Rattle.frontier.proofs.Reach.{reach_none, reach_absent, reach_short, reach_more, reach_end}
use Rattle.frontier.proofs.side.Formed.reaches.Goals as goal
use Rattle.frontier.proofs.side.Formed.reaches.Goals.{In-Some}

below : (c : In-Some) → c.in-Some.at < most_entries
below c = omega (arith, (c.slot_from.ensures.of_axis _ c.in-Some.is).0, c.args.self.few)

pub loop-j-init : goal.loop-j-init
loop-j-init c = reach_none _ _ _ _ _ _

pub slot_from-requires : goal.slot_from-requires
slot_from-requires c = c.loop-j.invariant.left_in

pub returns-in_default : goal.returns-in_default
returns-in_default c =
    reach_absent _ _ _ _ _ _ _ _ c.args.self.rising c.args.other.rising c.loop-j.invariant c.loop-j-test.true _
    c.slot_from.ensures c.in_default.is

pub returns-then-self-at : goal.returns-then-self-at
returns-then-self-at c =
    reach_short _ _ _ _ _ _ _ _ c.args.self.rising c.args.other.rising c.loop-j.invariant c.loop-j-test.true _
    c.slot_from.ensures _ c.in-Some.is c.if-self-at.true

pub loop-j-preserved : goal.loop-j-preserved
loop-j-preserved c =
    reach_more _ _ _ _ _ _ _ _ c.args.self.rising c.args.other.rising c.loop-j.invariant c.loop-j-test.true _
    c.slot_from.ensures _ c.in-Some.is c.if-self-at.false

pub returns : goal.returns
returns c = reach_end _ _ _ _ _ _ _ _ c.loop-j.invariant c.loop-j-test.false

pub overflow_add-i : goal.overflow_add-i
overflow_add-i c =
    record { fits = omega (arith, (c.slot_from.ensures.of_axis _ c.in-Some.is).0, c.args.self.few) }

pub offset_bounds-self-at : goal.offset_bounds-self-at
offset_bounds-self-at c = record { fits = omega (arith, below (goal.at.offset_bounds-self-at c).In-Some) }

pub bounds-self-at : goal.bounds-self-at
bounds-self-at c = omega (arith, below (goal.at.bounds-self-at c).In-Some, c.args.self.sixteen.1)
