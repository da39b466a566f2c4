-- `with_one` meets its contract: the frontier made of what is left in the room. Assumes nothing.
use mathlib.Core.Path.{refl}
use Rattle.frontier.specs.Frontiers.{entries}
use Rattle.frontier.proofs.Raise.{raise_joins, raise_joined, raise_formed}
use Rattle.frontier.proofs.Fill.{left_same, fills, held_right}
use Rattle.frontier.proofs.with_one.Goals as goal

pub invariant_of-x : goal.invariant_of-x
unfolding entries
invariant_of-x c =
    let f = raise_joins c.args.f c.args.axis c.args.epoch _ _ refl c.requires in
    record { few = f.0.0; sixteen = f.0.2; rising = f.0.1 }

pub join_one-r-requires : goal.join_one-r-requires
join_one-r-requires c =
    let f = raise_joins c.args.f c.args.axis c.args.epoch _ _ refl c.requires in
    record { le_capacity = f.1; all_room = (refl, refl) }

pub returns : goal.returns
unfolding entries
returns c =
    let formed = raise_formed _ _ _ _ in
    let raised = raise_joined c.args.f c.args.axis c.args.epoch _ _ refl c.requires in
    let left = left_same (raised _ refl) c.join_one-r.ensures in
    held_right _ _ _ _ _ _ formed (fills _ _ _ _ _ _ formed left c.clear_both.ensures.0 c.clear_both.ensures.1)
    c.first_slots.ensures c.first_slots-2.ensures
