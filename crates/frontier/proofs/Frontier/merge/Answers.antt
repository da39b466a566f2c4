-- `merge` meets its contract: the frontier made of what is left in the room. Assumes nothing.
use Rattle.frontier.proofs.Merge.{merge_formed}
use Rattle.frontier.proofs.Meaning.{merge_all}
use Rattle.frontier.proofs.Fill.{held_right}
use Rattle.frontier.proofs.Frontier.merge.Goals as goal

pub returns : goal.returns
returns c =
    let w = merge_all _ _ _ _ (rw (c.left-left.ensures.len, c.left-left.ensures.tainted, c.number.ensures)
    (held_right _ _ _ _ _ _ (merge_formed _ _ _) c.merge-r.ensures.answers
    c.first_slots.ensures c.first_slots-2.ensures)) in
    record { answers = w.0; right = w.1 }
