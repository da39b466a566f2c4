-- `merge` meets its contract: what is left in the room, once the rest of it is cleared. Assumes nothing.
use Rattle.frontier.proofs.Meaning.{merge_right}
use Rattle.frontier.proofs.Merge.{merge_formed}
use Rattle.frontier.proofs.Fill.{fills, filled_right}
use Rattle.frontier.proofs.lent.merge.Goals as goal

pub returns : goal.returns
returns c =
    let f = merge_formed _ _ _ in
    let w = fills _ _ _ _ _ _ f c.merged-r.ensures (rw c.left-len.ensures.len at c.clear_both.ensures.0)
    (rw c.left-len.ensures.len at c.clear_both.ensures.1) in
    record {
      answers = w;
      right = merge_right _ _ _ _ (filled_right _ _ _ _ f w);
    }
