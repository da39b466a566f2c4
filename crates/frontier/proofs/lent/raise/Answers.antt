-- `raise` meets its contract: what is left in the room, once the rest of it is cleared. Assumes nothing.
use Rattle.frontier.proofs.Meaning.{raise_right}
use Rattle.frontier.proofs.Raise.{raise_formed}
use Rattle.frontier.proofs.Fill.{fills, filled_right}
use Rattle.frontier.proofs.lent.raise.Goals as goal

pub returns : goal.returns
returns c =
    let f = raise_formed _ _ _ _ in
    let w = fills _ _ _ _ _ _ f c.raised-r.ensures (rw c.left-len.ensures.len at c.clear_both.ensures.0)
    (rw c.left-len.ensures.len at c.clear_both.ensures.1) in
    record {
      answers = w;
      right = raise_right _ _ _ _ _ (filled_right _ _ _ _ f w);
    }
