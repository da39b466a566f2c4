-- `refused` meets its contract.
use Rattle.std.proofs.Common.{rules}
use Rattle.base_text.specs.Text.{refused_text}
use Rattle.base_text.proofs.Putting.{adds_both, lent}
use Rattle.base_text.proofs.refused.Goals as goal

pub returns : goal.returns
unfolding refused_text
returns c =
    lent c.new-text.ensures.room_is c.new-text.ensures.none
    (adds_both
    (adds_both (adds_both c.words.ensures (rw c.from.ensures at c.next.ensures)) c.next-2.ensures)
    c.byte.ensures)
    (search rules) (search rules)
