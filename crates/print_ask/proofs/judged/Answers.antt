-- `judged` meets its contract.
use Rattle.std.proofs.Common.{rules}
use Rattle.base_text.proofs.Putting.{adds_both, lent, line_refused, line_answered}
use Rattle.print_ask.specs.Questions.{verdict_text}
use Rattle.print_ask.proofs.judged.Goals as goal

pub returns-then-told-ne0 : goal.returns-then-told-ne0
returns-then-told-ne0 c =
    rw (line_refused c.args.told.number c.args.told.place _ c.if-told-ne0.true) c.refused.ensures

pub returns : goal.returns
unfolding verdict_text
returns c =
    rw (line_answered c.args.told.number c.args.told.place _ c.if-told-ne0.false)
    (lent c.new-text.ensures.room_is c.new-text.ensures.none
    (adds_both
    (adds_both (adds_both c.words.ensures c.next.ensures) (rw c.verdict.ensures at c.words-2.ensures))
    c.byte.ensures)
    (search rules) (search rules))
