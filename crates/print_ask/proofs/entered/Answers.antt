-- `entered` meets its contract.
use Rattle.std.proofs.Common.{rules}
use Rattle.base_text.proofs.Putting.{adds_both, lent, line_refused, line_answered}
use Rattle.print_ask.specs.Questions.{frontier_text}
use Rattle.print_ask.proofs.entered.Goals as goal

pub returns-then-sent-ne0 : goal.returns-then-sent-ne0
returns-then-sent-ne0 c =
    rw (line_refused c.args.sent.number c.args.sent.place _ c.if-sent-ne0.true) c.refused.ensures

pub returns : goal.returns
unfolding frontier_text
returns c =
    rw (line_answered c.args.sent.number c.args.sent.place _ c.if-sent-ne0.false)
    (lent c.new-text.ensures.room_is c.new-text.ensures.none
    (adds_both (adds_both (rw c.whole.ensures at c.words.ensures) c.entries.ensures) c.byte.ensures)
    (search rules) (search rules))
