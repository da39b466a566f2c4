-- `line` meets its contract.
use Rattle.std.proofs.Common.{rules}
use Rattle.base_text.proofs.Putting.{adds_both, lent, line_refused, line_answered}
use Rattle.print_suggest.specs.Printed.{advice_text}
use Rattle.print_suggest.proofs.line.Goals as goal

pub returns-then-s-ne0 : goal.returns-then-s-ne0
returns-then-s-ne0 c =
    rw (line_refused c.args.s.number c.args.s.place _ c.if-s-ne0.true) c.refused.ensures

pub returns : goal.returns
unfolding advice_text
returns c =
    rw (line_answered c.args.s.number c.args.s.place _ c.if-s-ne0.false)
    (lent c.new-text.ensures.room_is c.new-text.ensures.none (adds_both c.advice.ensures c.byte.ensures)
    (search rules) (search rules))
