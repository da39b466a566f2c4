-- `answered` meets its contract. Assumes nothing.
use Rattle.print_trace.proofs.Parts.{rest_put}
use Rattle.base_text.proofs.Putting.{adds_both, lent, line_refused, line_answered}
use Rattle.plan_format.specs.Sizes.{most_queues}
use Rattle.std.proofs.Common.{arith, rules}
use Rattle.print_trace.specs.Printed.{trace_text}
use Rattle.print_trace.proofs.answered.Goals as goal

pub returns-then-c-ne0 : goal.returns-then-c-ne0
returns-then-c-ne0 c =
    rw (line_refused c.args.told.counted.number c.args.told.counted.place _
    c.if-c-ne0.true) c.refused.ensures

pub returns : goal.returns
unfolding trace_text
returns c =
    rw (line_answered c.args.told.counted.number c.args.told.counted.place _
    c.if-c-ne0.false)
    (lent c.new-text.ensures.room_is c.new-text.ensures.none
    (adds_both
    (adds_both
    (adds_both (adds_both (adds_both c.line.ensures c.words.ensures) c.numbers.ensures) c.words-2.ensures)
    (rest_put most_queues c.args.state.now _ c.numbers-2.ensures))
    c.byte.ensures)
    (search rules) (search rules))
