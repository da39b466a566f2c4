-- `axes` meets its contract: a count, and so many of them, or the first thing refused.
use Rattle.std.proofs.Common.{rules, ◌≡◌, arith}
use Rattle.std.specs.Prelude.{Err}
use Rattle.plan_format.specs.Sizes.{most_queues}
use Rattle.plan_format.specs.Sections.{axis_field}
use Rattle.stored_numbers.proofs.Cursors.{none_read, more_reads, stopped_reads, count_then, count_refused}
use Rattle.stored_numbers.proofs.Cursors.{section_read, section_refused}
use Rattle.stored_numbers.proofs.reader.Reader.axes.Goals as goal

pub returns-in_err-count : goal.returns-in_err-count
returns-in_err-count c =
    let gone : c.from_residual.result ≡ Err c.in_err-count.field-0.0 = search rules in
    section_refused gone (count_refused 0 most_queues 1 axis_field 1 gone c.in_err-count.ensures)

pub loop-k-init : goal.loop-k-init
loop-k-init c =
    (none_read axis_field 1 _, omega arith)

pub returns-in_err-axis : goal.returns-in_err-axis
unfolding axis_field
returns-in_err-axis c =
    let gone : c.from_residual-in_err-axis.result ≡ Err c.in_err-axis.field-0.0 = search rules in
    section_refused gone (count_then 0 most_queues 1 axis_field 1 c.in_ok-count.ensures
    (stopped_reads gone axis_field 1 c.loop-k._k _ (omega arith) c.loop-k.invariant.0 c.in_err-axis.ensures.reads))

pub loop-k-preserved : goal.loop-k-preserved
unfolding axis_field
loop-k-preserved c = (
  more_reads c.loop-k._k c.loop-k.invariant.0 c.in_ok-axis.ensures.reads,
  omega (arith, c.loop-k.invariant.1, c.in_ok-axis.ensures.one),
)

pub returns : goal.returns
returns c =
    let all : c.loop-k._k ≡ c.in_ok-count.count = omega arith in
    section_read (count_then 0 most_queues 1 axis_field 1 c.in_ok-count.ensures (rw all at c.loop-k.invariant.0))
    (omega (arith, all, c.loop-k.invariant.1, c.in_ok-count.ensures.field.one))
