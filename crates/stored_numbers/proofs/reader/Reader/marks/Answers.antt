-- `marks` meets its contract: a count, and so many marks, or the first thing refused.
use Rattle.std.proofs.Common.{rules, ◌≡◌, arith}
use Rattle.std.specs.Prelude.{Err}
use Rattle.plan_format.specs.Sizes.{most_marks}
use Rattle.plan_format.specs.Sections.{mark_below}
use Rattle.stored_numbers.proofs.Cursors.{none_read, more_reads, stopped_reads, count_then, count_refused}
use Rattle.stored_numbers.proofs.reader.Reader.marks.Goals as goal

pub returns-in_err-count : goal.returns-in_err-count
returns-in_err-count c =
    let gone : c.from_residual.result ≡ Err c.in_err-count.field-0.0 = search rules in
    count_refused 0 most_marks 1 (mark_below c.args.buffers) 2 gone c.in_err-count.ensures

pub loop-k-init : goal.loop-k-init
loop-k-init c =
    none_read (mark_below c.args.buffers) 2 _

pub returns-in_err-mark : goal.returns-in_err-mark
returns-in_err-mark c =
    let gone : c.from_residual-in_err-mark.result ≡ Err c.in_err-mark.field-0.0 = search rules in
    count_then 0 most_marks 1 (mark_below c.args.buffers) 2 c.in_ok-count.ensures
    (stopped_reads gone (mark_below c.args.buffers) 2 c.loop-k._k _ (omega arith) c.loop-k.invariant
    c.in_err-mark.ensures)

pub loop-k-preserved : goal.loop-k-preserved
loop-k-preserved c =
    more_reads c.loop-k._k c.loop-k.invariant c.in_ok-mark.ensures

pub returns : goal.returns
returns c =
    let all : c.loop-k._k ≡ c.in_ok-count.count = omega arith in
    count_then 0 most_marks 1 (mark_below c.args.buffers) 2 c.in_ok-count.ensures (rw all at c.loop-k.invariant)
