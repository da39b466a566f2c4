-- `each` meets its contract: after k turns, k operations are read.
use Rattle.std.proofs.Common.{rules, ◌≡◌, arith}
use Rattle.std.specs.Prelude.{Err}
use Rattle.plan_format.specs.Form.{width_by}
use Rattle.plan_format.specs.Sizes.{block_numbers}
use Rattle.plan_format.specs.Sections.{operation_below}
use Rattle.stored_numbers.proofs.Cursors.{none_read, more_reads, stopped_reads}
use Rattle.stored_numbers.proofs.reader.Reader.each.Goals as goal

pub loop-k-init : goal.loop-k-init
loop-k-init c =
    none_read (operation_below (width_by c.args.wide) c.args.counts.queues c.args.counts.semaphores
    c.args.counts.buffers) block_numbers _

pub returns-in_err-operation-clause-reads : goal.returns-in_err-operation-clause-reads
returns-in_err-operation-clause-reads c =
    let gone : c.from_residual.result ≡ Err c.in_err-operation.field-0.0 = search rules in
    stopped_reads gone (operation_below (width_by c.args.wide) c.args.counts.queues c.args.counts.semaphores
    c.args.counts.buffers) block_numbers c.loop-k._k c.args.many (omega arith) c.loop-k.invariant
    c.in_err-operation.ensures

pub loop-k-preserved : goal.loop-k-preserved
loop-k-preserved c =
    more_reads c.loop-k._k c.loop-k.invariant c.in_ok-operation.ensures
