-- `read_operation` meets its contract: an operation read at the place, or at the end of the bytes. Assumes nothing.
use Rattle.std.proofs.Common.{arith}
use Rattle.plan_format.specs.Form.{width_by}
use Rattle.stored_numbers.proofs.Heads.{operation_told, operation_read}
use Rattle.stored_numbers.proofs.read_operation.Goals as goal

pub returns-in-Ok-clause-told : goal.returns-in-Ok-clause-told
returns-in-Ok-clause-told c =
    operation_told (width_by c.args.wide) c.args.queues c.args.semaphores c.args.buffers c.args.at c.min.ensures
    (omega (arith, c.in-Ok.ensures.reads.as_long)) c.in-Ok.ensures.reads

pub returns-in-Ok-clause-means : goal.returns-in-Ok-clause-means
returns-in-Ok-clause-means c =
    operation_read (width_by c.args.wide) c.args.queues c.args.semaphores c.args.buffers c.args.at c.min.ensures
    (omega (arith, c.in-Ok.ensures.reads.as_long)) c.in-Ok.ensures.reads

pub returns-in-Err-clause-told : goal.returns-in-Err-clause-told
returns-in-Err-clause-told c =
    operation_told (width_by c.args.wide) c.args.queues c.args.semaphores c.args.buffers c.args.at c.min.ensures
    (omega (arith, c.in-Err.ensures.reads.as_long)) c.in-Err.ensures.reads

pub returns-in-Err-clause-means : goal.returns-in-Err-clause-means
returns-in-Err-clause-means c =
    operation_read (width_by c.args.wide) c.args.queues c.args.semaphores c.args.buffers c.args.at c.min.ensures
    (omega (arith, c.in-Err.ensures.reads.as_long)) c.in-Err.ensures.reads
