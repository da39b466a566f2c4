-- `operations` meets its contract: after k turns, k operations are written.
use Rattle.std.proofs.Common.{◌≡◌, ◌*◌, Ok}
use Rattle.plan_format.specs.Sizes.{block_bytes}
use Rattle.plan_format.specs.Sections.{operation_below}
use Rattle.plan_format.specs.Sections.{repeat}
use Rattle.stored_bytes.specs.Writing.{Wrote}
use Rattle.stored_bytes.proofs.writer.Writer.operations.Given as goal

abbrev pub invariant-loop-k : goal.invariant-loop-k
invariant-loop-k g l =
    Wrote (repeat l._k (operation_below g.row.WIDTH l.queues l.semaphores l.buffers)) (block_bytes * l._k)
    l.initial.self (Ok (tt {0})) l.self ×
    (l.self.bytes.ghost_name ≡ l.initial.self.bytes.ghost_name)
