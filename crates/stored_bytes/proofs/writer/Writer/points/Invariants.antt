-- `points` meets its contract: after k turns, k points are written.
use Rattle.std.proofs.Common.{◌≡◌, ◌*◌, Ok}
use Rattle.plan_format.specs.Sections.{point_below}
use Rattle.stored_bytes.specs.Writing.{point_most}
use Rattle.plan_format.specs.Sections.{repeat}
use Rattle.stored_bytes.specs.Writing.{Wrote}
use Rattle.stored_bytes.proofs.writer.Writer.points.Given as goal

abbrev pub invariant-loop-k : goal.invariant-loop-k
invariant-loop-k g l =
    Wrote (repeat l._k (point_below g.row.WIDTH l.semaphores l.least)) (point_most * l._k) l.initial.self
    (Ok (tt {0})) l.self ×
    (l.self.bytes.ghost_name ≡ l.initial.self.bytes.ghost_name)
