-- `points` meets its contract: after k turns, k of them are read.
use Rattle.std.proofs.Common.{◌*◌}
use Rattle.std.specs.Prelude.{Ok, ⊤}
use Rattle.plan_format.specs.Sections.{repeat, point_below}
use Rattle.stored_numbers.specs.Reading.{Reads}
use Rattle.stored_numbers.proofs.reader.Reader.points.Given as goal

abbrev pub invariant-loop-k : goal.invariant-loop-k
invariant-loop-k g l =
    Reads {A = ⊤} (repeat l._k (point_below g.row.WIDTH l.semaphores l.least)) (2 * l._k) l.initial.self (Ok tt) l.self
