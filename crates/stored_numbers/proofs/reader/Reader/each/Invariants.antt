-- `each` meets its contract: after k turns, k of them are read.
use Rattle.std.proofs.Common.{◌*◌}
use Rattle.std.specs.Prelude.{Ok, ⊤}
use Rattle.plan_format.specs.Form.{width_by}
use Rattle.plan_format.specs.Sizes.{block_numbers}
use Rattle.plan_format.specs.Sections.{repeat, operation_below}
use Rattle.stored_numbers.specs.Reading.{Reads}
use Rattle.stored_numbers.proofs.reader.Reader.each.Given as goal

abbrev pub invariant-loop-k : goal.invariant-loop-k
invariant-loop-k l =
    Reads {A = ⊤}
    (repeat l._k (operation_below (width_by l.wide) l.counts.queues l.counts.semaphores l.counts.buffers))
    (block_numbers * l._k) l.initial.self (Ok tt) l.self
