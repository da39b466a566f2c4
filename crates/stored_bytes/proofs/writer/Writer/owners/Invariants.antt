-- `owners` meets its contract: after k turns, k owners are written.
use Rattle.std.proofs.Common.{◌≡◌, ◌*◌, Ok}
use Rattle.plan_format.specs.Grammar.{field}
use Rattle.plan_format.specs.Sections.{limited}
use Rattle.plan_format.specs.Sections.{repeat}
use Rattle.stored_bytes.specs.Writing.{Wrote}
use Rattle.stored_bytes.proofs.writer.Writer.owners.Given as goal

abbrev pub invariant-loop-k : goal.invariant-loop-k
invariant-loop-k g l =
    Wrote (repeat l._k (field 1 (limited l.queues 4))) (1 * l._k) l.initial.self (Ok (tt {0})) l.self ×
    (l.self.bytes.ghost_name ≡ l.initial.self.bytes.ghost_name)
