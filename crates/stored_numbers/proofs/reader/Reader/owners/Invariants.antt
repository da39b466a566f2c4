-- `owners` meets its contract: after k turns, k of them are read.
use Rattle.std.proofs.Common.{◌≡◌, ◌+◌, ◌*◌}
use Rattle.std.specs.Prelude.{Ok, ⊤}
use Rattle.plan_format.specs.Grammar.{field}
use Rattle.plan_format.specs.Sections.{repeat, limited}
use Rattle.stored_numbers.specs.Reading.{Reads}
use Rattle.stored_numbers.proofs.reader.Reader.owners.Given as goal

abbrev pub invariant-loop-k : goal.invariant-loop-k
invariant-loop-k l =
    Reads {A = ⊤} (repeat l._k (field 1 (limited l.queues 4))) (1 * l._k) l.initial.self (Ok tt) l.self ×
    (l.self.cursor.got ≡ l.initial.self.cursor.got + l._k)
