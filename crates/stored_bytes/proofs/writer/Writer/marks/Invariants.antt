-- `marks` meets its contract: after k turns, k marks are written.
use Rattle.std.proofs.Common.{◌≡◌, ◌*◌, Ok}
use Rattle.plan_format.specs.Sections.{mark_below}
use Rattle.plan_format.specs.Sections.{repeat}
use Rattle.stored_bytes.specs.Writing.{Wrote}
use Rattle.stored_bytes.proofs.writer.Writer.marks.Given as goal

abbrev pub invariant-loop-k : goal.invariant-loop-k
invariant-loop-k l =
    Wrote (repeat l._k (mark_below l.buffers)) (3 * l._k) l.initial.self (Ok (tt {0})) l.self ×
    (l.self.bytes.ghost_name ≡ l.initial.self.bytes.ghost_name)
