-- `axes` meets its contract: after k turns, k axes are written.
use Rattle.std.proofs.Common.{◌≡◌, ◌*◌, Ok}
use Rattle.plan_format.specs.Sections.{axis_field}
use Rattle.plan_format.specs.Sections.{repeat}
use Rattle.stored_bytes.specs.Writing.{Wrote}
use Rattle.stored_bytes.proofs.writer.Writer.axes.Given as goal

abbrev pub invariant-loop-k : goal.invariant-loop-k
invariant-loop-k l =
    Wrote (repeat l._k axis_field) (8 * l._k) l.initial.self (Ok (tt {0})) l.self ×
    (l.self.bytes.ghost_name ≡ l.initial.self.bytes.ghost_name)
