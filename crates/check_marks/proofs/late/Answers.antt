-- `check_marks::late` meets its contract by the law of the test. Assumes nothing.
use mathlib.Core.Path.{refl, ap}
use Prim.Native.Nat.{ℕ, ◌+◌, ◌%◌}
use lib.ListN.{get_or}
use Rattle.check_marks.proofs.Turns.{late_is}
use Rattle.check_marks.proofs.late.Goals as goal

pub returns : goal.returns
returns c =
    late_is _ _ _ _ _ _ _ c.from-q.ensures refl
    (ap (λ (z : ℕ). get_or c.args.rows.now (z + c.from-q.result % 16) 0) c.from.ensures)
