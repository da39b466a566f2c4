-- `check_marks::early` meets its contract by the law of the test. Assumes nothing.
use mathlib.Core.Path.{ap}
use Prim.Native.Nat.{ℕ, ◌+◌, ◌*◌, ◌%◌}
use lib.ListN.{get_or}
use Rattle.check_marks.proofs.Turns.{early_is}
use Rattle.check_marks.proofs.early.Goals as goal

pub returns : goal.returns
returns c =
    early_is _ _ _ _ _ _ c.requires.1 (ap (λ (z : ℕ). get_or c.args.rows.now z 0) c.from.ensures)
    (ap (λ (z : ℕ). get_or c.args.rows.now (16 * c.args.i + z % 16) 0) c.from-2.ensures)
