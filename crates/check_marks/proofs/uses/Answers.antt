-- `check_marks::uses` goes from the last mark to the first: table and answer are those of the marks passed. Assumes
-- nothing.
use mathlib.Core.Path.{ap, refl}
use Prim.Native.Nat.{ℕ, ◌%◌}
use Rattle.plan_format.specs.Sizes.{most_operations}
use Rattle.check_columns.specs.Shown.{mark_codes}
use Rattle.check_marks.proofs.Turns.{backward_none, backward_more}
use Rattle.check_marks.proofs.uses.Goals as goal

pub loop-k-init : goal.loop-k-init
loop-k-init c = backward_none

pub loop-k-preserved : goal.loop-k-preserved
loop-k-preserved c =
    backward_more c.loop-k.invariant c.loop-k-test.true
    (ap (λ (z : ℕ). z % mark_codes) c.from-m.ensures)
    (ap (λ (z : ℕ). z % most_operations) c.from-i.ensures) refl
    c.late.ensures c.pick-lowest.ensures c.noted.ensures
