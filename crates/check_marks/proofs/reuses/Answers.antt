-- `check_marks::reuses` goes from the first mark to the last: the answer from here is that of the whole. Assumes
-- nothing.
use mathlib.Core.Path.{ap, refl}
use Prim.Native.Nat.{ℕ, ◌%◌}
use Rattle.plan_format.specs.Sizes.{most_operations}
use Rattle.check_columns.specs.Shown.{mark_codes}
use Rattle.check_marks.proofs.Turns.{forward_none, forward_end}
use Rattle.check_marks.proofs.Turns.{forward_early, forward_fine}
use Rattle.check_marks.proofs.reuses.Goals as goal

pub loop-k-init : goal.loop-k-init
loop-k-init c = forward_none

pub returns-then-early : goal.returns-then-early
returns-then-early c =
    forward_early c.loop-k.invariant c.loop-k-test.true
    (ap (λ (z : ℕ). z % mark_codes) c.from-m.ensures)
    (ap (λ (z : ℕ). z % most_operations) c.from-i.ensures)
    c.own_place-own.ensures.0 refl c.early.ensures c.if-early.true

pub loop-k-preserved : goal.loop-k-preserved
loop-k-preserved c =
    forward_fine c.loop-k.invariant c.loop-k-test.true
    (ap (λ (z : ℕ). z % mark_codes) c.from-m.ensures)
    (ap (λ (z : ℕ). z % most_operations) c.from-i.ensures)
    c.own_place-own.ensures.0 refl c.early.ensures
    c.if-early.false c.noted.ensures

pub returns : goal.returns
returns c = forward_end c.loop-k-test.false c.loop-k.invariant
