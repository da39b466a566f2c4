-- Rows tell which marks are broken. Assumes nothing.
use mathlib.Core.Path.{◌≡◌, sym, ap, subst}
use mathlib.Core.Bool.{Bool, true, false, not}
use mathlib.Core.List.{List}
use Prim.Native.Nat.{ℕ, ◌<◌}
use native.Mathlib.Omega.{arith}
use lib.Dec.{eqb}
use borrow.Author.Tests.{lt-ltb, le-ltb, eqb-true}
use Rattle.base_lists.proofs.Tests.{by_cases}
use Rattle.plan_format.specs.Sizes.{no_operation}
use Rattle.plan_format.specs.Plan.{Plan, count}
use Rattle.plan_format.specs.Sound.{Sound}
use Rattle.plan_order.specs.Precedence.{before, at_or_before}
use Rattle.plan_order.specs.Runs.{is_full}
use Rattle.plan_order.proofs.Precedence.{not_itself}
use Rattle.check_columns.specs.Columns.{QueueColumn, RowColumns}
use Rattle.check_columns.proofs.Ordered.{ordered_right}
use Rattle.check_marks.specs.Passes.{late, early}

module _ (p : Plan) (sound : Sound p) (queue rows : List ℕ) (queues_shown : QueueColumn p queue)
    (rows_shown : RowColumns p (λ j. j < count p) rows) where
  -- a use and the free of its holding
  pub late_right : (i g : ℕ) → i < count p → g < count p → late queue rows i g ≡ not (at_or_before p i g)
  unfolding late
  late_right i g a b = rw (
    lt-ltb g no_operation (omega (arith, sound.few_operations)),
    ordered_right p sound queue rows queues_shown rows_shown i g a b,
  )

  pub late_nothing : (i : ℕ) → late queue rows i no_operation ≡ false
  unfolding late
  late_nothing i = rw (le-ltb no_operation no_operation (omega arith))

  -- a mark and the free before its holding
  pub early_nothing : (i : ℕ) → early queue rows no_operation i ≡ false
  unfolding early
  early_nothing i = rw (le-ltb no_operation no_operation (omega arith))

  pub early_right : (f : List ℕ) → is_full p f ≡ true → (g i : ℕ) → g < count p → i < count p →
      early queue rows g i ≡ not (before p g i)
  unfolding early at_or_before
  early_right f full g i a b =
      rw (
        lt-ltb g no_operation (omega (arith, sound.few_operations)),
        ordered_right p sound queue rows queues_shown rows_shown g i a b,
      )
      (by_cases (eqb g i)
      (λ t. rw t
      (sym (ap (λ (b : Bool). not b)
      (subst (λ (z : ℕ). before p g z ≡ false) (eqb-true g i t) (not_itself p f full g)))))
      (λ n. rw n))
