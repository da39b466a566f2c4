-- Epochs and rows count what they should: operations up to one on its queue, and those at or before one. Assumes
-- nothing.
use mathlib.Core.Path.{◌≡◌, sym, ◌∙◌}
use mathlib.Core.Bool.{◌&&◌}
use mathlib.Core.Logic.{◌↔◌}
use Prim.Native.Nat.{ℕ, suc, ◌+◌, ◌*◌, ◌<◌}
use native.Mathlib.Omega.{arith}
use lib.Dec.{eqb}
use lib.ListN.{get_or}
use borrow.Author.Tests.{eqb-true, eq-eqb}
use Rattle.base_lists.specs.Places.{Counts}
use Rattle.base_lists.proofs.Tests.{and_left, and_right, and_both}
use Rattle.base_lists.proofs.Places.{tally_counts}
use Rattle.plan_format.specs.Plan.{Plan, count, op}
use Rattle.plan_order.specs.Precedence.{same_queue, at_or_before}
use Rattle.plan_order.specs.Rows.{epoch, rows}
use Rattle.plan_order.specs.Meaning.{UpTo, InColumn}
use Rattle.plan_order.proofs.Precedence.{at_or_means}
use Rattle.plan_order.proofs.Rows.{on_queue, entry, rows_at}

module _ (p : Plan) where
  pub epoch_means : (i many : ℕ) → (epoch p i ≡ many) ↔ Counts (UpTo p i) many
  unfolding epoch same_queue
  epoch_means i many =
      tally_counts (suc i) (λ h. same_queue p h i) (UpTo p i)
      (λ h. (
        (λ w. (omega (arith, w.0), eq-eqb (op p h).queue (op p i).queue w.1)),
        (λ w. (omega (arith, w.0), eqb-true (op p h).queue (op p i).queue w.1)),
      )) many

  entry_means : (j q many : ℕ) → (entry p j q ≡ many) ↔ Counts (InColumn p j q) many
  unfolding entry on_queue
  entry_means j q many =
      tally_counts (count p) (λ i. on_queue p q i && at_or_before p i j) (InColumn p j q)
      (λ i. let a = eqb (op p i).queue q in let b = at_or_before p i j in (
        (λ w. (w.0, and_both a b (eq-eqb (op p i).queue q w.1) ((at_or_means p i j).1 w.2))),
        (λ w. (w.0, eqb-true (op p i).queue q (and_left a b w.1), (at_or_means p i j).0 (and_right a b w.1))),
      )) many

  pub rows_means : (j q many : ℕ) → j < count p → q < 16 →
      (get_or (rows p) (16 * j + q) 0 ≡ many) ↔ Counts (InColumn p j q) many
  rows_means j q many l b = (
    (λ e. (entry_means j q many).0 (sym (rows_at p j q l b) ∙ e)),
    (λ c. rows_at p j q l b ∙ (entry_means j q many).1 c),
  )
