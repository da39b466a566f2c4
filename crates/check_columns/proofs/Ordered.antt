-- Rows tell what is at or before what. Assumes nothing.
use mathlib.Core.Path.{◌≡◌, refl, sym, ◌∙◌, subst}
use mathlib.Core.Bool.{true, ◌&&◌}
use mathlib.Core.List.{List}
use Prim.Native.Nat.{ℕ, ◌+◌, ◌*◌, ◌%◌, ◌≤◌, ◌<◌}
use native.Mathlib.Nat.{le_trans}
use native.Mathlib.Omega.{arith}
use lib.Dec.{leb, eqb}
use borrow.Author.Tests.{leb-true, le-leb, eqb-true, eq-eqb}
use lib.ListN.{get_or}
use Rattle.base_lists.proofs.Tests.{by_cases, clash, is_false, and_left, and_right, and_both, or_cases, or_left}
use Rattle.base_lists.proofs.Tests.{or_right, either}
use Rattle.base_lists.proofs.Tallies.{tally_mono}
use Rattle.plan_format.specs.Sizes.{row_width}
use Rattle.plan_format.specs.Plan.{Plan, count, op}
use Rattle.plan_format.specs.Sound.{Sound}
use Rattle.plan_order.specs.Precedence.{before, at_or_before}
use Rattle.plan_order.proofs.Precedence.{before_chain, before_join}
use Rattle.plan_order.proofs.Rows.{on_queue, entry, row_at, entry_tells}
use Rattle.check_columns.specs.Columns.{QueueColumn, RowColumns}
use Rattle.check_columns.specs.Shown.{ordered}

module _ (p : Plan) where
  itself : (i : ℕ) → at_or_before p i i ≡ true
  unfolding at_or_before
  itself i = or_left (eqb i i) (before p i i) (eq-eqb i i refl)

  at_or_join : (k i j : ℕ) → at_or_before p k i ≡ true → at_or_before p i j ≡ true → at_or_before p k j ≡ true
  unfolding at_or_before
  at_or_join k i j a b =
      either (or_cases (eqb k i) (before p k i) a)
      (λ e. subst (λ (z : ℕ). at_or_before p z j ≡ true) (sym (eqb-true k i e)) b)
      (λ c. or_right (eqb k j) (before p k j) (either (or_cases (eqb i j) (before p i j) b)
      (λ e. subst (λ (z : ℕ). before p k z ≡ true) (eqb-true i j e) c)
      (λ d. before_join p k i j (before_chain p k i c) d)))

  -- a later row has at least what an earlier one has, in every column
  entry_grows : (i j q : ℕ) → at_or_before p i j ≡ true → entry p i q ≤ entry p j q
  unfolding entry
  entry_grows i j q h =
      tally_mono (count p) (λ k. on_queue p q k && at_or_before p k i) (λ k. on_queue p q k && at_or_before p k j)
      (λ k l t. and_both (on_queue p q k) (at_or_before p k j) (and_left (on_queue p q k) (at_or_before p k i) t)
      (at_or_join k i j (and_right (on_queue p q k) (at_or_before p k i) t) h))

  -- two rows tell it in the column of the first one's queue
  entries_tell : (i j : ℕ) → i < count p →
      leb (entry p i (op p i).queue) (entry p j (op p i).queue) ≡ at_or_before p i j
  entries_tell i j l =
      let q = (op p i).queue in
      by_cases (at_or_before p i j) (λ t. le-leb (entry p i q) (entry p j q) (entry_grows i j q t) ∙ sym t)
      (λ f. is_false (leb (entry p i q) (entry p j q)) (λ t. clash (at_or_before p i j)
      ((entry_tells p i j l).1 (le_trans ((entry_tells p i i l).0 (itself i)) (leb-true (entry p i q) (entry p j q) t)))
      f) ∙ sym f)

module _ (p : Plan) (sound : Sound p) (queue rows : List ℕ) (queues_shown : QueueColumn p queue)
    (rows_shown : RowColumns p (λ j. j < count p) rows) where
  pub ordered_right : (i j : ℕ) → i < count p → j < count p → ordered queue rows i j ≡ at_or_before p i j
  unfolding ordered QueueColumn RowColumns
  ordered_right i j a b =
      let low : (op p i).queue < row_width = omega (arith, (sound.in_range i a).queue, sound.few_queues) in
      let own = rows_shown i (op p i).queue a low ∙ row_at p i (op p i).queue low in
      let other = rows_shown j (op p i).queue b low ∙ row_at p j (op p i).queue low in
      let column : get_or queue i 0 % row_width ≡ (op p i).queue = omega (arith, queues_shown i a) in
      rw (column, own, other) (entries_tell p i j a)

-- the test of two entries of the rows
pub ordered_is : (queue rows : List ℕ) (i j x a b : ℕ) → x ≡ get_or queue i 0 →
    a ≡ get_or rows (row_width * i + x % row_width) 0 →
    b ≡ get_or rows (row_width * j + x % row_width) 0 → leb a b ≡ ordered queue rows i j
unfolding ordered
ordered_is queue rows i j x a b e f g = rw (f, g, e)
