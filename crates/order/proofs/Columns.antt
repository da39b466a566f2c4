-- Initial parts of a column: the size of a union is the larger size, and a size tells what is in it. Assumes nothing.
use mathlib.Core.Path.{◌≡◌, sym, ap, subst}
use mathlib.Core.Bool.{Bool, true, ◌&&◌, ◌||◌, not}
use Prim.Native.Nat.{ℕ, suc, ◌+◌, ◌≤◌, ◌<◌, max}
use native.Mathlib.Nat.{le_trans}
use native.Mathlib.Omega.{arith}
use lib.Dec.{ltb, eqb}
use borrow.Author.Tests.{ltb-true, ltb-false, eqb-true, eqb-false, not-true}
use Rattle.base_lists.specs.Lists.{tally}
use Rattle.base_lists.proofs.Tests.{by_cases, clash, is_true, is_false, and_left, and_right, and_both, not_of_false}
use Rattle.base_lists.proofs.Tests.{either}
use Rattle.base_lists.proofs.Tallies.{find_below, tally_mono, tally_same, tally_further, tally_ends}

-- ---- of two initial parts of what passes a test, one has the other
abbrev pub Initial : (n : ℕ) → (on f : ℕ → Bool) → Type 0
Initial n on f = (i k : ℕ) → i < k → k < n → on i ≡ true → on k ≡ true → f k ≡ true → f i ≡ true

module _ (n : ℕ) (on : ℕ → Bool) where
  inside : (f g : ℕ → Bool) → ((i : ℕ) → i < n → on i ≡ true → g i ≡ true → f i ≡ true) →
      (tally n (λ i. on i && (f i || g i)) ≡ tally n (λ i. on i && f i)) ×
      (tally n (λ i. on i && g i) ≤ tally n (λ i. on i && f i))
  inside f g h = (
    tally_same n (λ i. on i && (f i || g i)) (λ i. on i && f i) (λ i l. by_cases (on i)
        (λ t. rw t (by_cases (f i) (λ a. rw a) (λ a. rw a (is_false (g i) (λ b. clash (f i) (h i l t b) a)))))
        (λ t. rw t)),
    tally_mono n (λ i. on i && g i) (λ i. on i && f i)
        (λ i l e. and_both (on i) (f i) (and_left (on i) (g i) e)
        (h i l (and_left (on i) (g i) e) (and_right (on i) (g i) e))),
  )

  swap : (f g : ℕ → Bool) → tally n (λ i. on i && (f i || g i)) ≡ tally n (λ i. on i && (g i || f i))
  swap f g =
      tally_same n (λ i. on i && (f i || g i)) (λ i. on i && (g i || f i))
      (λ i l. ap (λ (b : Bool). on i && b) (mathlib.Core.Bool.or_comm (f i) (g i)))

  pub union_max : (f g : ℕ → Bool) → Initial n on f → Initial n on g →
      tally n (λ i. on i && (f i || g i)) ≡ max (tally n (λ i. on i && f i)) (tally n (λ i. on i && g i))
  union_max f g a b =
      either (find_below n (λ i. on i && (f i && not (g i))))
      (λ w. let o = and_left (on w.0) (f w.0 && not (g w.0)) w.2 in
      let both = and_right (on w.0) (f w.0 && not (g w.0)) w.2 in
      let fw = and_left (f w.0) (not (g w.0)) both in
      let gw = not-true (g w.0) (and_right (f w.0) (not (g w.0)) both) in
      let c = inside f g (λ i l t e. by_cases (ltb i w.0) (λ u. a i w.0 (ltb-true i w.0 u) w.1 t o fw)
      (λ u. by_cases (eqb i w.0) (λ q. clash (g w.0) (subst (λ (z : ℕ). g z ≡ true) (eqb-true i w.0 q) e) gw)
      (λ q. clash (g w.0) (b w.0 i (omega (arith, ltb-false i w.0 u, eqb-false i w.0 q)) l o t e) gw))) in
      omega (arith, c.0, c.1))
      (λ h. let c = inside g f (λ i l t e. is_true (g i) (λ u. clash (on i && (f i && not (g i)))
      (and_both (on i) (f i && not (g i)) t (and_both (f i) (not (g i)) e (not_of_false (g i) u))) (h i l))) in
      omega (arith, swap f g, c.0, c.1))

-- ---- a size tells what is in the part
module _ (n : ℕ) (on : ℕ → Bool) (f : ℕ → Bool) (initial : Initial n on f) (i : ℕ) (inside : i < n)
    (here : on i ≡ true) where
  pub initial_reaches : f i ≡ true → tally (suc i) on ≤ tally n (λ k. on k && f k)
  initial_reaches t =
      le_trans (tally_mono (suc i) on (λ k. on k && f k) (λ k l o. and_both (on k) (f k) o
      (by_cases (eqb k i) (λ q. subst (λ (z : ℕ). f z ≡ true) (sym (eqb-true k i q)) t)
      (λ q. initial k i (omega (arith, eqb-false k i q)) inside o here t))))
      (tally_further (suc i) n (λ k. on k && f k) inside)

  pub reaches_initial : tally (suc i) on ≤ tally n (λ k. on k && f k) → f i ≡ true
  reaches_initial h =
      is_true (f i) (λ e. absurd (
      let ends = tally_ends i n (λ k. on k && f k) (λ k a l. is_false (on k && f k) (λ t. clash (f i)
      (by_cases (eqb k i) (λ q. subst (λ (z : ℕ). f z ≡ true) (eqb-true k i q) (and_right (on k) (f k) t))
      (λ q. initial i k (omega (arith, eqb-false k i q)) l here (and_left (on k) (f k) t) (and_right (on k) (f k) t)))
      e)) in
      let fewer = tally_mono i (λ k. on k && f k) on (λ k l t. and_left (on k) (f k) t) in
      let one : tally (suc i) on ≡ 1 + tally i on = unfold tally in (rw here) in
      omega arith))
