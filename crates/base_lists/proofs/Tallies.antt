-- How many numbers below a bound pass a test; a search below a bound. Assumes nothing.
use mathlib.Core.Path.{◌≡◌, refl, sym, ap, ◌∙◌, subst}
use mathlib.Core.Bool.{Bool, true, false, cond, false≢true}
use mathlib.Core.Logic.{◌⊎◌, inl, inr}
use Prim.Native.Nat.{ℕ, zero, suc, ◌+◌, ◌≤◌, ◌<◌, zero-le}
use native.Mathlib.Nat.{not-suc-le-zero, le_refl}
use native.Mathlib.Omega.{arith}
use lib.Dec.{eqb, leb}
use borrow.Author.Tests.{leb-true, leb-false, eqb-true, eqb-false}
use Rattle.base_lists.specs.Lists.{tally}
use Rattle.base_lists.proofs.Tests.{by_cases, either}

pub find_below : (n : ℕ) (f : ℕ → Bool) → ((j : ℕ) × (j < n) × (f j ≡ true)) ⊎ ((j : ℕ) → j < n → f j ≡ false)
find_below zero f = inr (λ j h. absurd (not-suc-le-zero h))
find_below (suc n) f =
    by_cases (f n) (λ t. inl (n, le_refl (suc n), t)) (λ e.
    either (find_below n f) (λ w. inl (w.0, omega (arith, w.1), w.2)) (λ h. inr (λ j l.
    by_cases (eqb j n) (λ q. ap f (eqb-true j n q) ∙ e) (λ q. h j (omega (arith, eqb-false j n q))))))

cond_le : (a b : Bool) → (a ≡ true → b ≡ true) → cond a 1 0 ≤ cond b 1 0
cond_le true true h = le_refl 1
cond_le true false h = absurd (false≢true (h refl))
cond_le false b h = zero-le

cond_le_one : (a : Bool) → cond a 1 0 ≤ 1
cond_le_one true = le_refl 1
cond_le_one false = zero-le

pub tally_mono : (n : ℕ) (f g : ℕ → Bool) → ((i : ℕ) → i < n → f i ≡ true → g i ≡ true) → tally n f ≤ tally n g
unfolding tally
tally_mono zero f g h = zero-le
tally_mono (suc n) f g h =
    omega (arith, cond_le (f n) (g n) (h n (le_refl (suc n))), tally_mono n f g (λ i l. h i (omega arith)))

pub tally_same : (n : ℕ) (f g : ℕ → Bool) → ((i : ℕ) → i < n → f i ≡ g i) → tally n f ≡ tally n g
unfolding tally
tally_same zero f g h = refl
tally_same (suc n) f g h = rw (h n (le_refl (suc n)), tally_same n f g (λ i l. h i (omega arith)))

pub tally_le : (n : ℕ) (f : ℕ → Bool) → tally n f ≤ n
unfolding tally
tally_le zero f = zero-le
tally_le (suc n) f = omega (arith, cond_le_one (f n), tally_le n f)

-- as many as the bound: all of them
pub tally_all : (n : ℕ) (f : ℕ → Bool) → n ≤ tally n f → (i : ℕ) → i < n → f i ≡ true
unfolding tally
tally_all zero f h i l = absurd (not-suc-le-zero l)
tally_all (suc n) f h i l =
    by_cases (f n) (λ t. let h' : suc n ≤ 1 + tally n f = subst (λ (b : Bool). suc n ≤ cond b 1 0 + tally n f) t h in
    by_cases (eqb i n) (λ q. ap f (eqb-true i n q) ∙ t)
    (λ q. tally_all n f (omega arith) i (omega (arith, eqb-false i n q))))
    (λ e. let h' : suc n ≤ 0 + tally n f = subst (λ (b : Bool). suc n ≤ cond b 1 0 + tally n f) e h in
    absurd (omega (arith, tally_le n f)))

-- one more passes: the count is one more
pub tally_one_more : (n : ℕ) (f g : ℕ → Bool) (x : ℕ) → x < n → f x ≡ false → g x ≡ true →
    ((i : ℕ) → (i ≡ x → ⊥) → g i ≡ f i) → tally n g ≡ suc (tally n f)
unfolding tally
tally_one_more zero f g x l a b h = absurd (not-suc-le-zero l)
tally_one_more (suc n) f g x l a b h =
    by_cases (eqb x n)
    (λ q. let e = eqb-true x n q in
    let fn : f n ≡ false = ap f (sym e) ∙ a in
    let gn : g n ≡ true = ap g (sym e) ∙ b in
    rw (fn, gn, tally_same n g f (λ i k. h i (λ z. omega arith))) (omega arith))
    (λ q. let ne = eqb-false x n q in
    rw (h n (λ z. ne (sym z)), tally_one_more n f g x (omega arith) a b h) (omega arith))

pub tally_full : (n : ℕ) (f : ℕ → Bool) → ((i : ℕ) → i < n → f i ≡ true) → tally n f ≡ n
unfolding tally
tally_full zero f h = refl
tally_full (suc n) f h = rw (h n (le_refl (suc n)), tally_full n f (λ i l. h i (omega arith))) (omega arith)

-- ---- a lower bound, and a test that fails from there on
pub tally_further : (m n : ℕ) (f : ℕ → Bool) → m ≤ n → tally m f ≤ tally n f
unfolding tally
tally_further m zero f h =
    subst (λ (z : ℕ). tally m f ≤ tally z f) (let e : m ≡ 0 = omega arith in e) (le_refl (tally m f))
tally_further m (suc n) f h =
    by_cases (eqb m (suc n))
    (λ t. subst (λ (z : ℕ). tally m f ≤ tally z f) (eqb-true m (suc n) t) (le_refl (tally m f)))
    (λ e. omega (arith, tally_further m n f (omega (arith, eqb-false m (suc n) e))))

pub tally_ends : (m n : ℕ) (f : ℕ → Bool) → ((k : ℕ) → m ≤ k → k < n → f k ≡ false) → tally n f ≤ tally m f
unfolding tally
tally_ends m zero f h = zero-le
tally_ends m (suc n) f h =
    by_cases (leb m n)
    (λ t. rw (h n (leb-true m n t) (le_refl (suc n))) (omega (arith, tally_ends m n f (λ k a b. h k a (omega arith)))))
    (λ e. tally_further (suc n) m f (omega (arith, leb-false m n e)))
