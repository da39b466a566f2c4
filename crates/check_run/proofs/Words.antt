-- Bits of a word: the lowest, how many, one added, one taken away. Assumes nothing.
use mathlib.Core.Path.{◌≡◌, refl, sym, ap, ap₂, ◌∙◌}
use mathlib.Core.Bool.{Bool, true, false, ◌&&◌, ◌||◌, not, cond}
use Prim.Native.Nat.{ℕ, zero, suc, ◌+◌, ◌-◌, ◌/◌, ◌%◌, ◌^◌, ◌≤◌, ◌<◌, max}
use native.Mathlib.Nat.{not-suc-le-zero, le_of_suc-le-suc, pow-suc}
use native.Mathlib.Omega.{arith}
use lib.Dec.{eqb}
use lib.Bits.{bit_or, or_step, or_shr}
use lib.Count.{ones, count_trailing_zeros, ones_step}
use lib.Pow.{pow_pos}
use borrow.Author.Tests.{eqb-true, eqb-false, eq-eqb, ne_eqb}
use Rattle.base_lists.specs.Lists.{tally}
use Rattle.base_lists.proofs.Tests.{by_cases}
use Rattle.check_run.specs.Words.{has, LowestBit}

digit_small : (m : ℕ) → m % 2 < 2
digit_small m = omega arith

pub has_none : (q : ℕ) → has 0 q ≡ false
unfolding has
has_none zero = refl
has_none (suc q) = has_none q

-- ---- the lowest bit
lowest_here : (m : ℕ) → m % 2 ≡ 1 → LowestBit m 0
lowest_here m e = record { there = unfold has in (eq-eqb (m % 2) 1 e); lower = λ i l. absurd (not-suc-le-zero l) }

lowest_up : (m q : ℕ) → m % 2 ≡ 0 → LowestBit (m / 2) q → LowestBit m (suc q)
lowest_up m q e h = record { there = unfold has in h.there; lower = lower }
  where
    lower : (i : ℕ) → i < suc q → has m i ≡ false
    lower zero l = unfold has in (ne_eqb (m % 2) 1 (λ z. omega arith))
    lower (suc i) l = unfold has in (h.lower i (le_of_suc-le-suc l))

pub trailing_lowest : (w k m : ℕ) → k ≤ w → 0 < m → m < 2 ^ k →
    (count_trailing_zeros w m < k) × LowestBit m (count_trailing_zeros w m)
unfolding count_trailing_zeros
trailing_lowest zero zero m a b c = absurd (omega arith)
trailing_lowest zero (suc k) m a b c = absurd (not-suc-le-zero a)
trailing_lowest (suc w) zero m a b c = absurd (omega arith)
trailing_lowest (suc w) (suc k) m a b c =
    by_cases (eqb (m % 2) 0)
    (λ t. let e = eqb-true (m % 2) 0 t in
    let ih = trailing_lowest w k (m / 2) (le_of_suc-le-suc a) (omega arith) (omega (arith, pow-suc 2 k)) in
    rw e (omega (arith, ih.0), lowest_up m (count_trailing_zeros w (m / 2)) e ih.1))
    (λ f. let e : m % 2 ≡ 1 = omega (arith, eqb-false (m % 2) 0 f) in
    rw e (omega arith, lowest_here m e))

-- ---- how many
tally_first : (n : ℕ) (f : ℕ → Bool) → tally (suc n) f ≡ cond (f 0) 1 0 + tally n (λ i. f (suc i))
unfolding tally
tally_first zero f = refl
tally_first (suc n) f = omega (arith, tally_first n f)

pub ones_bits : (k m : ℕ) → m < 2 ^ k → ones m ≡ tally k (λ q. has m q)
unfolding has
ones_bits zero m l = let z : m ≡ 0 = omega arith in rw z (unfold ones tally in refl)
ones_bits (suc k) m l =
    ones_step m
    ∙ ap₂ (λ (x y : ℕ). x + y) (lowest_one (m % 2) (digit_small m)) (ones_bits k (m / 2) (omega (arith, pow-suc 2 k)))
    ∙ sym (tally_first k (λ q. has m q))
  where
    lowest_one : (d : ℕ) → d < 2 → d ≡ cond (eqb d 1) 1 0
    lowest_one zero l = refl
    lowest_one (suc zero) l = refl
    lowest_one (suc (suc d)) l = absurd (omega arith)

-- ---- one bit alone, and words joined
eqb_suc : (a b : ℕ) → eqb (suc a) (suc b) ≡ eqb a b
eqb_suc a b =
    by_cases (eqb a b) (λ t. eq-eqb (suc a) (suc b) (ap suc (eqb-true a b t)) ∙ sym t)
    (λ f. ne_eqb (suc a) (suc b) (λ z. eqb-false a b f (let e : a ≡ b = omega arith in e)) ∙ sym f)

pub has_unit : (q k : ℕ) → has (2 ^ q) k ≡ eqb q k
unfolding has
has_unit zero zero = refl
has_unit zero (suc k) = has_none k ∙ sym (ne_eqb 0 (suc k) (λ z. omega arith))
has_unit (suc q) zero = ne_eqb (2 ^ suc q % 2) 1 (λ z. omega (arith, pow-suc 2 q))
    ∙ sym (ne_eqb (suc q) 0 (λ z. omega arith))
has_unit (suc q) (suc k) =
    ap (λ (x : ℕ). has x k) (let e : 2 ^ suc q / 2 ≡ 2 ^ q = omega (arith, pow-suc 2 q) in e) ∙ has_unit q k
    ∙ sym (eqb_suc q k)

pub has_or : (a b q : ℕ) → has (bit_or a b) q ≡ (has a q || has b q)
unfolding has
has_or a b zero = rw e (larger (a % 2) (b % 2) (digit_small a) (digit_small b))
  where
    e : bit_or a b % 2 ≡ max (a % 2) (b % 2)
    e = omega (arith, or_step a b)

    larger : (x y : ℕ) → x < 2 → y < 2 → eqb (max x y) 1 ≡ (eqb x 1 || eqb y 1)
    larger x y l u =
        by_cases (eqb x 1)
        (λ t. rw t (eq-eqb (max x y) 1 (omega (arith, eqb-true x 1 t))))
        (λ f. rw f (ap (λ (z : ℕ). eqb z 1) (let e : max x y ≡ y = omega (arith, eqb-false x 1 f) in e)))
has_or a b (suc q) = rw (or_shr a b 1) (has_or (a / 2) (b / 2) q)

-- ---- one bit taken away
pub has_le : (m q : ℕ) → has m q ≡ true → 2 ^ q ≤ m
unfolding has
has_le m zero h = omega (arith, eqb-true (m % 2) 1 h)
has_le m (suc q) h = omega (arith, has_le (m / 2) q h, pow-suc 2 q)

pub has_minus : (m q k : ℕ) → has m q ≡ true → has (m - 2 ^ q) k ≡ (not (eqb q k) && has m k)
unfolding has
has_minus m zero zero h = ne_eqb ((m - 1) % 2) 1 (λ z. omega (arith, eqb-true (m % 2) 1 h))
has_minus m zero (suc k) h =
    rw (ne_eqb 0 (suc k) (λ z. omega arith))
    (ap (λ (x : ℕ). has x k) (let e : (m - 1) / 2 ≡ m / 2 = omega (arith, eqb-true (m % 2) 1 h) in e))
has_minus m (suc q) zero h =
    rw (ne_eqb (suc q) 0 (λ z. omega arith))
    (ap (λ (x : ℕ). eqb x 1)
    (let e : (m - 2 ^ suc q) % 2 ≡ m % 2 = omega (arith, pow-suc 2 q, has_le (m / 2) q h) in e))
has_minus m (suc q) (suc k) h =
    rw (eqb_suc q k) (ap (λ (x : ℕ). has x k)
    (let e : (m - 2 ^ suc q) / 2 ≡ m / 2 - 2 ^ q = omega (arith, pow-suc 2 q, has_le (m / 2) q h) in e)
    ∙ has_minus (m / 2) q k h)

pub has_split : (m q k : ℕ) → has m q ≡ true → has m k ≡ (has (2 ^ q) k || has (m - 2 ^ q) k)
has_split m q k h =
    by_cases (eqb q k)
    (λ t. rw (has_unit q k, t) (ap (λ (x : ℕ). has m x) (sym (eqb-true q k t)) ∙ h))
    (λ f. rw (has_unit q k, has_minus m q k h, f))

-- ---- every bit
pub has_all : (m k : ℕ) → k < m → has (2 ^ m - 1) k ≡ true
unfolding has
has_all zero k l = absurd (not-suc-le-zero l)
has_all (suc m) zero l = eq-eqb ((2 ^ suc m - 1) % 2) 1 (omega (arith, pow-suc 2 m, pow_pos m))
has_all (suc m) (suc k) l =
    ap (λ (x : ℕ). has x k) (let e : (2 ^ suc m - 1) / 2 ≡ 2 ^ m - 1 = omega (arith, pow-suc 2 m, pow_pos m) in e)
    ∙ has_all m k (le_of_suc-le-suc l)
