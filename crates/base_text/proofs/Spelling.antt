-- The digits that the kit spells are the fewest that hold the number; lists of numbers with blanks between. Assumes
-- nothing.
use mathlib.Core.Path.{◌≡◌, refl, ap}
use mathlib.Core.List.{List, [], ◌∷◌, ◌++◌, map}
use Rattle.std.proofs.lemmas.List.{map-id}
use Prim.Native.Nat.{ℕ, zero, suc, ◌*◌, ◌^◌, ◌/◌, ◌%◌, ◌<◌, ◌≤◌}
use native.Mathlib.Omega.{arith}
use native.Mathlib.Nat.{pow-suc}
use lib.ListN.{length}
use borrow.Author.Tests.{lt-ltb, le-ltb}
use Rattle.io.specs.Digits.{hex_digit_ascii, last_digits, IsDigitCount}
use Rattle.base_text.specs.Text.{decimal, decimal_by, blanked, spaced}

spelled_by : (k f n : ℕ) → k < f → n < 10 ^ suc k → (0 < k → 10 ^ k ≤ n) → last_digits 10 (suc k) n ≡ decimal_by f n
unfolding decimal_by
spelled_by k zero n h l m = absurd (omega arith)
spelled_by zero (suc f) n h l m = let e : n % 10 ≡ n = omega arith in rw (e, lt-ltb n 10 (omega arith))
spelled_by (suc k) (suc f) n h l m =
    let low : 10 ^ suc k ≤ n = m (omega arith) in
    let p : 10 ^ suc k ≡ 10 ^ k * 10 = pow-suc 10 k in
    let q : 10 ^ suc (suc k) ≡ 10 ^ suc k * 10 = pow-suc 10 (suc k) in
    rw (le-ltb n 10 (omega arith))
    (ap (λ (d : List ℕ). d ++ (hex_digit_ascii (n % 10) ∷ []))
    (spelled_by k f (n / 10) (omega arith) (omega arith) (λ _. omega arith)))

below_power : (k : ℕ) → k < 10 ^ k
below_power zero = omega arith
below_power (suc k) = omega (arith, below_power k, pow-suc 10 k)

pub spelled : (r n : ℕ) → IsDigitCount 10 1 n r → last_digits 10 r n ≡ decimal n
unfolding decimal
spelled zero n w = absurd (omega (arith, w.0))
spelled (suc k) n w = spelled_by k (suc n) n (few k lower) w.1 lower
  where
    at_least : {j : ℕ} → j ≡ k → 10 ^ j ≤ n → 10 ^ k ≤ n
    at_least e l = rw e at l

    lower : 0 < k → 10 ^ k ≤ n
    lower p = at_least (omega arith) (w.2 (omega arith))

    few : (j : ℕ) → (0 < j → 10 ^ j ≤ n) → j < suc n
    few zero l = omega arith
    few (suc j) l = omega (arith, below_power (suc j), l (omega arith))

-- ---- lists with blanks between

pub spaced_none : (ns : List ℕ) → length ns ≡ 0 → spaced ns ≡ []
unfolding spaced
spaced_none [] h = refl
spaced_none (n ∷ ns) h = absurd (omega arith)

pub blanked_each : (ns : List ℕ) → blanked (map (λ (n : ℕ). n) ns) ≡ blanked ns
blanked_each ns = ap blanked (map-id ns)
