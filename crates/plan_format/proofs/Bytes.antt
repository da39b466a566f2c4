-- Numbers as little-endian bytes and back. Assumes nothing.
use mathlib.Core.Path.{◌≡◌, refl, ap}
use mathlib.Core.Bool.{true}
use mathlib.Core.List.{List, [], ◌∷◌, ◌++◌}
use Prim.Native.Nat.{ℕ, zero, suc, ◌+◌, ◌*◌, ◌/◌, ◌%◌, ◌^◌, ◌≤◌, ◌<◌, zero-le}
use native.Mathlib.Nat.{pow-suc, pow-le-pow_right, not-suc-le-zero}
use native.Mathlib.Omega.{arith}
use lib.Dec.{ltb, lit<}
use lib.ListN.{length, take, drop}
use borrow.Author.Tests.{ltb-true, lt-ltb}
use Rattle.base_lists.specs.Lists.{all}
use Rattle.base_lists.proofs.Tests.{and_left, and_right, and_both}
use Rattle.plan_format.specs.Grammar.{value, digits}
use Rattle.plan_format.specs.Stored.{all_bytes}

pub length_digits : (w v : ℕ) → length (digits w v) ≡ w
unfolding digits
length_digits zero v = refl
length_digits (suc w) v = ap suc (length_digits w _)

pub value_digits : (w v : ℕ) (more : List ℕ) → v < 256 ^ w → value (take w (digits w v ++ more)) ≡ v
unfolding value digits
value_digits zero v more h = omega arith
value_digits (suc w) v more h =
    let p = pow-suc 256 w in
    let i = value_digits w (v / 256) more (omega arith) in
    omega arith

pub digits_bytes : (w v : ℕ) → all_bytes (digits w v) ≡ true
unfolding all_bytes all digits
digits_bytes zero v = refl
digits_bytes (suc w) v =
    and_both (ltb (v % 256) 256) (all (λ b. ltb b 256) (digits w (v / 256))) (lt-ltb (v % 256) 256 (omega arith))
    (digits_bytes w (v / 256))

module _ (x : ℕ) (xs : List ℕ) (h : all_bytes (x ∷ xs) ≡ true) where
  bytes_head : x < 256
  unfolding all_bytes all
  bytes_head = ltb-true x 256 (and_left (ltb x 256) (all (λ b. ltb b 256) xs) h)

  bytes_tail : all_bytes xs ≡ true
  unfolding all_bytes all
  bytes_tail = and_right (ltb x 256) (all (λ b. ltb b 256) xs) h

pub bytes_drop : (n : ℕ) (xs : List ℕ) → all_bytes xs ≡ true → all_bytes (drop n xs) ≡ true
bytes_drop zero xs h = h
bytes_drop (suc n) [] h = h
bytes_drop (suc n) (x ∷ xs) h = bytes_drop n xs (bytes_tail x xs h)

pub bytes_append : (xs ys : List ℕ) → all_bytes xs ≡ true → all_bytes ys ≡ true → all_bytes (xs ++ ys) ≡ true
unfolding all_bytes all
bytes_append [] ys a b = b
bytes_append (x ∷ xs) ys a b =
    and_both (ltb x 256) (all (λ z. ltb z 256) (xs ++ ys)) (and_left (ltb x 256) (all (λ z. ltb z 256) xs) a)
    (bytes_append xs ys (bytes_tail x xs a) b)

pub value_below : (w : ℕ) (xs : List ℕ) → all_bytes xs ≡ true → value (take w xs) < 256 ^ w
unfolding value
value_below zero xs h = lit< tt
value_below (suc w) [] h = omega (arith, pow-le-pow_right {n = 256} (lit< tt) {i = 0} {j = suc w} zero-le)
value_below (suc w) (x ∷ xs) h =
    let b = bytes_head x xs h in
    let i = value_below w xs (bytes_tail x xs h) in
    omega (arith, pow-suc 256 w)

pub digits_value : (w : ℕ) (xs : List ℕ) → all_bytes xs ≡ true → w ≤ length xs →
    digits w (value (take w xs)) ≡ take w xs
unfolding value digits
digits_value zero xs h n = refl
digits_value (suc w) [] h n = absurd (not-suc-le-zero n)
digits_value (suc w) (x ∷ xs) h n =
    let b = bytes_head x xs h in
    let m : (x + 256 * value (take w xs)) % 256 ≡ x = omega arith in
    let d : (x + 256 * value (take w xs)) / 256 ≡ value (take w xs) = omega arith in
    rw (m, d) (ap (λ t. x ∷ t) (digits_value w xs (bytes_tail x xs h) (omega arith)))
