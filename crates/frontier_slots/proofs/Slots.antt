-- Slots of two arrays as a list of entries: from a place on. Assumes nothing.
use mathlib.Core.Path.{◌≡◌, ap}
use mathlib.Core.List.{List, [], ◌∷◌}
use Prim.Native.Nat.{ℕ, suc, ◌+◌, ◌-◌, ◌≤◌, ◌<◌}
use native.Mathlib.Nat.{sub-zero}
use native.Mathlib.Numerals.{add-one}
use native.Mathlib.Omega.{arith}
use Rattle.base_lists.specs.Lists.{tabulate_from}
use Rattle.frontier_slots.specs.Slots.{slot, slots, rest}

module _ (xs es : List ℕ) where
  pub rest_all : (n : ℕ) → rest xs es n 0 ≡ slots xs es n 0
  rest_all n = rw sub-zero

  -- from slot i on: the slot, and what comes after it
  pub rest_more : (n i : ℕ) → i < n → rest xs es n i ≡ slot xs es i ∷ rest xs es n (i + 1)
  unfolding slots tabulate_from
  rest_more n i h = rw (add-one i) (ap (λ k. tabulate_from k i (slot xs es)) (left n i h))
    where
      left : (n i : ℕ) → i < n → n - i ≡ suc (n - suc i)
      left n i h = omega arith

  pub rest_none : (n i : ℕ) → n ≤ i → rest xs es n i ≡ []
  unfolding slots tabulate_from
  rest_none n i h = ap (λ k. tabulate_from k i (slot xs es)) (left n i h)
    where
      left : (n i : ℕ) → n ≤ i → n - i ≡ 0
      left n i h = omega arith
