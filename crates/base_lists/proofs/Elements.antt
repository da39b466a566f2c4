-- Elements of a list and the places where they are; every place of a repeated number. Assumes nothing.
use mathlib.Core.Path.{◌≡◌, refl, sym}
use mathlib.Core.List.Memᴰ
use mathlib.Core.List.{List, [], ◌∷◌, Memᴰ}
use Prim.Native.Nat.{ℕ, zero, suc, ◌<◌}
use native.Mathlib.Nat.{not-suc-le-zero, le_of_suc-le-suc}
use native.Mathlib.Omega.{arith}
use lib.ListN.{length, get_or, replicate}
use Rattle.base_lists.proofs.Tests.{either}

module _ {A : Type 0} (d : A) where
  pub element_at : (xs : List A) (k : ℕ) → k < length xs → Memᴰ (get_or xs k d) xs
  element_at [] k l = absurd (not-suc-le-zero l)
  element_at (x ∷ xs) zero l = Memᴰ.head refl
  element_at (x ∷ xs) (suc k) l = Memᴰ.tail (element_at xs k (le_of_suc-le-suc l))

  pub element_place : (xs : List A) (a : A) → Memᴰ a xs → (k : ℕ) × (k < length xs) × (get_or xs k d ≡ a)
  element_place [] a m = absurd (Memᴰ.not-nil m)
  element_place (x ∷ xs) a m =
      either (Memᴰ.cases_cons m) (λ e. (0, omega arith, sym e))
      (λ t. let w = element_place xs a t in (suc w.0, omega (arith, w.1), w.2))

pub replicate_at : {A : Type 0} (many : ℕ) (a : A) (k : ℕ) → get_or (replicate many a) k a ≡ a
replicate_at zero a k = refl
replicate_at (suc many) a zero = refl
replicate_at (suc many) a (suc k) = replicate_at many a k
