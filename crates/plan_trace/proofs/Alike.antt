-- Two lists that begin alike: shorter fronts, elements, and which of them are the same list. Assumes nothing.
use mathlib.Core.Path.{◌≡◌, sym, ap, ◌∙◌}
use mathlib.Core.List.{List}
use Prim.Native.Nat.{ℕ, ◌≤◌, ◌<◌}
use native.Mathlib.Omega.{arith}
use lib.ListN.{length, get_or, take, length-take}
use lib.Seq.{take_all, take-take, get_or-take}

module _ (n : ℕ) (xs ys : List ℕ) (same : take n xs ≡ take n ys) where
  pub same_front : (m : ℕ) → m ≤ n → take m xs ≡ take m ys
  same_front m l = sym (take-take m n xs l) ∙ ap (take m) same ∙ take-take m n ys l

  pub same_at : (k : ℕ) → k < n → get_or xs k 0 ≡ get_or ys k 0
  same_at k l = sym (get_or-take n xs k 0 l) ∙ ap (λ (z : List ℕ). get_or z k 0) same ∙ get_or-take n ys k 0 l

  pub same_long : (k : ℕ) → k ≤ n → k ≤ length xs → k ≤ length ys
  same_long k l h = omega (arith, length-take n xs, length-take n ys, ap length same)

  -- a list that ends inside the front
  pub same_short : length xs < n → xs ≡ ys
  same_short l =
      sym (take_all n xs (omega arith)) ∙ same ∙
      take_all n ys (omega (arith, length-take n xs, length-take n ys, ap length same))
