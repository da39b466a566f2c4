-- The search for an axis in a list, from a position on. Assumes nothing.
use mathlib.Core.Path.{◌≡◌, refl, sym, ◌∙◌}
use mathlib.Core.Bool.{Bool, true, false, ◌||◌}
use mathlib.Core.List.{List, [], ◌∷◌}
use Prim.Native.Nat.{ℕ, ◌+◌, ◌≤◌, ◌<◌}
use native.Mathlib.Numerals.{add-one}
use lib.Dec.{eqb}
use lib.ListN.{length, get_or, drop, drop_of_length-le}
use lib.Seq.{drop-cons}
use borrow.Author.Tests.{eq-eqb, ne_eqb}
use Rattle.base_lists.specs.Lists.{member}
use Rattle.plan_format.specs.Form.{new_axis}

-- 5 for an axis that is there already, after the count
axis_twice : new_axis (2 ∷ 7 ∷ []) 7 ≡ 5
unfolding new_axis member
axis_twice = refl

module _ (list : List ℕ) (v i : ℕ) where
  step : i < length list → member v (drop i list) ≡ (eqb (get_or list i 0) v || member v (drop (i + 1) list))
  unfolding member
  step h = rw (drop-cons list i 0 h, add-one i)

  pub seen_here : i < length list → get_or list i 0 ≡ v → member v (drop i list) ≡ true
  seen_here h e = step h ∙ rw (eq-eqb (get_or list i 0) v e)

  pub seen_next : i < length list → (get_or list i 0 ≡ v → ⊥) → member v (drop i list) ≡ member v (drop (i + 1) list)
  seen_next h e = step h ∙ rw (ne_eqb (get_or list i 0) v e)

  pub seen_end : length list ≤ i → member v (drop i list) ≡ false
  unfolding member
  seen_end h = rw (drop_of_length-le list {i = i} h)

-- the check of an axis, from the answer of the search
module _ (got : List ℕ) (v : ℕ) (answer : Bool) (found : answer ≡ member v (drop 1 got)) where
  pub axis_again : answer ≡ true → new_axis got v ≡ 5
  unfolding new_axis
  axis_again t = rw (sym found ∙ t)

  pub axis_new : answer ≡ false → new_axis got v ≡ 0
  unfolding new_axis
  axis_new f = rw (sym found ∙ f)
