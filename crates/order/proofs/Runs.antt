-- Runs of numbers below n under a readiness: what a run is made of; where readiness only grows, what is missing after a
-- stuck run is in none. Assumes nothing.
use mathlib.Core.Path.{◌≡◌, refl, sym, subst}
use mathlib.Core.Bool.{Bool, true, false, ◌&&◌, not}
use mathlib.Core.List.{List, [], ◌∷◌, ◌++◌, append_assoc, append-nil}
use Prim.Native.Nat.{ℕ, ◌≤◌, ◌<◌}
use native.Mathlib.Omega.{arith}
use lib.Dec.{ltb}
use lib.ListN.{length}
use borrow.Author.Tests.{ltb-true, lt-ltb, not-true}
use Rattle.base_lists.specs.Lists.{member}
use Rattle.base_lists.proofs.Tests.{clash, is_true, is_false, and_left, and_right, and_both, not_of_false, either}
use Rattle.base_lists.proofs.Members.{Sub, member_nil, member_snoc}
use Rattle.base_lists.proofs.Tallies.{find_below}
use Rattle.base_lists.proofs.Distinct.{Sized, sized_nil, sized_snoc, sized_all, sized_sub}
use Rattle.order.specs.Runs.{can, runs}

module _ (n : ℕ) (enabled : List ℕ → ℕ → Bool) where
  -- what `can` says, and what it takes
  pub can_below : (r : List ℕ) (j : ℕ) → can n enabled r j ≡ true → j < n
  unfolding can
  can_below r j c =
      ltb-true j n (and_left (ltb j n) (not (member j r)) (and_left (ltb j n && not (member j r)) (enabled r j) c))

  pub can_fresh : (r : List ℕ) (j : ℕ) → can n enabled r j ≡ true → member j r ≡ false
  unfolding can
  can_fresh r j c =
      not-true (member j r)
      (and_right (ltb j n) (not (member j r)) (and_left (ltb j n && not (member j r)) (enabled r j) c))

  pub can_enabled : (r : List ℕ) (j : ℕ) → can n enabled r j ≡ true → enabled r j ≡ true
  unfolding can
  can_enabled r j c = and_right (ltb j n && not (member j r)) (enabled r j) c

  pub can_by : (r : List ℕ) (j : ℕ) → j < n → member j r ≡ false → enabled r j ≡ true → can n enabled r j ≡ true
  unfolding can
  can_by r j l f e =
      and_both (ltb j n && not (member j r)) (enabled r j)
      (and_both (ltb j n) (not (member j r)) (lt-ltb j n l) (not_of_false (member j r) f)) e

  pub runs_head : (r : List ℕ) (j : ℕ) (js : List ℕ) → runs n enabled r (j ∷ js) ≡ true → can n enabled r j ≡ true
  unfolding runs
  runs_head r j js h = and_left (can n enabled r j) (runs n enabled (r ++ (j ∷ [])) js) h

  pub runs_tail : (r : List ℕ) (j : ℕ) (js : List ℕ) → runs n enabled r (j ∷ js) ≡ true →
      runs n enabled (r ++ (j ∷ [])) js ≡ true
  unfolding runs
  runs_tail r j js h = and_right (can n enabled r j) (runs n enabled (r ++ (j ∷ [])) js) h

  pub runs_cons : (r : List ℕ) (j : ℕ) (js : List ℕ) → can n enabled r j ≡ true →
      runs n enabled (r ++ (j ∷ [])) js ≡ true → runs n enabled r (j ∷ js) ≡ true
  unfolding runs
  runs_cons r j js c h = and_both (can n enabled r j) (runs n enabled (r ++ (j ∷ [])) js) c h

  pub runs_nil : (r : List ℕ) → runs n enabled r [] ≡ true
  unfolding runs
  runs_nil r = refl

  -- a run after a run
  pub runs_append : (r xs ys : List ℕ) → runs n enabled r xs ≡ true → runs n enabled (r ++ xs) ys ≡ true →
      runs n enabled r (xs ++ ys) ≡ true
  runs_append r [] ys a b = subst (λ (z : List ℕ). runs n enabled z ys ≡ true) (append-nil r) b
  runs_append r (x ∷ xs) ys a b =
      runs_cons r x (xs ++ ys) (runs_head r x xs a)
      (runs_append (r ++ (x ∷ [])) xs ys (runs_tail r x xs a)
      (subst (λ (z : List ℕ). runs n enabled z ys ≡ true) (sym (append_assoc r (x ∷ []) xs)) b))

  pub runs_snoc : (r : List ℕ) (j : ℕ) → runs n enabled [] r ≡ true → can n enabled r j ≡ true →
      runs n enabled [] (r ++ (j ∷ [])) ≡ true
  runs_snoc r j h c = runs_append [] r (j ∷ []) h (runs_cons r j [] c (runs_nil (r ++ (j ∷ []))))

  -- a run repeats nothing and stays below n
  pub runs_sized : (r js : List ℕ) → Sized n r → runs n enabled r js ≡ true → Sized n (r ++ js)
  runs_sized r [] s h = subst (λ (z : List ℕ). Sized n z) (sym (append-nil r)) s
  runs_sized r (j ∷ js) s h =
      let c = runs_head r j js h in
      subst (λ (z : List ℕ). Sized n z) (append_assoc r (j ∷ []) js)
      (runs_sized (r ++ (j ∷ [])) js (sized_snoc n j r (can_below r j c) (can_fresh r j c) s) (runs_tail r j js h))

  pub run_sized : (r : List ℕ) → runs n enabled [] r ≡ true → Sized n r
  run_sized r h = runs_sized [] r (sized_nil n) h

  -- a full run has every number below n
  pub full_all : (f : List ℕ) → runs n enabled [] f ≡ true → n ≤ length f → (i : ℕ) → i < n → member i f ≡ true
  full_all f h l = sized_all n f (run_sized f h) l

  -- what is in a run is below n
  pub runs_below : (r js : List ℕ) → ((i : ℕ) → member i r ≡ true → i < n) → runs n enabled r js ≡ true → (i : ℕ) →
      member i (r ++ js) ≡ true → i < n
  runs_below r [] b h i m = b i (subst (λ (z : List ℕ). member i z ≡ true) (append-nil r) m)
  runs_below r (j ∷ js) b h i m =
      runs_below (r ++ (j ∷ [])) js
      (λ k t. either (member_snoc k r j t) (λ u. b k u)
      (λ q. subst (λ (z : ℕ). z < n) q (can_below r j (runs_head r j js h))))
      (runs_tail r j js h) i (subst (λ (z : List ℕ). member i z ≡ true) (sym (append_assoc r (j ∷ []) js)) m)

  pub run_below : (r : List ℕ) → runs n enabled [] r ≡ true → (i : ℕ) → member i r ≡ true → i < n
  run_below r h i m = runs_below [] r (λ k t. member_nil k t) h i m

  -- ---- readiness only grows
  module _ (grows : (r s : List ℕ) (j : ℕ) → Sub r s → enabled r j ≡ true → enabled s j ≡ true) where
    -- a list after which nothing can run has all that is in any run
    pub stuck_has : (g : List ℕ) → ((j : ℕ) → can n enabled g j ≡ false) → (r js : List ℕ) → Sub r g →
        runs n enabled r js ≡ true → Sub (r ++ js) g
    stuck_has g stuck r [] b h = subst (λ (z : List ℕ). Sub z g) (sym (append-nil r)) b
    stuck_has g stuck r (j ∷ js) b h =
        let c = runs_head r j js h in
        let m : member j g ≡ true =
        is_true (member j g)
        (λ f. clash (can n enabled g j)
        (can_by g j (can_below r j c) f (grows r g j b (can_enabled r j c))) (stuck j)) in
        subst (λ (z : List ℕ). Sub z g) (append_assoc r (j ∷ []) js)
        (stuck_has g stuck (r ++ (j ∷ [])) js
        (λ i t. either (member_snoc i r j t) (λ u. b i u) (λ q. subst (λ (z : ℕ). member z g ≡ true) q m))
        (runs_tail r j js h))

    -- so what it lacks is in no run
    pub in_no_run : (g : List ℕ) → ((j : ℕ) → can n enabled g j ≡ false) → (i : ℕ) → member i g ≡ false → (r : List ℕ) →
        runs n enabled [] r ≡ true → member i r ≡ false
    in_no_run g stuck i lacks r h =
        is_false (member i r) (λ t. clash (member i g) (stuck_has g stuck [] r (λ k z. member_nil k z) h i t) lacks)

    -- where a full run exists, something can run after each run that is not full
    pub never_stuck : (f : List ℕ) → runs n enabled [] f ≡ true → n ≤ length f → (r : List ℕ) →
        runs n enabled [] r ≡ true → length r < n →
        (j : ℕ) × (can n enabled r j ≡ true)
    never_stuck f hf l r hr short =
        either (find_below n (λ j. can n enabled r j)) (λ w. (w.0, w.2)) (λ none_can. absurd
        (let le : length f ≤ length r =
        sized_sub n f r (run_sized f hf) (run_sized r hr)
        (stuck_has r
        (λ j. is_false (can n enabled r j) (λ t. clash (can n enabled r j) t (none_can j (can_below r j t)))) [] f
        (λ k z. member_nil k z) hf) in
        omega arith))
