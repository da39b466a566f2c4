-- Where a number first is in a list: inside a part, or past it. Assumes nothing.
use mathlib.Core.Path.{◌≡◌, sym, subst}
use mathlib.Core.Bool.{true, false}
use mathlib.Core.List.{List, [], ◌∷◌, ◌++◌}
use Prim.Native.Nat.{ℕ, suc, ◌+◌, ◌≤◌, ◌<◌}
use native.Mathlib.Nat.{le_refl}
use native.Mathlib.Omega.{arith}
use lib.Dec.{eqb}
use lib.ListN.{length}
use borrow.Author.Tests.{eqb-true, eqb-false}
use Rattle.base_lists.specs.Lists.{member}
use Rattle.base_lists.proofs.Tests.{by_cases, clash, is_false, either}
use Rattle.base_lists.proofs.Members.{member_nil, member_here, member_there, member_cons}
use Rattle.order.specs.Runs.{step_of}

pub step_least : (xs : List ℕ) (a j : ℕ) → a ≤ step_of a xs j
unfolding step_of
step_least [] a j = le_refl a
step_least (x ∷ xs) a j =
    by_cases (eqb x j) (λ t. rw t (le_refl a)) (λ f. rw f (omega (arith, step_least xs (suc a) j)))

-- a member is inside, and what follows the list does not matter to it
pub step_in : (xs ys : List ℕ) (a j : ℕ) → member j xs ≡ true → step_of a (xs ++ ys) j < a + length xs
unfolding step_of
step_in [] ys a j m = member_nil j m
step_in (x ∷ xs) ys a j m =
    by_cases (eqb x j) (λ t. rw t (omega arith))
    (λ f. rw f (either (member_cons j x xs m) (λ q. absurd (eqb-false x j f q))
    (λ m'. omega (arith, step_in xs ys (suc a) j m'))))

pub step_past : (xs ys : List ℕ) (a j : ℕ) → member j xs ≡ false → a + length xs ≤ step_of a (xs ++ ys) j
unfolding step_of
step_past [] ys a j m = omega (arith, step_least ys a j)
step_past (x ∷ xs) ys a j m =
    by_cases (eqb x j)
    (λ t. clash (member j (x ∷ xs))
    (subst (λ (z : ℕ). member j (z ∷ xs) ≡ true) (sym (eqb-true x j t)) (member_here j xs)) m)
    (λ f. rw f (omega (
      arith,
      step_past xs ys (suc a) j (is_false (member j xs) (λ u. clash (member j (x ∷ xs)) (member_there j x xs u) m)),
    )))

pub step_order : (xs ys : List ℕ) (i j : ℕ) → member i xs ≡ true → member j xs ≡ false →
    step_of 0 (xs ++ ys) i < step_of 0 (xs ++ ys) j
step_order xs ys i j a b = omega (arith, step_in xs ys 0 i a, step_past xs ys 0 j b)
