-- Membership: in a longer list, in a joined list, at the end. Assumes nothing.
use mathlib.Core.Path.{◌≡◌, refl, sym, ◌∙◌}
use mathlib.Core.Bool.{true, ◌||◌, false≢true}
use mathlib.Core.Logic.{◌⊎◌, inl, inr}
use mathlib.Core.List.{List, [], ◌∷◌, ◌++◌}
use Prim.Native.Nat.{ℕ}
use lib.Dec.{eqb}
use borrow.Author.Tests.{eqb-true, eq-eqb}
use Rattle.base_lists.specs.Lists.{member}
use Rattle.base_lists.proofs.Tests.{by_cases, either, or_cases, or_left, or_right}

abbrev pub Sub : (xs ys : List ℕ) → Type 0
Sub xs ys = (i : ℕ) → member i xs ≡ true → member i ys ≡ true

pub member_nil : {A : Type 0} (i : ℕ) → member i [] ≡ true → A
unfolding member
member_nil i e = absurd (false≢true e)

pub member_here : (i : ℕ) (xs : List ℕ) → member i (i ∷ xs) ≡ true
unfolding member
member_here i xs = or_left (eqb i i) (member i xs) (eq-eqb i i refl)

pub member_there : (i x : ℕ) (xs : List ℕ) → member i xs ≡ true → member i (x ∷ xs) ≡ true
unfolding member
member_there i x xs e = or_right (eqb x i) (member i xs) e

pub member_cons : (i x : ℕ) (xs : List ℕ) → member i (x ∷ xs) ≡ true → (x ≡ i) ⊎ (member i xs ≡ true)
unfolding member
member_cons i x xs e = either (or_cases (eqb x i) (member i xs) e) (λ t. inl (eqb-true x i t)) (λ t. inr t)

pub member_append : (i : ℕ) (xs ys : List ℕ) → member i (xs ++ ys) ≡ (member i xs || member i ys)
unfolding member
member_append i [] ys = refl
member_append i (x ∷ xs) ys = by_cases (eqb x i) (λ t. rw t) (λ f. rw f (member_append i xs ys))

pub member_left : (i : ℕ) (xs ys : List ℕ) → member i xs ≡ true → member i (xs ++ ys) ≡ true
member_left i xs ys e = member_append i xs ys ∙ or_left (member i xs) (member i ys) e

pub member_right : (i : ℕ) (xs ys : List ℕ) → member i ys ≡ true → member i (xs ++ ys) ≡ true
member_right i xs ys e = member_append i xs ys ∙ or_right (member i xs) (member i ys) e

pub member_split : (i : ℕ) (xs ys : List ℕ) → member i (xs ++ ys) ≡ true → (member i xs ≡ true) ⊎ (member i ys ≡ true)
member_split i xs ys e = or_cases (member i xs) (member i ys) (sym (member_append i xs ys) ∙ e)

-- one more at the end
pub member_snoc : (i : ℕ) (xs : List ℕ) (j : ℕ) → member i (xs ++ (j ∷ [])) ≡ true → (member i xs ≡ true) ⊎ (j ≡ i)
member_snoc i xs j e =
    either (member_split i xs (j ∷ []) e) (λ t. inl t)
    (λ t. either (member_cons i j [] t) (λ q. inr q) (λ z. member_nil i z))

pub member_last : (j : ℕ) (xs : List ℕ) → member j (xs ++ (j ∷ [])) ≡ true
member_last j xs = member_right j xs (j ∷ []) (member_here j [])
