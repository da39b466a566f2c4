-- Lists of refusal numbers: longer lists, 0 beside them, and lists that share no number. Assumes nothing.
use mathlib.Core.Path.{◌≡◌, sym, ap, ◌∙◌, subst}
use mathlib.Core.Bool.{true, false, not}
use mathlib.Core.List.{List, [], ◌∷◌, ◌++◌}
use Prim.Native.Nat.{ℕ}
use borrow.Author.Tests.{not-true}
use Rattle.base_lists.specs.Lists.{member, all}
use Rattle.base_lists.proofs.Tests.{clash, either, and_left, and_right}
use Rattle.base_lists.proofs.Members.{member_nil, member_here, member_there, member_cons, member_left, member_right}
use Rattle.plan_format.specs.RefusalNumbers.{OneOf, NoneOr}

-- ---- one of a list
pub one_is : (ns : List ℕ) {n m : ℕ} → n ≡ m → OneOf ns m → OneOf ns n
one_is ns e h = subst (OneOf ns) (sym e) h

-- a number of a list is none that the list lacks
pub not_one : (ns : List ℕ) (n m : ℕ) → member m ns ≡ false → OneOf ns n → n ≡ m → ⊥
not_one ns n m lacks h e = clash (member n ns) h (ap (λ (z : ℕ). member z ns) e ∙ lacks)

-- no number of the first list is in the second
abbrev pub Apart : (xs ys : List ℕ) → Type 0
Apart xs ys = all (λ x. not (member x ys)) xs ≡ true

pub apart : (xs ys : List ℕ) → Apart xs ys → (n : ℕ) → OneOf xs n → OneOf ys n → ⊥
unfolding all
apart [] ys a n h g = member_nil n h
apart (x ∷ xs) ys a n h g =
    either (member_cons n x xs h)
    (λ e. clash (member n ys) g
    (ap (λ (z : ℕ). member z ys) (sym e) ∙ not-true (member x ys)
    (and_left (not (member x ys)) (all (λ z. not (member z ys)) xs) a)))
    (λ t. apart xs ys (and_right (not (member x ys)) (all (λ z. not (member z ys)) xs) a) n t g)

-- ---- 0 or one of a list
module _ (ns : List ℕ) (n : ℕ) where
  pub none_or_zero : n ≡ 0 → NoneOr ns n
  none_or_zero e = one_is (0 ∷ ns) e (member_here 0 ns)

  pub none_or_one : OneOf ns n → NoneOr ns n
  none_or_one h = member_there n 0 ns h

  pub given_one : NoneOr ns n → (n ≡ 0 → ⊥) → OneOf ns n
  given_one h given = either (member_cons n 0 ns h) (λ e. absurd (given (sym e))) (λ t. t)

module _ (xs ys : List ℕ) (n : ℕ) where
  pub none_or_left : NoneOr xs n → NoneOr (xs ++ ys) n
  none_or_left h =
      either (member_cons n 0 xs h) (λ e. none_or_zero (xs ++ ys) n (sym e))
      (λ t. none_or_one (xs ++ ys) n (member_left n xs ys t))

  pub none_or_right : NoneOr ys n → NoneOr (xs ++ ys) n
  none_or_right h =
      either (member_cons n 0 ys h) (λ e. none_or_zero (xs ++ ys) n (sym e))
      (λ t. none_or_one (xs ++ ys) n (member_right n xs ys t))
