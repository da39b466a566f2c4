-- The part of a list that passes a test, and the part that fails it. Assumes nothing.
use mathlib.Core.Path.{◌≡◌, refl, sym, ap, ◌∙◌, subst}
use mathlib.Core.Bool.{Bool, true, false, not}
use mathlib.Core.List.{List, [], ◌∷◌}
use Prim.Native.Nat.{ℕ, ◌+◌}
use native.Mathlib.Omega.{arith}
use lib.ListN.{length}
use Rattle.base_lists.specs.Lists.{member, filter}
use Rattle.base_lists.proofs.Tests.{by_cases, clash, either}
use Rattle.base_lists.proofs.Members.{member_nil, member_here, member_there, member_cons}

pub filter_yes : (f : ℕ → Bool) (x : ℕ) (xs : List ℕ) → f x ≡ true → filter f (x ∷ xs) ≡ x ∷ filter f xs
unfolding filter
filter_yes f x xs e = rw e

pub filter_no : (f : ℕ → Bool) (x : ℕ) (xs : List ℕ) → f x ≡ false → filter f (x ∷ xs) ≡ filter f xs
unfolding filter
filter_no f x xs e = rw e

pub filter_has : (f : ℕ → Bool) (xs : List ℕ) (i : ℕ) → member i xs ≡ true → f i ≡ true → member i (filter f xs) ≡ true
filter_has f [] i m e = member_nil i m
filter_has f (x ∷ xs) i m e =
    by_cases (f x)
    (λ t. rw (filter_yes f x xs t) (either (member_cons i x xs m)
    (λ q. subst (λ (z : ℕ). member i (z ∷ filter f xs) ≡ true) (sym q) (member_here i (filter f xs)))
    (λ m'. member_there i x (filter f xs) (filter_has f xs i m' e))))
    (λ n. rw (filter_no f x xs n)
    (either (member_cons i x xs m) (λ q. clash (f x) (ap f q ∙ e) n) (λ m'. filter_has f xs i m' e)))

pub filter_passes : (f : ℕ → Bool) (xs : List ℕ) (i : ℕ) → member i (filter f xs) ≡ true → f i ≡ true
unfolding filter
filter_passes f [] i m = member_nil i m
filter_passes f (x ∷ xs) i m =
    by_cases (f x)
    (λ t. either (member_cons i x (filter f xs) (rw (filter_yes f x xs t) at m)) (λ q. ap f (sym q) ∙ t)
    (λ m'. filter_passes f xs i m'))
    (λ n. filter_passes f xs i (rw (filter_no f x xs n) at m))

pub filter_among : (f : ℕ → Bool) (xs : List ℕ) (i : ℕ) → member i (filter f xs) ≡ true → member i xs ≡ true
unfolding filter
filter_among f [] i m = m
filter_among f (x ∷ xs) i m =
    by_cases (f x)
    (λ t. either (member_cons i x (filter f xs) (rw (filter_yes f x xs t) at m))
    (λ q. subst (λ (z : ℕ). member i (z ∷ xs) ≡ true) (sym q) (member_here i xs))
    (λ m'. member_there i x xs (filter_among f xs i m')))
    (λ n. member_there i x xs (filter_among f xs i (rw (filter_no f x xs n) at m)))

pub filter_lengths : (f : ℕ → Bool) (xs : List ℕ) →
    length (filter f xs) + length (filter (λ i. not (f i)) xs) ≡ length xs
unfolding filter
filter_lengths f [] = refl
filter_lengths f (x ∷ xs) =
    by_cases (f x) (λ t. rw t (omega (arith, filter_lengths f xs))) (λ n. rw n (omega (arith, filter_lengths f xs)))
