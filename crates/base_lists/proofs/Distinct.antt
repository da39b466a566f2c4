-- Lists of distinct numbers below a bound: as many members as the length says, so the pigeonhole principle. Assumes
-- nothing.
use mathlib.Core.Path.{◌≡◌, refl, sym, ap, ◌∙◌}
use mathlib.Core.Bool.{true, false}
use mathlib.Core.List.{List, [], ◌∷◌, ◌++◌}
use Prim.Native.Nat.{ℕ, zero, suc, ◌≤◌, ◌<◌}
use native.Mathlib.Nat.{zero-add}
use native.Mathlib.Omega.{arith}
use lib.ListN.{length, length-append}
use borrow.Author.Tests.{ne_eqb}
use Rattle.base_lists.specs.Lists.{member, tally}
use Rattle.base_lists.proofs.Tests.{by_cases, clash, is_false, either}
use Rattle.base_lists.proofs.Members.{Sub, member_here, member_left, member_snoc, member_last}
use Rattle.base_lists.proofs.Tallies.{tally_mono, tally_le, tally_all, tally_one_more, tally_full}

abbrev pub Sized : (n : ℕ) → List ℕ → Type 0
Sized n xs = tally n (λ i. member i xs) ≡ length xs

pub sized_nil : (n : ℕ) → Sized n []
unfolding tally member
sized_nil zero = refl
sized_nil (suc n) = rw zero-add (sized_nil n)

pub sized_cons : (n x : ℕ) (xs : List ℕ) → x < n → member x xs ≡ false → Sized n xs → Sized n (x ∷ xs)
unfolding member
sized_cons n x xs l a s =
    tally_one_more n (λ i. member i xs) (λ i. member i (x ∷ xs)) x l a (member_here x xs)
    (λ i ne. rw (ne_eqb x i (λ q. ne (sym q)))) ∙ ap suc s

pub sized_snoc : (n x : ℕ) (xs : List ℕ) → x < n → member x xs ≡ false → Sized n xs → Sized n (xs ++ (x ∷ []))
sized_snoc n x xs l a s =
    tally_one_more n (λ i. member i xs) (λ i. member i (xs ++ (x ∷ []))) x l a (member_last x xs)
    (λ i ne. by_cases (member i xs) (λ t. member_left i xs (x ∷ []) t ∙ sym t)
    (λ f. is_false (member i (xs ++ (x ∷ [])))
    (λ t. either (member_snoc i xs x t) (λ u. clash (member i xs) u f) (λ q. ne (sym q))) ∙ sym f))
    ∙ ap suc s ∙ more
  where
    more : suc (length xs) ≡ length (xs ++ (x ∷ []))
    more = rw length-append (omega arith)

-- what has as many members as the bound has all of them; a sublist is no longer
pub sized_all : (n : ℕ) (xs : List ℕ) → Sized n xs → n ≤ length xs → (i : ℕ) → i < n → member i xs ≡ true
sized_all n xs s h i l = tally_all n (λ k. member k xs) (omega (arith, s)) i l

pub sized_le : (n : ℕ) (xs : List ℕ) → Sized n xs → length xs ≤ n
sized_le n xs s = omega (arith, s, tally_le n (λ i. member i xs))

pub sized_sub : (n : ℕ) (xs ys : List ℕ) → Sized n xs → Sized n ys → Sub xs ys → length xs ≤ length ys
sized_sub n xs ys s t h = omega (arith, s, t, tally_mono n (λ i. member i xs) (λ i. member i ys) (λ i l. h i))

pub sized_full : (n : ℕ) (xs : List ℕ) → Sized n xs → ((i : ℕ) → i < n → member i xs ≡ true) → length xs ≡ n
sized_full n xs s h = sym s ∙ tally_full n (λ i. member i xs) h
