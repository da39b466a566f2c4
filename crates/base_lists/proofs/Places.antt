-- Membership by places, and the tally of a test counts what passes it. Assumes nothing.
use mathlib.Core.Path.{◌≡◌, refl, sym, ap, ◌∙◌, subst}
use mathlib.Core.Bool.{Bool, true}
use mathlib.Core.Logic.{◌⊎◌, inl, inr, ◌↔◌}
use mathlib.Core.List.Memᴰ
use mathlib.Core.List.{List, [], ◌∷◌, Memᴰ}
use Prim.Native.Nat.{ℕ, zero, suc, ◌≤◌, ◌<◌}
use native.Mathlib.Nat.{not-suc-le-zero, le_of_suc-le-suc, le_refl, lt_irrefl, zero-add}
use native.Mathlib.Numerals.{one-add}
use native.Mathlib.Omega.{arith}
use lib.Dec.{eqb}
use lib.ListN.{length, get_or, take}
use lib.Seq.{length-take-le, get_or-take}
use borrow.Author.Tests.{eqb-true, eqb-false}
use Rattle.base_lists.specs.Lists.{member, tally}
use Rattle.base_lists.specs.Places.{Among, Counts}
use Rattle.base_lists.proofs.Tests.{by_cases, is_false, clash, either}
use Rattle.base_lists.proofs.Members.{member_nil, member_here, member_there, member_cons}
use Rattle.base_lists.proofs.Tallies.{tally_same}
use Rattle.base_lists.proofs.Distinct.{Sized, sized_nil, sized_cons}

pub member_place : (xs : List ℕ) (i : ℕ) → member i xs ≡ true → Among xs (length xs) i
member_place [] i m = member_nil i m
member_place (x ∷ xs) i m =
    either (member_cons i x xs m) (λ q. (0, omega arith, q))
    (λ t. let w = member_place xs i t in (suc w.0, omega (arith, w.1), w.2))

pub member_at : (xs : List ℕ) (l : ℕ) → l < length xs → member (get_or xs l 0) xs ≡ true
member_at [] l h = absurd (not-suc-le-zero h)
member_at (x ∷ xs) zero h = member_here x xs
member_at (x ∷ xs) (suc l) h = member_there (get_or xs l 0) x xs (member_at xs l (le_of_suc-le-suc h))

pub place_member : (xs : List ℕ) (i : ℕ) → Among xs (length xs) i → member i xs ≡ true
place_member xs i w = subst (λ (z : ℕ). member z xs ≡ true) w.2 (member_at xs w.0 w.1)

-- for elements of any type
pub mem_place : {A : Type 0} (xs : List A) (d x : A) → Memᴰ x xs → (k : ℕ) × (k < length xs) × (get_or xs k d ≡ x)
mem_place [] d x m = absurd (Memᴰ.not-nil m)
mem_place (y ∷ ys) d x m =
    either (Memᴰ.cases_cons m) (λ e. (0, omega arith, sym e))
    (λ t. let w = mem_place ys d x t in (suc w.0, omega (arith, w.1), w.2))

pub mem_at : {A : Type 0} (xs : List A) (d : A) (k : ℕ) → k < length xs → Memᴰ (get_or xs k d) xs
mem_at [] d k l = absurd (not-suc-le-zero l)
mem_at (x ∷ xs) d zero l = Memᴰ.head refl
mem_at (x ∷ xs) d (suc k) l = Memᴰ.tail (mem_at xs d k (le_of_suc-le-suc l))

-- ---- among the first k
pub take_place : (xs : List ℕ) (k i : ℕ) → k ≤ length xs → member i (take k xs) ≡ true → Among xs k i
take_place xs k i h m =
    let w = member_place (take k xs) i m in
    let l : w.0 < k = omega (arith, w.1, length-take-le k xs h) in
    (w.0, l, sym (get_or-take k xs w.0 0 l) ∙ w.2)

pub place_take : (xs : List ℕ) (k i : ℕ) → k ≤ length xs → Among xs k i → member i (take k xs) ≡ true
place_take xs k i h w =
    place_member (take k xs) i (w.0, omega (arith, w.1, length-take-le k xs h), get_or-take k xs w.0 0 w.1 ∙ w.2)

-- ---- distinct places, below a bound
once_sized : (n : ℕ) (xs : List ℕ) → ((k : ℕ) → k < length xs → get_or xs k 0 < n) →
    ((k l : ℕ) → k < l → l < length xs → get_or xs k 0 ≡ get_or xs l 0 → ⊥) → Sized n xs
once_sized n [] below once = sized_nil n
once_sized n (x ∷ xs) below once =
    sized_cons n x xs (below 0 (omega arith))
    (is_false (member x xs)
    (λ t. let w = member_place xs x t in once 0 (suc w.0) (omega arith) (omega (arith, w.1)) (sym w.2)))
    (once_sized n xs (λ k h. below (suc k) (omega arith)) (λ k l a b. once (suc k) (suc l) (omega arith) (omega arith)))

-- ---- counting what has a property
module _ (P Q : ℕ → Type 0) (many : ℕ) (c : Counts P many) (more : (i : ℕ) → P i → Q i) where
  counts_same : ((i : ℕ) → Q i → P i) → Counts Q many
  counts_same less = record {
    list = c.list;
    long = c.long;
    once = c.once;
    only = λ k l. more (get_or c.list k 0) (c.only k l);
    every = λ i q. c.every i (less i q);
  }

  counts_one_more : (n : ℕ) → (P n → ⊥) → Q n → ((i : ℕ) → Q i → (n ≡ i) ⊎ P i) → Counts Q (suc many)
  counts_one_more n other own less = record {
    list = n ∷ c.list;
    long = ap suc c.long;
    once = once;
    only = only;
    every = λ i q. either (less i q) (λ e. (0, omega arith, e))
        (λ t. let w = c.every i t in (suc w.0, omega (arith, w.1), w.2));
  }
    where
      once : (k l : ℕ) → k < l → l < suc many → get_or (n ∷ c.list) k 0 ≡ get_or (n ∷ c.list) l 0 → ⊥
      once k zero a b e = not-suc-le-zero a
      once zero (suc l) a b e = other (subst (λ (z : ℕ). P z) (sym e) (c.only l (le_of_suc-le-suc b)))
      once (suc k) (suc l) a b e = c.once k l (le_of_suc-le-suc a) (le_of_suc-le-suc b) e

      only : (k : ℕ) → k < suc many → Q (get_or (n ∷ c.list) k 0)
      only zero b = own
      only (suc k) b = more (get_or c.list k 0) (c.only k (le_of_suc-le-suc b))

-- the tally of a test is the number of those that pass it
abbrev Passing : (n : ℕ) → (ℕ → Bool) → ℕ → Type 0
Passing n f i = (i < n) × (f i ≡ true)

passing_more : (n : ℕ) (f : ℕ → Bool) → Counts (Passing n f) (tally n f) → Counts (Passing (suc n) f) (tally (suc n) f)
unfolding tally
passing_more n f c =
    by_cases (f n)
    (λ t. rw (t, one-add) (counts_one_more (Passing n f) (Passing (suc n) f) (tally n f) c
    (λ i w. (omega (arith, w.0), w.1)) n (λ w. lt_irrefl n w.0) (le_refl (suc n), t)
    (λ i w. by_cases (eqb n i) (λ q. inl (eqb-true n i q)) (λ q. inr (omega (arith, w.0, eqb-false n i q), w.1)))))
    (λ e. rw (e, zero-add)
    (counts_same (Passing n f) (Passing (suc n) f) (tally n f) c (λ i w. (omega (arith, w.0), w.1))
    (λ i w. let other : n ≡ i → ⊥ = λ q. clash (f n) (ap f q ∙ w.1) e in (omega (arith, w.0), w.1))))

passing : (n : ℕ) (f : ℕ → Bool) → Counts (Passing n f) (tally n f)
passing zero f = unfold tally in (record {
  list = [];
  long = refl;
  once = λ k l a b. absurd (not-suc-le-zero b);
  only = λ k b. absurd (not-suc-le-zero b);
  every = λ i w. absurd (not-suc-le-zero w.0);
})
passing (suc n) f = passing_more n f (passing n f)

pub tally_counts : (n : ℕ) (f : ℕ → Bool) (P : ℕ → Type 0) → ((i : ℕ) → P i ↔ Passing n f i) → (many : ℕ) →
    (tally n f ≡ many) ↔ Counts P many
tally_counts n f P same many = (
  (λ e. subst (λ (z : ℕ). Counts P z) e
      (counts_same (Passing n f) P (tally n f) (passing n f) (λ i. (same i).1) (λ i. (same i).0))),
  (λ c. tally_same n f (λ i. member i c.list) (λ i l. by_cases (f i)
      (λ t. t
      ∙ sym (place_member c.list i
      (let w = c.every i ((same i).1 (l, t)) in (w.0, omega (arith, w.1, c.long), w.2))))
      (λ e. e ∙ sym (is_false (member i c.list) (λ t. let w = member_place c.list i t in
      clash (f i) (subst (λ (z : ℕ). f z ≡ true) w.2
      ((same (get_or c.list w.0 0)).0 (c.only w.0 (omega (arith, w.1, c.long)))).1) e))))
      ∙ once_sized n c.list (λ k l. ((same (get_or c.list k 0)).0 (c.only k (omega (arith, c.long)))).0)
      (λ k l a b. c.once k l a (omega (arith, c.long))) ∙ c.long),
)
