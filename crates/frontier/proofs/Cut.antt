-- The cut to a capacity: it keeps an entry exactly if fewer than `capacity` others exceed it, leaves at most
-- `capacity`, and cuts exactly if there are more. Assumes nothing.
use mathlib.Core.Path.{◌≡◌, refl, sym}
use mathlib.Core.Bool.{Bool, true, false}
use mathlib.Core.Logic.{◌⊎◌, inl, inr}
use mathlib.Core.List.{List, [], ◌∷◌}
use Prim.Native.Nat.{ℕ, suc, ◌≤◌, ◌<◌, zero-le}
use native.Mathlib.Nat.{le_refl}
use native.Mathlib.Omega.{arith}
use lib.Dec.{ltb, eqb}
use lib.ListN.{length}
use borrow.Author.Tests.{ltb-true, lt-ltb, eqb-true, ne_eqb}
use Rattle.base_lists.proofs.Tests.{by_cases, either}
use Rattle.std.specs.Prelude.{Option}
use Rattle.std.specs.Prelude.{Some, None}
use Rattle.base_lists.specs.Lists.{filter}
use Rattle.frontier_slots.specs.declared.Entry.{Entry}
use Rattle.frontier_slots.specs.Entries.{find, exceeds, exceeding, cut}
use Rattle.frontier.specs.Meaning.{epoch_of, epoch_at, listed_if}
use Rattle.frontier.proofs.Sorted.{Sorted, lower, same_entry}
use Rattle.frontier.proofs.Exceeds.{exceeds_not_itself, exceeds_one_way, exceeds_or, exceeds_past}

-- x is one of the entries
abbrev pub In : Entry → List Entry → Type 0
In x [] = ⊥
In x (y ∷ ys) = (x ≡ y) ⊎ In x ys

pub in_above : (b : ℕ) (x : Entry) (xs : List Entry) → Sorted b xs → In x xs → b ≤ x.axis
in_above b x [] s i = absurd i
in_above b x (y ∷ ys) s i = either i (λ e. rw e s.0) (λ j. omega (arith, in_above (suc y.axis) x ys s.2 j))

-- KEEPING
pub keep_all : (f : Entry → Bool) (xs : List Entry) → ((x : Entry) → In x xs → f x ≡ true) → filter f xs ≡ xs
unfolding filter
keep_all f [] h = refl
keep_all f (x ∷ xs) h = rw (h x (inl refl), keep_all f xs (λ y i. h y (inr i)))

pub in_keep : (f : Entry → Bool) (m : Entry) (xs : List Entry) → In m (filter f xs) → f m ≡ true
unfolding filter
in_keep f m [] i = absurd i
in_keep f m (x ∷ xs) i =
    by_cases (f x) (λ t. let i' : In m (x ∷ filter f xs) = rw t at i in either i' (λ e. rw e t) (λ j. in_keep f m xs j))
    (λ t. in_keep f m xs (rw t at i))

pub sorted_keep : (f : Entry → Bool) (b : ℕ) (xs : List Entry) → Sorted b xs → Sorted b (filter f xs)
unfolding filter
sorted_keep f b [] s = tt
sorted_keep f b (x ∷ xs) s =
    by_cases (f x) (λ t. rw t (s.0, s.1, sorted_keep f (suc x.axis) xs s.2))
    (λ t. rw t (lower (suc x.axis) b (filter f xs) (omega arith) (sorted_keep f (suc x.axis) xs s.2)))

pub find_below : (b a : ℕ) (xs : List Entry) → Sorted b xs → a < b → find a xs ≡ None
unfolding find
find_below b a [] s h = refl
find_below b a (x ∷ xs) s h =
    rw (ne_eqb x.axis a (λ q. omega arith)) (find_below (suc x.axis) a xs s.2 (omega arith))

pub find_keep : (f : Entry → Bool) (b a : ℕ) (xs : List Entry) → Sorted b xs →
    find a (filter f xs) ≡ listed_if f a (find a xs)
unfolding find filter listed_if
find_keep f b a [] s = refl
find_keep f b a (x ∷ xs) s =
    by_cases (eqb x.axis a)
    (λ t. let e : record { axis = a; epoch = x.epoch } ≡ x = same_entry (sym (eqb-true x.axis a t)) refl in
    rw (t, e) (by_cases (f x) (λ k. rw (k, t))
    (λ k. rw k (find_below (suc x.axis) a (filter f xs) (sorted_keep f (suc x.axis) xs s.2)
    (omega (arith, eqb-true x.axis a t))))))
    (λ t. rw t (by_cases (f x) (λ k. rw (k, t) (find_keep f (suc x.axis) a xs s.2))
    (λ k. rw k (find_keep f (suc x.axis) a xs s.2))))

epoch_if : (f : Entry → Bool) (a : ℕ) (l : Option ℕ) → epoch_of (listed_if f a l) ≤ epoch_of l
unfolding epoch_of listed_if
epoch_if f a (Some e) = by_cases (f (record { axis = a; epoch = e })) (λ t. rw t (le_refl e)) (λ t. rw t zero-le)
epoch_if f a None = zero-le

pub epoch_keep : (f : Entry → Bool) (b a : ℕ) (xs : List Entry) → Sorted b xs → epoch_at (filter f xs) a ≤ epoch_at xs a
unfolding epoch_at
epoch_keep f b a xs s = rw (find_keep f b a xs s) (epoch_if f a (find a xs))

-- COUNTING
pub exceeding_lt : (x : Entry) (xs : List Entry) → In x xs → exceeding x xs < length xs
unfolding exceeding
exceeding_lt x [] i = absurd i
exceeding_lt x (y ∷ ys) i =
    either i (λ e. rw (← e, exceeds_not_itself x) (omega (arith, exceeding_le x ys)))
    (λ j. by_cases (exceeds y x) (λ t. rw t (omega (arith, exceeding_lt x ys j)))
    (λ t. rw t (omega (arith, exceeding_lt x ys j))))
  where
    exceeding_le : (x : Entry) (xs : List Entry) → exceeding x xs ≤ length xs
    exceeding_le x [] = zero-le
    exceeding_le x (y ∷ ys) =
        by_cases (exceeds y x) (λ t. rw t (omega (arith, exceeding_le x ys)))
        (λ t. rw t (omega (arith, exceeding_le x ys)))

exceeding_keep : (f : Entry → Bool) (m : Entry) (xs : List Entry) → exceeding m (filter f xs) ≤ exceeding m xs
unfolding filter exceeding
exceeding_keep f m [] = zero-le
exceeding_keep f m (x ∷ xs) =
    by_cases (f x) (λ t. rw t (omega (arith, exceeding_keep f m xs))) (λ t. rw t (omega (arith, exceeding_keep f m xs)))

-- the least entry: it exceeds none, so all others exceed it
record Least (m : Entry) (xs : List Entry) : Type 0 where
  inside : In m xs
  under : (y : Entry) → In y xs → exceeds m y ≡ false

least : (x : Entry) (xs : List Entry) → (m : Entry) × Least m (x ∷ xs)
least x [] =
    (x, record { inside = inl refl; under = λ y i. either i (λ e. rw e (exceeds_not_itself x)) (λ j. absurd j) })
least x (y ∷ ys) =
    let w = least y ys in
    by_cases (exceeds w.0 x)
    (λ t. (
      x,
      record {
        inside = inl refl;
        under = λ z i. either i (λ e. rw e (exceeds_not_itself x))
            (λ j. exceeds_one_way z x (exceeds_past w.0 z x t (w.1.under z j)));
      },
    ))
    (λ t. (w.0, record { inside = inr w.1.inside; under = λ z i. either i (λ e. rw e t) (λ j. w.1.under z j) }))

all_exceed : (m : Entry) (b : ℕ) (xs : List Entry) → Sorted b xs → m.axis < b →
    ((y : Entry) → In y xs → exceeds m y ≡ false) → length xs ≤ exceeding m xs
unfolding exceeding
all_exceed m b [] s l h = zero-le
all_exceed m b (x ∷ xs) s l h =
    rw (exceeds_or m x (λ q. omega arith) (h x (inl refl)))
    (omega (arith, all_exceed m (suc x.axis) xs s.2 (omega arith) (λ y i. h y (inr i))))

pub least_count : (m : Entry) (b : ℕ) (xs : List Entry) → Sorted b xs → In m xs →
    ((y : Entry) → In y xs → exceeds m y ≡ false) → length xs ≤ suc (exceeding m xs)
unfolding exceeding
least_count m b [] s i h = absurd i
least_count m b (x ∷ xs) s i h =
    either i
    (λ e. omega (arith, all_exceed m (suc x.axis) xs s.2 (rw e (le_refl (suc x.axis))) (λ y j. h y (inr j))))
    (λ j. rw (exceeds_or m x (λ q. omega (arith, in_above (suc x.axis) m xs s.2 j)) (h x (inl refl)))
    (omega (arith, least_count m (suc x.axis) xs s.2 j (λ y k. h y (inr k)))))

few : (c b : ℕ) (xs : List Entry) → Sorted b xs → ((m : Entry) → In m xs → exceeding m xs < c) → length xs ≤ c
few c b [] s h = zero-le
few c b (x ∷ xs) s h =
    let w = least x xs in
    omega (arith, least_count w.0 b (x ∷ xs) s w.1.inside w.1.under, h w.0 w.1.inside)

-- THE CUT
module _ (c b : ℕ) (xs : List Entry) (s : Sorted b xs) where
  pub sorted_cut : Sorted b (cut c xs)
  unfolding cut
  sorted_cut = sorted_keep (λ x. ltb (exceeding x xs) c) b xs s

  -- at most the capacity remain
  pub cut_length : length (cut c xs) ≤ c
  unfolding cut
  cut_length =
      few c b (cut c xs) sorted_cut (λ m i. omega (
        arith,
        exceeding_keep (λ x. ltb (exceeding x xs) c) m xs,
        ltb-true (exceeding m xs) c (in_keep (λ x. ltb (exceeding x xs) c) m xs i),
      ))

  -- an entry is found after the cut exactly if it was there and fewer than the capacity exceed it
  pub find_cut : (a : ℕ) → find a (cut c xs) ≡ listed_if (λ x. ltb (exceeding x xs) c) a (find a xs)
  unfolding cut
  find_cut a = find_keep (λ x. ltb (exceeding x xs) c) b a xs s

  pub epoch_cut : (a : ℕ) → epoch_at (cut c xs) a ≤ epoch_at xs a
  unfolding cut
  epoch_cut a = epoch_keep (λ x. ltb (exceeding x xs) c) b a xs s

-- nothing is cut where the capacity holds it
pub cut_whole : (c : ℕ) (xs : List Entry) → length xs ≤ c → cut c xs ≡ xs
unfolding cut
cut_whole c xs h =
    keep_all (λ x. ltb (exceeding x xs) c) xs (λ x i. lt-ltb (exceeding x xs) c (omega (arith, exceeding_lt x xs i)))
