-- Lists of entries (axis, epoch): their form, lookup, union with the larger epoch, and the cut to a capacity. Assumes
-- nothing: these are definitions.
use Rattle.std.specs.Prelude.{Bool, true, ◌&&◌, ◌||◌, cond, List, [], ◌∷◌, ℕ, suc, ◌+◌, ◌*◌, max, ltb, leb, eqb}
use Rattle.std.specs.Prelude.{Option, Some, None}
use Rattle.base_lists.specs.Lists.{filter}
use Rattle.axis_search.specs.Halving.{most_slots}
pub use Rattle.frontier_slots.specs.declared.Entry.{Entry}

-- R59, R51: the most entries of a frontier: it has as many slots, and no capacity is larger
abbrev pub most_entries : ℕ
most_entries = most_slots

-- the most entries of a union: all of two frontiers
abbrev pub most_of_two : ℕ
most_of_two = 2 * most_entries

-- R59: axes strictly rise and epochs are above 0; the first axis is at least `least`
unfoldable pub rising_from : (least : ℕ) → List Entry → Bool
rising_from least [] = true
rising_from least (x ∷ xs) = leb least x.axis && (ltb 0 x.epoch && rising_from (suc x.axis) xs)

-- R60, absent: the epoch that the axis is listed with, or that it is absent
unfoldable pub find : (axis : ℕ) → List Entry → Option ℕ
find a [] = None
find a (x ∷ xs) = cond (eqb x.axis a) (Some x.epoch) (find a xs)

-- the values of a lookup: the epoch, if there is one
unfoldable pub values_of : Option ℕ → List ℕ
values_of (Some e) = e ∷ []
values_of None = []

-- every epoch that is listed under an axis
unfoldable pub epochs_under : (axis : ℕ) → List Entry → List ℕ
epochs_under a [] = []
epochs_under a (x ∷ xs) = cond (eqb x.axis a) (x.epoch ∷ epochs_under a xs) (epochs_under a xs)

-- R61, merge: the larger epoch of each axis, of one entry and a list with rising axes
unfoldable pub put : Entry → List Entry → List Entry
put x [] = x ∷ []
put x (y ∷ ys) =
    cond (ltb x.axis y.axis) (x ∷ y ∷ ys)
    (cond (eqb x.axis y.axis) (record { axis = x.axis; epoch = max x.epoch y.epoch } ∷ ys)
    (y ∷ put x ys))

-- R61, and of two lists
unfoldable pub union : (xs ys : List Entry) → List Entry
union [] ys = ys
union (x ∷ xs) ys = put x (union xs ys)

-- R62: y is kept before x, by the larger epoch, then by the larger axis
unfoldable pub exceeds : (y x : Entry) → Bool
exceeds y x = ltb x.epoch y.epoch || (eqb x.epoch y.epoch && ltb x.axis y.axis)

-- how many entries exceed x
unfoldable pub exceeding : (x : Entry) → List Entry → ℕ
exceeding x [] = 0
exceeding x (y ∷ ys) = cond (exceeds y x) 1 0 + exceeding x ys

-- R62, cut: an entry is kept exactly if fewer than `capacity` others exceed it
unfoldable pub cut : (capacity : ℕ) → List Entry → List Entry
cut capacity xs = filter (λ x. ltb (exceeding x xs) capacity) xs
