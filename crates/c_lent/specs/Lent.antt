-- What the numbers of a frontier that a C caller lends mean, and what it is told of frontiers. Assumes nothing: these
-- are definitions.
use Rattle.std.specs.Prelude.{◌≡◌, Bool, true, not, cond, ◌||◌, List, [], ◌∷◌, ◌++◌, ℕ, zero, suc, ◌+◌, ltb, eqb}
use Rattle.std.specs.Prelude.{get_or, take, drop}
use Rattle.plan_format.specs.declared.Told.{Told}
use Rattle.frontier.specs.declared.Frontier.{Frontier}
use Rattle.frontier.specs.declared.Merged.{Merged}
use Rattle.std.specs.Prelude.{Option, Some, None}
use Rattle.frontier.specs.Frontiers.{Verdict}
use Rattle.frontier.specs.Frontiers.{Yes, No, Unknown, Refused}
use Rattle.frontier_slots.specs.Entries.{most_entries}
use Rattle.frontier.specs.Frontiers.{number_of}
use Rattle.frontier.specs.Meaning.{epoch_of}
use Rattle.c_told.specs.Told.{told_of}

-- ---- FRONTIERS
-- R78, where the numbers of a frontier are: the axes come first, then the epochs, the length and the taint
abbrev pub epochs_at : ℕ
epochs_at = most_entries

abbrev pub length_at : ℕ
length_at = epochs_at + most_entries

abbrev pub taint_at : ℕ
taint_at = length_at + 1

-- how many they are
abbrev pub frontier_numbers : ℕ
frontier_numbers = taint_at + 1

-- a length that no well-formed frontier has
abbrev pub over_long : ℕ
over_long = most_entries + 1

-- R78, lent frontier: the struct has no taint above 1, which is 14, so a length over 16, which is 14 too, is put in its
-- place
unfoldable pub frontier_of : List ℕ → Frontier
frontier_of ns = record {
  axes = take most_entries ns;
  epochs = take most_entries (drop epochs_at ns);
  len = cond (ltb 1 (get_or ns taint_at 0)) over_long (get_or ns length_at 0);
  tainted = not (eqb (get_or ns taint_at 0) 0);
}

-- the numbers of a frontier
unfoldable pub list_of : Frontier → List ℕ
list_of f = f.axes ++ f.epochs ++ (f.len ∷ cond f.tainted 1 0 ∷ [])

-- R78: the length or the taint is larger than in any frontier
unfoldable pub oversized : List ℕ → Bool
oversized ns = ltb most_entries (get_or ns length_at 0) || ltb 1 (get_or ns taint_at 0)

-- a frontier beside its number and place, with nothing to answer
abbrev pub Handed : (number place : ℕ) → Frontier → (told frontier : List ℕ) → Type 0
Handed number place f told frontier =
    (told_of told ≡ record { number = number; place = place; answer = 0 }) × (frontier ≡ list_of f)

-- ---- LOOKUP
-- R77: 1 for a listed axis, 0 for an absent one, which is never told by its epoch alone
unfoldable pub listed_value : Option ℕ → ℕ
listed_value (Some e) = 1
listed_value None = 0

abbrev pub LookupSays : Option ℕ → (told epoch : List ℕ) → Type 0
LookupSays r told epoch =
    (told_of told ≡ record { number = 0; place = 0; answer = listed_value r }) × (epoch ≡ epoch_of r ∷ [])

-- what a caller reads there
unfoldable pub lookup_of : (told epoch : List ℕ) → Option ℕ
lookup_of told epoch = cond (eqb (told_of told).answer 0) None (Some (get_or epoch 0 0))

-- ---- MERGE AND RAISE
-- a merge's number, and the numbers of its frontier
abbrev pub MergeStored : Merged → (number : ℕ) → (frontier : List ℕ) → Type 0
MergeStored m number frontier = (number ≡ m.number) × (frontier ≡ list_of m.frontier)

-- R50, R51: the place of 14 and 15 is 0
abbrev pub MergeSays : Merged → (told frontier : List ℕ) → Type 0
MergeSays m told frontier = Handed m.number 0 m.frontier told frontier

-- what a caller reads there
unfoldable pub merged_of : (told frontier : List ℕ) → Merged
merged_of told frontier = record { number = (told_of told).number; frontier = frontier_of frontier }

-- R78: oversized numbers are 14; R67: after 15
abbrev pub OversizedRefused : (oversized capable : Bool) → (told : List ℕ) → Type 0
OversizedRefused over capable told = over ≡ true → (told_of told).number ≡ cond capable 14 15

-- ---- DOMINANCE
-- R77, R67: the number and the value of an answer, with no place
abbrev pub dominance_told : Verdict → Told
dominance_told r = record { number = (number_of r).number; place = 0; answer = (number_of r).value }

-- what a caller reads there
unfoldable pub answer_read : ℕ → Verdict
answer_read zero = No
answer_read (suc zero) = Yes
answer_read (suc (suc _)) = Unknown

unfoldable pub dominance_of : Told → Verdict
dominance_of r = cond (eqb r.number 0) (answer_read r.answer) (Refused r.number)
