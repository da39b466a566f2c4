-- What the walks over lent slots answer. Assumes nothing: these are definitions.
use Rattle.std.specs.Prelude.{◌≡◌, Bool, true, false, cond, List, [], ◌∷◌, ◌++◌, ℕ, ◌≤◌, ◌<◌, ltb, leb, length}
use Rattle.std.specs.Prelude.{get_or, take, replicate}
use Rattle.frontier.specs.declared.Frontier.{Frontier}
use Rattle.std.specs.Prelude.{Option, Some, option_map, Result, Ok, Err}
use Rattle.frontier.specs.declared.Merged.{Merged}
use Rattle.frontier.specs.declared.lent.Filled.{Filled}
use Rattle.frontier.specs.declared.Unfit.{Unfit}
use Rattle.frontier_slots.specs.declared.Entry.{Entry}
use Rattle.frontier_slots.specs.Entries.{most_entries, most_of_two, rising_from, find}
use Rattle.frontier_slots.specs.Slots.{slots, rest}
use Rattle.frontier.specs.Frontiers.{entries, well_formed, capable, number_of_unfit}

-- the frontier of lent slots
abbrev pub of_slots : (axes epochs : List ℕ) → (len : ℕ) → (tainted : Bool) → Frontier
of_slots axes epochs len tainted = record { axes = axes; epochs = epochs; len = len; tainted = tainted }

-- what is left where the entries below an axis are passed over
unfoldable pub skip_below : (axis : ℕ) → List Entry → List Entry
skip_below a [] = []
skip_below a (x ∷ xs) = cond (ltb x.axis a) (skip_below a xs) (x ∷ xs)

-- the slot of an axis from a slot on: of rising slots it has what is listed from there on; of any others, if it is
-- found, it is a slot of the axis
pub record SlotFrom (axes epochs : List ℕ) (len from axis : ℕ) (r : Option ℕ) : Type 0 where
  pub found : rising_from 0 (slots axes epochs len 0) ≡ true →
      option_map (λ i. get_or epochs i 0) r ≡ find axis (rest axes epochs len from)
  pub of_axis : (i : ℕ) → r ≡ Some i → (i < len) × (get_or axes i 0 ≡ axis)

-- the next axis of a union is that of xs: ys has none, or none that is smaller
unfoldable pub leads : (xs ys : List Entry) → Bool
leads [] ys = false
leads (x ∷ xs) [] = true
leads (x ∷ xs) (y ∷ ys) = leb x.axis y.axis

-- R67: a merge's number before the right side is judged
unfoldable pub left_number : Frontier → (capacity : ℕ) → ℕ
left_number f capacity = cond (capable capacity) (cond (well_formed f) 0 14) 15

-- ROOM FOR SLOTS

-- there is room for all entries of two frontiers
abbrev pub AllRoom : (axes epochs : List ℕ) → Type 0
AllRoom axes epochs = (length axes ≡ most_of_two) × (length epochs ≡ most_of_two)

-- a number, and the length and taint of what is left there
pub record Laid : Type 0 where
  pub number : ℕ
  pub len : ℕ
  pub tainted : Bool

-- R67: by the result of a call: beside a refusal nothing is left
abbrev pub laid : Result Filled Unfit → Laid
laid (Ok f) = record { number = 0; len = f.len; tainted = f.tainted }
laid (Err e) = record { number = number_of_unfit e; len = 0; tainted = false }

-- what is left there, with a number beside it, is a merge's answer; nothing is said of what comes after the entries
pub record LeftInRoom (m : Merged) (r : Laid) (axes epochs : List ℕ) : Type 0 where
  pub room : AllRoom axes epochs
  pub number : r.number ≡ m.number
  pub tainted : r.tainted ≡ m.frontier.tainted
  pub listed : slots axes epochs r.len 0 ≡ entries m.frontier

-- a row of the room, zero from a place on
pub record Cleared (from : ℕ) (row new : List ℕ) : Type 0 where
  pub long : length new ≡ most_of_two
  pub stays : (k : ℕ) → k < from → get_or new k 0 ≡ get_or row k 0
  pub zero : (k : ℕ) → from ≤ k → get_or new k 0 ≡ 0

-- sixteen slots in front of a row of the room
pub record Copied (from new : List ℕ) : Type 0 where
  pub long : length new ≡ most_of_two
  pub same : (k : ℕ) → k < most_entries → get_or new k 0 ≡ get_or from k 0

-- the axes or the epochs of a frontier in a row of the room, which is zero after them
abbrev pub in_room : List ℕ → List ℕ
in_room row = row ++ replicate most_entries 0

-- a merge's answer, left in the room with number, length and taint beside it
abbrev pub Fills : Merged → Laid → (axes epochs : List ℕ) → Type 0
Fills m r axes epochs =
    (r ≡ record { number = m.number; len = m.frontier.len; tainted = m.frontier.tainted })
    × (axes ≡ in_room m.frontier.axes) × (epochs ≡ in_room m.frontier.epochs)

-- what a caller reads there
abbrev pub filled : Laid → (axes epochs : List ℕ) → Merged
filled r axes epochs = record {
  number = r.number;
  frontier = of_slots (take most_entries axes) (take most_entries epochs) r.len r.tainted;
}
