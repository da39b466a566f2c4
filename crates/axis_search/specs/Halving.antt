-- R60: a search by halving among rising axes, with the slots that it reads. Assumes nothing: these are definitions.
use Rattle.std.specs.Prelude.{◌≡◌, cond, ◌&&◌, List, ℕ, zero, suc, ◌+◌, ◌-◌, ◌/◌, ◌*◌, ◌≤◌, ◌<◌, ltb, leb, eqb}
use Rattle.std.specs.Prelude.{length, get_or, Some, None}
use Rattle.axis_search.specs.declared.Slot.{Slot}

-- the most slots that are searched, and the most that are read of so many
abbrev pub most_slots : ℕ
most_slots = 16

abbrev pub most_reads : ℕ
most_reads = 5

-- the slots in question: so many from `low` on
pub record Range : Type 0 where
  pub low : ℕ
  pub many : ℕ

-- the one in the middle is read
unfoldable pub middle : Range → ℕ
middle r = r.low + r.many / 2

-- those left in question where it is not of the axis: the ones above it if it is below the axis, else the ones below it
unfoldable pub narrowed : (axes : List ℕ) → (axis : ℕ) → Range → Range
narrowed axes axis r =
    cond (ltb (get_or axes (middle r) 0) axis) (record { low = middle r + 1; many = r.many - r.many / 2 - 1 })
    (record { low = r.low; many = r.many / 2 })

-- the slot found, and how many were read when so many were read before; at most `turns` more are
unfoldable pub search_from : (axes : List ℕ) → (axis turns read : ℕ) → Range → Slot
search_from axes axis zero read r = record { at = None; read = read }
search_from axes axis (suc turns) read r =
    cond (eqb r.many 0) (record { at = None; read = read })
    (cond (eqb (get_or axes (middle r) 0) axis) (record { at = Some (middle r); read = read + 1 })
    (search_from axes axis turns (read + 1) (narrowed axes axis r)))

-- the search of the first `len` slots, with a turn for each; of more than sixteen, or of more than there are, none is
-- read
unfoldable pub searched : (axes : List ℕ) → (axis len : ℕ) → Slot
searched axes axis len =
    cond (leb len most_slots && leb len (length axes))
    (search_from axes axis len 0 (record { low = 0; many = len })) (record { at = None; read = 0 })

-- WHAT IT MEANS

-- the axes of the first slots rise
abbrev pub Rise : (axes : List ℕ) → (len : ℕ) → Type 0
Rise axes len = (i k : ℕ) → i < k → k < len → get_or axes i 0 < get_or axes k 0

-- slot i is among those in question
pub record InQuestion (r : Range) (i : ℕ) : Type 0 where
  pub low : r.low ≤ i
  pub high : i < r.low + r.many

-- what one read of a slot that is not of the axis leaves in question: at most half, and every slot of the axis
pub record Halves (axes : List ℕ) (axis : ℕ) (r : Range) : Type 0 where
  pub half : 2 * (narrowed axes axis r).many ≤ r.many
  pub keeps : (i : ℕ) → get_or axes i 0 ≡ axis → InQuestion r i → (get_or axes (middle r) 0 ≡ axis → ⊥) →
      InQuestion (narrowed axes axis r) i

-- R60: what is read and found. Of any axes: at most five slots of sixteen are read, and a slot that is found is of the
-- axis. Of rising axes: each read halves those in question, and a slot of the axis is found exactly if there is one
pub record Halving (axes : List ℕ) (axis len : ℕ) (r : Slot) : Type 0 where
  pub few : r.read ≤ most_reads
  pub of_axis : (at : ℕ) → r.at ≡ Some at → (at < len) × (len ≤ most_slots) × (len ≤ length axes)
      × (get_or axes at 0 ≡ axis)
  pub halves : Rise axes len → (range : Range) → 0 < range.many → range.low + range.many ≤ len →
      Halves axes axis range
  pub finds : Rise axes len → len ≤ most_slots → len ≤ length axes → (i : ℕ) → i < len → get_or axes i 0 ≡ axis →
      r.at ≡ Some i
