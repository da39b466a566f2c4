-- Lent slots: the entries that they hold, their form, and the lookup of an axis. Assumes nothing: these are
-- definitions.
use Rattle.std.specs.Prelude.{◌≡◌, Bool, ◌&&◌, cond, List, ℕ, zero, suc, ◌-◌, ltb, leb, eqb, length}
use Rattle.std.specs.Prelude.{get_or, drop, Option, Some, None, ◌==◌}
use Rattle.std.specs.List.{list_all}
use Rattle.base_lists.specs.Lists.{tabulate_from}
use Rattle.axis_search.specs.Halving.{searched}
use Rattle.frontier_slots.specs.declared.Found.{Found}
use Rattle.frontier_slots.specs.Entries.{Entry, most_entries, rising_from}

-- what slot i holds
unfoldable pub slot : (axes epochs : List ℕ) → ℕ → Entry
slot axes epochs i = record { axis = get_or axes i 0; epoch = get_or epochs i 0 }

-- slots i, i + 1, .. of which there are n
unfoldable pub slots : (axes epochs : List ℕ) → (n i : ℕ) → List Entry
slots axes epochs n i = tabulate_from n i (slot axes epochs)

-- the entries from slot i on, of n
abbrev pub rest : (axes epochs : List ℕ) → (n i : ℕ) → List Entry
rest axes epochs n i = slots axes epochs (n - i) i

-- FORM

-- there are as many slots as a frontier has
abbrev pub AllSlots : (axes epochs : List ℕ) → Type 0
AllSlots axes epochs = (length axes ≡ most_entries) × (length epochs ≡ most_entries)

-- the least axis that slot i may have
unfoldable pub floor : (axes : List ℕ) → (i : ℕ) → ℕ
floor axes zero = 0
floor axes (suc i) = suc (get_or axes i 0)

-- slot i has an axis above the one before it, and an epoch above 0
unfoldable pub placed : (axes epochs : List ℕ) → (i : ℕ) → Bool
placed axes epochs i = leb (floor axes i) (get_or axes i 0) && ltb 0 (get_or epochs i 0)

abbrev pub all_zero : List ℕ → Bool
all_zero xs = list_all (λ x. x == 0) xs

-- R59: sixteen slots, and zero from the length on
unfoldable pub row_formed : (len : ℕ) → List ℕ → Bool
row_formed len row = eqb (length row) most_entries && all_zero (drop len row)

-- R59, form: what the slots of a frontier are that is not refused by 14 (R50)
unfoldable pub slots_formed : (axes epochs : List ℕ) → (len : ℕ) → Bool
slots_formed axes epochs len =
    leb len most_entries &&
    (rising_from 0 (slots axes epochs len 0) && (row_formed len axes && row_formed len epochs))

-- LOOKUP

-- R60: what a slot says of its axis: its epoch, or nothing where it is not below sixteen or there is no such epoch
unfoldable pub lookup_at : (epochs : List ℕ) → (at : Option ℕ) → Option ℕ
lookup_at epochs (Some at) = cond (ltb at most_entries && ltb at (length epochs)) (Some (get_or epochs at 0)) None
lookup_at epochs None = None

-- R60: what is in the slot that the search by halving finds, and the slot that it gave
unfoldable pub found_by_halving : (axes epochs : List ℕ) → (len axis : ℕ) → Found
found_by_halving axes epochs len axis =
    record { epoch = lookup_at epochs (searched axes axis len).at; at = (searched axes axis len).at }
