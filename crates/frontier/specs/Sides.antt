-- The sides of a walk over lent slots: as frontiers, and as entries. Assumes nothing: these are definitions.
use Rattle.std.specs.Prelude.{◌≡◌, cond, List, ℕ, Result, Ok, Err}
use Rattle.frontier.specs.declared.Frontier.{Frontier}
use Rattle.frontier.specs.declared.Unfit.{Unfit}
use Rattle.frontier.specs.declared.side.Slots.{Slots}
use Rattle.frontier.specs.declared.side.Formed.{Formed}
use Rattle.frontier_slots.specs.declared.Entry.{Entry}
use Rattle.frontier_slots.specs.Slots.{slots, rest}
use Rattle.frontier.specs.Frontiers.{well_formed, number_of_unfit}
use Rattle.frontier.specs.Walks.{of_slots}

-- the frontier of lent slots, and of those that are formed
abbrev pub shown : Slots → Frontier
shown s = of_slots s.axes.now s.epochs.now s.len s.tainted

abbrev pub side : Formed → Frontier
side x = of_slots x.axes.now x.epochs.now x.len x.tainted

-- the entries of a side, and those from slot i on
abbrev pub all_of : Formed → List Entry
all_of x = slots x.axes.now x.epochs.now x.len 0

abbrev pub onward : Formed → (i : ℕ) → List Entry
onward x i = rest x.axes.now x.epochs.now x.len i

-- R67, a side that is judged by its form: refused by 14, or not
abbrev pub form_number : Frontier → ℕ
form_number f = cond (well_formed f) 0 14

-- R67, what is told of a side by a number: the same slots where it is 0, else the refusal
abbrev pub Judged : (number : ℕ) → Frontier → Result Formed Unfit → Type 0
Judged n f (Ok x) = (n ≡ 0) × (side x ≡ f)
Judged n f (Err e) = n ≡ number_of_unfit e
