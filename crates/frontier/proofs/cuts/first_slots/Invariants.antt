-- The loop's invariant: the slots before i are copied. Assumes nothing.
use Rattle.std.proofs.Common.{◌≡◌, length, take}
use Rattle.frontier_slots.specs.Entries.{most_entries}
use Rattle.frontier.proofs.cuts.first_slots.Given as goal

abbrev pub invariant-loop-i : goal.invariant-loop-i
invariant-loop-i l = (length l.first ≡ most_entries) × (take l.i l.first ≡ take l.i l.fn.row)
