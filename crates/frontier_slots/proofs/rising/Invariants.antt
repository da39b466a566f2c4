-- The loop's invariant: the rest rises exactly if the whole does. Assumes nothing.
use Rattle.std.proofs.Common.{◌≡◌}
use Rattle.frontier_slots.specs.Entries.{rising_from}
use Rattle.frontier_slots.specs.Slots.{slots, rest, floor}
use Rattle.frontier_slots.proofs.rising.Given as goal

abbrev pub invariant-loop-i : goal.invariant-loop-i
invariant-loop-i l =
    rising_from (floor l.fn.axes l.i) (rest l.fn.axes l.fn.epochs l.fn.len l.i)
    ≡ rising_from 0 (slots l.fn.axes l.fn.epochs l.fn.len 0)
