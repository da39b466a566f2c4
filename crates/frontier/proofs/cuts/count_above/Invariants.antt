-- The loop's invariant: those counted, and those of the rest, are all. Assumes nothing.
use Rattle.std.proofs.Common.{◌≡◌, ◌+◌, ◌≤◌}
use Rattle.frontier_slots.specs.Entries.{exceeding}
use Rattle.frontier_slots.specs.Slots.{slots, rest}
use Rattle.frontier.proofs.cuts.count_above.Given as goal

abbrev pub invariant-loop-i : goal.invariant-loop-i
invariant-loop-i l =
    (l.n ≤ l.i)
    × (l.n + exceeding l.fn.bound (rest l.fn.axes l.fn.epochs l.fn.len l.i)
    ≡ exceeding l.fn.bound (slots l.fn.axes l.fn.epochs l.fn.len 0))
