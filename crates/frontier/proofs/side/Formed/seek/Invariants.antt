-- The loop's invariant: what is skipped of the rest is what is skipped of the whole. Assumes nothing.
use Rattle.std.proofs.Common.{◌≡◌}
use Rattle.frontier_slots.specs.Slots.{rest}
use Rattle.frontier.specs.Walks.{skip_below}
use Rattle.frontier.proofs.side.Formed.seek.Given as goal

abbrev pub invariant-loop-i : goal.invariant-loop-i
invariant-loop-i l =
    let x = l.fn.self in
    skip_below l.fn.axis (rest x.axes.now x.epochs.now x.len l.i)
    ≡ skip_below l.fn.axis (rest x.axes.now x.epochs.now x.len l.fn.from)
