-- The loop's invariant is `Trim`. Assumes nothing.
use Rattle.frontier_slots.specs.Entries.{exceeds}
use Rattle.frontier.proofs.Trim.{Trim}
use Rattle.frontier.proofs.cuts.trim.Given as goal

abbrev pub invariant-loop-i : goal.invariant-loop-i
invariant-loop-i l =
    Trim (λ x. exceeds x l.fn.bound) l.initial.axes l.initial.epochs l.axes l.epochs l.fn.len l.n l.i
