-- The loop's invariant is `CutBound`: the bounds are right, and so is every slot seen. Assumes nothing.
use Rattle.frontier.proofs.Trim.{CutBound}
use Rattle.frontier.proofs.cuts.bound_of.Given as goal

abbrev pub invariant-loop-i : goal.invariant-loop-i
invariant-loop-i l = CutBound l.lost l.kept l.fn.axes l.fn.epochs l.fn.len l.fn.capacity l.i
