-- The loop's invariant is `LeastBefore`: the least of the slots before i. Assumes nothing.
use Rattle.frontier.proofs.Trim.{LeastBefore}
use Rattle.frontier.proofs.cuts.least.Given as goal

abbrev pub invariant-loop-i : goal.invariant-loop-i
invariant-loop-i l = LeastBefore l.best l.fn.axes l.fn.epochs l.i
