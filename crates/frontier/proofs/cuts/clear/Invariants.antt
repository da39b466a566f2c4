-- The loop's invariant is `Clearing`. Assumes nothing.
use Rattle.frontier.proofs.Fill.{Clearing}
use Rattle.frontier.proofs.cuts.clear.Given as goal

abbrev pub invariant-loop-i : goal.invariant-loop-i
invariant-loop-i l = Clearing l.fn.from l.initial.row l.row l.i
