-- `check_marks::reuses` goes from the first mark to the last: the answer from here is that of the whole. Assumes
-- nothing.
use Rattle.check_marks.proofs.Turns.{Forward}
use Rattle.check_marks.proofs.reuses.Given as goal

abbrev pub invariant-loop-k : goal.invariant-loop-k
invariant-loop-k l = Forward l.queue l.rows l.mark l.mop l.n l.marks l.frees l.k
