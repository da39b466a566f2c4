-- `check_marks::uses` goes from the last mark to the first: table and answer are those of the marks passed. Assumes
-- nothing.
use Rattle.check_marks.proofs.Turns.{Backward}
use Rattle.check_marks.proofs.uses.Given as goal

abbrev pub invariant-loop-k : goal.invariant-loop-k
invariant-loop-k l =
    Backward l.queue l.rows l.mark l.mop l.n l.marks l.frees l.lowest l.k
