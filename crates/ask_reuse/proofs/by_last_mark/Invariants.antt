-- `by_last_mark` goes from the last mark to the first: the last one on the buffer is among those left. Assumes nothing.
use Rattle.ask_reuse.proofs.ReuseTurns.{on_buffer, Passed}
use Rattle.ask_reuse.proofs.by_last_mark.Given as goal

abbrev pub invariant-loop-k : goal.invariant-loop-k
invariant-loop-k l = Passed (on_buffer l.mark l.b) l.marks l.k
