-- `last_on` goes from the last operation to the first: the queue's last one is among those left. Assumes nothing.
use Rattle.ask_reuse.proofs.ReuseTurns.{own, Passed}
use Rattle.ask_reuse.proofs.last_on.Given as goal

abbrev pub invariant-loop-i : goal.invariant-loop-i
invariant-loop-i l = Passed (own l.queue l.q) l.n l.i
