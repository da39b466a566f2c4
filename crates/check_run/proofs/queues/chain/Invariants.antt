-- `queues::chain` chains the operations from the last to the first: the invariant says so of those passed. Assumes
-- nothing.
use Prim.Native.Nat.{◌≤◌}
use Rattle.check_run.specs.Queues.{Chained}
use Rattle.check_run.proofs.queues.chain.Given as goal

abbrev pub invariant-loop-i : goal.invariant-loop-i
invariant-loop-i l = (l.i ≤ l.n) × Chained l.queue l.i l.n l.head l.next
