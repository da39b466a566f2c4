-- `merge::lay` writes the row: the invariant says so of the columns passed. Assumes nothing.
use Prim.Native.Nat.{◌-◌, ◌≤◌}
use Rattle.check_run.specs.Merge.{Laid}
use Rattle.check_run.proofs.merge.lay.Given as goal

abbrev pub invariant-loop-k : goal.invariant-loop-k
invariant-loop-k l = (l.k ≤ 16) × Laid l.initial.rows l.j l.row l.k l.rows

abbrev pub decreases-loop-k : goal.decreases-loop-k
decreases-loop-k l = 16 - l.k
