-- `merge::merge` gives the largest cell of each column and the unit's: the invariant says so of the columns passed.
-- Assumes nothing.
use mathlib.Core.Path.{◌≡◌}
use Prim.Native.Nat.{ℕ, ◌+◌, ◌-◌, ◌%◌, ◌≤◌, ◌<◌}
use lib.ListN.{length, get_or}
use Rattle.check_run.specs.Merge.{largest}
use Rattle.check_run.proofs.merge.merge.Given as goal

abbrev pub invariant-loop-k : goal.invariant-loop-k
invariant-loop-k l =
    (l.k ≤ 16) × (length l.row ≡ 16) ×
    ((m : ℕ) → m < l.k → get_or l.row m 0 ≡ (largest l.rows l.a l.b l.c l.d m + get_or l.unit (16 - l.q + m) 0) % 65536)

abbrev pub decreases-loop-k : goal.decreases-loop-k
decreases-loop-k l = 16 - l.k
