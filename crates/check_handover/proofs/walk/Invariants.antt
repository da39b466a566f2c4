-- `check_handover::walk` walks the signals: the invariant is what is left of the walk. Assumes nothing.
use mathlib.Core.Path.{◌≡◌}
use Prim.Native.Nat.{ℕ}
use lib.ListN.{length, replicate}
use Rattle.plan_format.specs.Sizes.{no_operation}
use Rattle.check_handover.proofs.Turns.{Left}
use Rattle.check_handover.proofs.walk.Given as goal

abbrev pub invariant-loop-k : goal.invariant-loop-k
invariant-loop-k g l =
    (length l.last ≡ g.row.SEMAPHORES)
    × ((n : ℕ) → Left l.queue l.rows l.ssem l.sop n l.many (replicate g.row.SEMAPHORES no_operation) l.k l.last)
