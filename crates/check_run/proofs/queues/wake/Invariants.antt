-- `queues::wake` looks at every queue of the mask. The invariant: what a look at those left leaves is what one at all
-- leaves; the measure is the word that is left. Assumes nothing.
use mathlib.Core.List.{List}
use Prim.Native.Nat.{ℕ}
use Rattle.check_run.specs.Queues.{HeadsLooked}
use Rattle.check_run.proofs.queues.wake.Given as goal

abbrev pub invariant-loop-left : goal.invariant-loop-left
invariant-loop-left l =
    (x : ℕ) (w : List ℕ) → HeadsLooked l.left l.r l.head l.source l.ran l.waiter x w →
    HeadsLooked l.mask l.ready l.head l.source l.ran l.initial.waiter x w

abbrev pub decreases-loop-left : goal.decreases-loop-left
decreases-loop-left l = l.left
