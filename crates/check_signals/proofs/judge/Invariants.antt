-- `check_signals::judge` walks the signals: the invariant is what is left of the walk, and of the look at owners.
-- Assumes nothing.
use mathlib.Core.Path.{◌≡◌}
use Prim.Native.Nat.{◌≤◌}
use lib.ListN.{length}
use Rattle.check_signals.proofs.Loops.{SignalsLeft}
use Rattle.check_signals.proofs.Owners.{OwnedLeft}
use Rattle.check_signals.proofs.judge.Given as goal

abbrev pub invariant-loop-k : goal.invariant-loop-k
invariant-loop-k l =
    (length l.last ≡ length l.initial.last) × SignalsLeft l.ssem l.sval l.sop l.many l.initial.last l.k l.last ×
    (l.many ≤ length l.ssem) ×
    (l.many ≤ length l.sval) × (l.many ≤ length l.sop) × OwnedLeft l.owner l.queue l.ssem l.sop l.many l.k l.all
