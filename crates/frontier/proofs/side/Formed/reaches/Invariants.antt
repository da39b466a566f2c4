-- The loop's invariant is `Reach`. Assumes nothing.
use Rattle.frontier.proofs.Reach.{Reach}
use Rattle.frontier.proofs.side.Formed.reaches.Given as goal

abbrev pub invariant-loop-j : goal.invariant-loop-j
invariant-loop-j l =
    let x = l.fn.self in
    let y = l.fn.other in Reach x.axes.now x.epochs.now y.axes.now y.epochs.now x.len y.len l.i l.j
