-- The loop's invariant is `Join`. Assumes nothing.
use Rattle.std.proofs.Common.{◌+◌, ◌-◌}
use Rattle.frontier.proofs.Join.{Join}
use Rattle.frontier.proofs.side.Formed.unite.Given as goal

abbrev pub invariant-loop-i : goal.invariant-loop-i
invariant-loop-i l =
    let x = l.fn.self in
    let y = l.fn.other in
    Join x.axes.now x.epochs.now y.axes.now y.epochs.now l.axes l.epochs x.len y.len l.n l.i l.j

abbrev pub decreases-loop-i : goal.decreases-loop-i
decreases-loop-i l = l.fn.self.len + l.fn.other.len - (l.i + l.j)
