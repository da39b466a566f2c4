-- The loop's invariant: the search goes on as the whole (`Searching`).
use Rattle.axis_search.proofs.Searching.{Searching}
use Rattle.axis_search.proofs.halve.Given as goal

abbrev pub invariant-loop-many : goal.invariant-loop-many
invariant-loop-many l = Searching l.axes l.axis l.len l.low l.many l.read

abbrev pub decreases-loop-many : goal.decreases-loop-many
decreases-loop-many l = l.many
