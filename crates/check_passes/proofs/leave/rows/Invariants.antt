-- `leave::rows` meets its contract: after i turns the first i numbers of the rows are in front. Assumes nothing.
use mathlib.Core.Path.{◌≡◌}
use mathlib.Core.List.{◌++◌}
use lib.ListN.{take, drop}
use Rattle.check_passes.proofs.leave.rows.Given as goal

abbrev pub invariant-loop-i : goal.invariant-loop-i
invariant-loop-i l = l.table ≡ take l.i l.from ++ drop l.i l.fn.table
