-- How many operations are left. Assumes nothing.
use Rattle.std.proofs.Common.{◌-◌}
use Rattle.try_sent.proofs.every.Given as goal

abbrev pub decreases-loop-i : goal.decreases-loop-i
decreases-loop-i g l = l.operations - l.i
