-- How many numbers are left. Assumes nothing.
use Rattle.std.proofs.Common.{◌-◌}
use Rattle.try_sent.proofs.numbers.Given as goal

abbrev pub decreases-loop-i : goal.decreases-loop-i
decreases-loop-i g l = l.many - l.i
