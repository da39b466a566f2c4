-- How many slots are left. Assumes nothing.
use Rattle.std.proofs.Common.{◌-◌}
use Rattle.try_sent.proofs.entries.Given as goal

abbrev pub decreases-loop-i : goal.decreases-loop-i
decreases-loop-i g l = 16 - l.i
