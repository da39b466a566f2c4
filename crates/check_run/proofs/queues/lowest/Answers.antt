-- `queues::lowest` gives the lowest bit: the trailing zeros. Assumes nothing.
use native.Mathlib.Omega.{arith}
use Rattle.check_run.proofs.Words.{trailing_lowest}
use Rattle.check_run.proofs.queues.lowest.Goals as goal

pub returns : goal.returns
returns c = trailing_lowest 16 16 c.args.word (omega arith) c.requires c.ranges.word.fits
