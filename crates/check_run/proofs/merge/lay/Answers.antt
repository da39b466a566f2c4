-- `merge::lay` writes the row: the invariant says so of the columns passed. Assumes nothing.
use mathlib.Core.Path.{refl}
use native.Mathlib.Omega.{arith}
use Rattle.check_run.proofs.Merges.{laid_more}
use Rattle.check_run.proofs.merge.lay.Goals as goal

pub loop-k-preserved : goal.loop-k-preserved
loop-k-preserved c = (
  omega arith,
  laid_more _ _ _ _ _ _ c.requires (omega arith) c.loop-k.invariant.1 refl,
)
