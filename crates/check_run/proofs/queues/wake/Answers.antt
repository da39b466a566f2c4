-- `queues::wake` looks at every queue of the mask. The invariant: what a look at those left leaves is what one at all
-- leaves; the measure is the word that is left. Assumes nothing.
use native.Mathlib.Omega.{arith}
use Rattle.check_run.proofs.Words.{has_le}
use Rattle.check_run.proofs.Looks.{unit_shifted, looked_lowest, looked_end}
use Rattle.check_run.proofs.queues.wake.Goals as goal

pub overflow_sub-left : goal.overflow_sub-left
overflow_sub-left c =
    omega (
      arith,
      unit_shifted c.lowest-q.result 65536 c.lowest-q.ensures.0 (omega arith),
      has_le _ _ c.lowest-q.ensures.1.there,
    )

pub loop-left-preserved : goal.loop-left-preserved
loop-left-preserved c =
    λ x w h. c.loop-left.invariant x w
    (looked_lowest _ _ _ _ c.lowest-q.result _ _ _ _ _ x w c.lowest-q.ensures.1
    (unit_shifted c.lowest-q.result 65536 c.lowest-q.ensures.0 (omega arith)) c.look-r.ensures h)

pub returns : goal.returns
returns c = c.loop-left.invariant _ _ (looked_end _ _ _ _ _ _ (omega arith))
