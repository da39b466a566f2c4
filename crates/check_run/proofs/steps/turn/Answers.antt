-- `steps::turn` takes the pass one step on. Assumes nothing.
use native.Mathlib.Omega.{arith}
use Rattle.check_run.proofs.Words.{has_le}
use Rattle.check_run.proofs.Looks.{unit_shifted}
use Rattle.check_run.proofs.Bounds.{bounds_more}
use Rattle.check_run.proofs.Turns.{turned}
use Rattle.check_run.proofs.steps.turn.Goals as goal

pub overflow_sub-ready : goal.overflow_sub-ready
overflow_sub-ready c =
    omega (
      arith,
      unit_shifted c.lowest-q.result 65536 c.lowest-q.ensures.0 (omega arith),
      has_le _ _ c.lowest-q.ensures.1.there,
    )

pub returns : goal.returns
returns c =
    record {
      bounds = λ queue first_rows first tables bounds.
          bounds_more queue c.args.n _ _ tables c.requires.2 _ _ _ first_rows _ first _ bounds
          c.ranges.ready.fits c.requires.1
          _ _ c.lowest-q.ensures.0 c.lowest-q.ensures.1 c.slot-j.ensures _ _ c.put.ensures
          c.put-2.ensures
          _ _ _ _ _ _ _ c.step.ensures _ _
          (unit_shifted c.lowest-q.result 65536 c.lowest-q.ensures.0 (omega arith)) _ _ _ c.wake.ensures;
      of_plans = λ p queue first shown tables room going.
          turned p c.args.n queue _ _ _ first shown tables room _ _ _ _ _ _ _ _ going c.requires.0
          c.ranges.ready.fits c.requires.1
          _ _ c.lowest-q.ensures.0 c.lowest-q.ensures.1 c.slot-j.ensures _ _ c.put.ensures
          c.put-2.ensures
          _ _ _ _ c.step.ensures _ _ c.get_or.ensures
          (unit_shifted c.lowest-q.result 65536 c.lowest-q.ensures.0 (omega arith))
          _ _ c.wake.ensures;
    }
