-- `walk` goes from the first step on: the walk from here is the whole walk. Assumes nothing.
use Rattle.plan_trace.specs.Trace.{step_count, step_at}
use mathlib.Core.Path.{sym, ◌∙◌}
use native.Mathlib.Omega.{arith}
use Rattle.ask_trace.proofs.Turns.{walking_none, walking_departs, walking_more, walking_end}
use Rattle.ask_trace.proofs.steps.walk.Goals as goal

pub loop-k-init : goal.loop-k-init
unfolding step_count
loop-k-init c = (c.word-many.ensures.0, c.word-many.ensures.1, walking_none _ _ _ _ _)

pub returns-then-departs : goal.returns-then-departs
unfolding step_at
returns-then-departs c =
    walking_departs _ _ _ _ _ _ _ c.loop-k.invariant.2 _ _
    (omega (arith, c.loop-k-test.true, c.loop-k.invariant.0))
    c.word-j.ensures.0 c.judge-f.ensures
    (sym c.departs.ensures ∙ c.if-departs.true)

pub loop-k-preserved : goal.loop-k-preserved
unfolding step_at
loop-k-preserved c = (
  c.loop-k.invariant.0,
  c.loop-k.invariant.1,
  walking_more _ _ _ _ _ _ _ c.loop-k.invariant.2 _ _
      (omega (arith, c.loop-k-test.true, c.loop-k.invariant.0))
      c.word-j.ensures.0 c.judge-f.ensures
      (sym c.departs.ensures ∙ c.if-departs.false) _ _ c.place.ensures.0
      c.own.ensures,
)

pub returns : goal.returns
returns c =
    walking_end _ _ _ _ _ _ _ c.loop-k.invariant.2 (omega (arith, c.loop-k-test.false, c.loop-k.invariant.0)) _
    c.loop-k.invariant.0 _ c.end.ensures
