-- `walk` goes from the first step on: the walk from here is the whole walk. Assumes nothing.
use Rattle.plan_trace.specs.Trace.{step_count}
use Rattle.plan_format.specs.Sizes.{most_steps}
use Prim.Native.Nat.{◌≤◌}
use mathlib.Core.Path.{◌≡◌}
use Rattle.ask_trace.proofs.Turns.{Walking}
use Rattle.ask_trace.proofs.steps.walk.Given as goal

abbrev pub invariant-loop-k : goal.invariant-loop-k
invariant-loop-k l = (l.many ≡ step_count l.trace) × (l.many ≤ most_steps) × Walking
    l.n l.columns.queue l.columns.source l.table l.trace l.counts l.k
