-- `unmet` gives the first wait that is held: none before it is. Assumes nothing.
use Rattle.ask_trace.specs.Walk.{wait_unmet}
use Rattle.plan_format.specs.Sizes.{most_operations, most_waits}
use Prim.Native.Nat.{ℕ, ◌*◌, ◌%◌, ◌<◌}
use mathlib.Core.Bool.{false}
use mathlib.Core.Path.{◌≡◌}
use Rattle.ask_trace.proofs.steps.unmet.Given as goal

abbrev pub invariant-loop-k : goal.invariant-loop-k
invariant-loop-k l = (l.first ≡ most_waits * (l.j % most_operations)) ×
    ((i : ℕ) → i < l.k → wait_unmet l.columns.queue l.columns.source l.table l.counts l.j i ≡ false)
