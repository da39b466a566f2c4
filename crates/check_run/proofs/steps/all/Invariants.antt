-- `steps::all` ends with the standard run. The invariant: after i steps the pass is at a run of i operations, for
-- every plan that the columns show. Assumes nothing.
use mathlib.Core.Path.{◌≡◌}
use mathlib.Core.List.{List}
use Prim.Native.Nat.{ℕ, ◌*◌, ◌≤◌}
use lib.ListN.{length}
use Rattle.plan_format.specs.Plan.{Plan}
use Rattle.check_run.specs.Run.{RunGiven, Cleared}
use Rattle.check_run.specs.State.{Prepared, Going, Bounds}
use Rattle.check_run.proofs.steps.all.Given as goal

abbrev pub invariant-loop-i : goal.invariant-loop-i
invariant-loop-i l =
    (l.i ≤ l.n) × (length l.list ≡ length l.initial.list)
    × ((queue : List ℕ) → Prepared queue l.n l.source l.initial.head l.next l.initial.ran l.initial.waiter l.ready →
    Bounds queue l.n l.i l.head l.word l.initial.rows l.rows l.initial.list l.list)
    × ((p : Plan) (queue : List ℕ) → RunGiven p l.n queue l.source → Cleared l.initial.rows →
    2 * l.n ≤ length l.initial.list →
    Prepared queue l.n l.source l.initial.head l.next l.initial.ran l.initial.waiter l.ready →
    Going p l.n l.i l.source l.head l.prev l.ran l.waiter l.word l.rows l.initial.list l.list)
