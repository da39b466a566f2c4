-- What the parts of the check are given of a plan, and what they hand on. Assumes nothing: these are definitions.
use Rattle.std.specs.Prelude.{◌≡◌, Bool, true, cond, ◌↔◌, List, ℕ, ◌≤◌, length}
use Rattle.plan_format.specs.Sizes.{most_semaphores, most_buffers}
use Rattle.plan_format.specs.Limits.{Limits}
use Rattle.plan_format.specs.Plan.{Plan, count}
use Rattle.plan_format.specs.Sound.{Sound, rules_refusal}
use Rattle.plan_format.specs.Stored.{Tells}
use Rattle.plan_format.specs.declared.Told.{Told}
use Rattle.plan_order.specs.OnlyOwners.{OnlyOwners}
use Rattle.plan_order.specs.Runs.{standard}
use Rattle.check_columns.specs.Columns.{Columns, OwnerColumn, QueueColumn, WaitColumns, SignalColumns, MarkColumns}
use Rattle.check_columns.specs.Columns.{SourceColumn}
use Rattle.check_columns.specs.Shown.{ColumnsOf}
use Rattle.check_run.specs.Run.{RowsOf}
use Rattle.check_passes.specs.Answering.{OrderColumns}

-- a plan's queues, signals and marks as the passes over its order read them; and only owners signal where that is said
pub record OrderShown (p : Plan) (cs : OrderColumns) : Type 0 where
  pub own_semaphores : length p.owners ≡ cs.semaphores
  pub only_owners : cs.owned ≡ true → OnlyOwners p
  pub queues_shown : QueueColumn p cs.queue
  pub values : List ℕ
  pub signals_shown : SignalColumns p cs.signals cs.signal_semaphore values cs.signal_operation
  pub marks_shown : MarkColumns p cs.marks cs.mark cs.mark_operation

-- the columns of a plan within the limits
pub record CheckGiven (p : Plan) (n semaphores signals marks : ℕ) (owner : List ℕ) (cs : Columns) : Type 0 where
  pub limits : Limits p
  pub many : count p ≡ n
  pub own_semaphores : length p.owners ≡ semaphores
  pub owners_shown : OwnerColumn p owner
  pub shown : ColumnsOf p signals marks cs

-- the same for its owners, queues, waits and signals alone
pub record RulesGiven (p : Plan) (n semaphores signals : ℕ)
    (owner queue wsem wval ssem sval sop : List ℕ) : Type 0 where
  pub limits : Limits p
  pub many : count p ≡ n
  pub own_semaphores : length p.owners ≡ semaphores
  pub owners_shown : OwnerColumn p owner
  pub queues_shown : QueueColumn p queue
  pub waits_shown : WaitColumns p wsem wval
  pub signals_shown : SignalColumns p signals ssem sval sop

-- 7 and 8 as the rules give them, or the answer: 1 exactly if only owners signal, else 0; where none is given the
-- column shows what the waits rest on
pub record Ruled (p : Plan) (r : Told) (source : List ℕ) : Type 0 where
  pub owned : Bool
  pub owned_means : (owned ≡ true) ↔ OnlyOwners p
  pub told : Tells (rules_refusal p) (cond owned 1 0) r
  pub sources_shown : r.number ≡ 0 → SourceColumn p source

-- columns of a plan within the limits with neither 7 nor 8, its waits resolved
pub record OrderGiven (p : Plan) (n : ℕ) (source : List ℕ) (cs : OrderColumns) : Type 0 where
  pub limits : Limits p
  pub rules : (rules_refusal p).number ≡ 0
  pub many : count p ≡ n
  pub sources_shown : SourceColumn p source
  pub shown : OrderShown p cs

-- a sound plan after its standard run
pub record JudgeGiven (p : Plan) (n ran : ℕ) (cs : OrderColumns) (rows : List ℕ) : Type 0 where
  pub sound : Sound p
  pub many : count p ≡ n
  pub few_semaphores : length p.owners ≤ most_semaphores
  pub few_buffers : length p.sizes ≤ most_buffers
  pub shown : OrderShown p cs
  pub long : ran ≡ length (standard p)
  pub filled : RowsOf p (standard p) rows
