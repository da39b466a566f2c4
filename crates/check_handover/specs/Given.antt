-- What the pass asks of the columns of a plan. Assumes nothing: these are definitions.
use Rattle.std.specs.Prelude.{◌≡◌, Bool, true, List, ℕ, ◌≤◌, ◌<◌, length}
use Rattle.plan_format.specs.Sizes.{most_semaphores}
use Rattle.plan_format.specs.Plan.{Plan, count}
use Rattle.plan_format.specs.Sound.{Sound}
use Rattle.plan_order.specs.OnlyOwners.{OnlyOwners}
use Rattle.check_columns.specs.Columns.{QueueColumn, SignalColumns, RowColumns}

-- a sound plan, its queues, signals and rows shown by columns; and only owners signal where that is said
pub record HandoversGiven (p : Plan) (n semaphores signals : ℕ) (owned : Bool)
    (queue ssem sop rows : List ℕ) : Type 0 where
  pub sound : Sound p
  pub many : count p ≡ n
  pub own_semaphores : length p.owners ≡ semaphores
  pub few_semaphores : semaphores ≤ most_semaphores
  pub only_owners : owned ≡ true → OnlyOwners p
  pub queues_shown : QueueColumn p queue
  pub values : List ℕ
  pub signals_shown : SignalColumns p signals ssem values sop
  pub rows_shown : RowColumns p (λ j. j < count p) rows
