-- What the pass asks of the columns of a plan. Assumes nothing: these are definitions.
use Rattle.std.specs.Prelude.{◌≡◌, true, List, ℕ, ◌≤◌, ◌<◌, length}
use Rattle.plan_format.specs.Sizes.{most_buffers}
use Rattle.plan_format.specs.Plan.{Plan, count}
use Rattle.plan_format.specs.Sound.{Sound}
use Rattle.plan_order.specs.Runs.{is_full}
use Rattle.check_columns.specs.Columns.{QueueColumn, MarkColumns, RowColumns}

-- a plan with a full run, shown by columns
pub record MarksGiven (p : Plan) (n marks : ℕ) (queue mark operation rows : List ℕ) : Type 0 where
  pub sound : Sound p
  pub many : count p ≡ n
  pub few_buffers : length p.sizes ≤ most_buffers
  pub queues_shown : QueueColumn p queue
  pub marks_shown : MarkColumns p marks mark operation
  pub rows_shown : RowColumns p (λ j. j < count p) rows
  pub run : List ℕ
  pub full : is_full p run ≡ true
