-- R27 to R29: what the standard run's pass is given and what it leaves, for every plan that the columns show. Assumes
-- nothing: these are definitions.
use Rattle.std.specs.Prelude.{◌≡◌, true, false, List, ℕ, ◌+◌, ◌*◌, ◌≤◌, ◌<◌, length, get_or, take, drop}
use Rattle.base_lists.specs.Lists.{member, in_front}
use Rattle.plan_format.specs.Sizes.{most_queues, most_operations, most_waits, row_width, row_places}
use Rattle.plan_format.specs.Plan.{Plan, count, op}
use Rattle.plan_format.specs.Sound.{Sound}
use Rattle.plan_order.specs.Runs.{number_ready, standard, run_list}
use Rattle.check_columns.specs.Columns.{QueueColumn, SourceColumn, RowColumns}

-- columns that show a sound plan of n operations, each with so few waits that the source column has a place for every
-- one
pub record RunGiven (p : Plan) (n : ℕ) (queue source : List ℕ) : Type 0 where
  pub sound : Sound p
  pub many : count p ≡ n
  pub few_waits : (i : ℕ) → i < count p → length (op p i).waits ≤ most_waits
  pub queues : QueueColumn p queue
  pub sources : SourceColumn p source

-- a table of 1,026 rows, all zero
pub record Cleared (rows : List ℕ) : Type 0 where
  pub long : length rows ≡ row_places
  pub zeros : (k : ℕ) → get_or rows k 0 ≡ 0

-- the rows of the operations that have run; every other row of the 1,026 is zero
pub record RowsOf (p : Plan) (run rows : List ℕ) : Type 0 where
  pub ran : RowColumns p (λ j. member j run ≡ true) rows
  pub others : (j q : ℕ) → j < most_operations + 2 → member j run ≡ false → q < row_width →
      get_or rows (row_width * j + q) 0 ≡ 0

-- the run in the front of the list, the number ready before each step from place n on, and nothing past 2 n
pub record RunListed (p : Plan) (n : ℕ) (run list list_now : List ℕ) : Type 0 where
  pub steps : (k : ℕ) → k < length run → get_or list_now k 0 ≡ get_or run k 0
  pub readies : (k : ℕ) → k < length run → get_or list_now (n + k) 0 ≡ number_ready p (take k run)
  pub past : drop (2 * n) list_now ≡ drop (2 * n) list
  pub long : length list_now ≡ length list

-- Whatever the columns show, and for a list of any length: what ran is in the front of the list, each an operation
-- below n and none twice; from place n on is how many queues were ready, one to sixteen. The rest of the list stays,
-- and so does each row of an operation that did not run, those from n on among them. Which operations ran, in which
-- order, and their rows are unspecified. With no places for n operations nothing is done.
pub record Bounded (n answer : ℕ) (rows rows_now list list_now : List ℕ) : Type 0 where
  pub few : answer ≤ n
  pub steps : (k : ℕ) → k < answer → k < length list → get_or list_now k 0 < n
  pub once : (i k : ℕ) → i < k → k < answer → k < length list → get_or list_now i 0 ≡ get_or list_now k 0 → ⊥
  pub readies : (k : ℕ) → k < answer → n + k < length list → (1 ≤ get_or list_now (n + k) 0)
      × (get_or list_now (n + k) 0 ≤ most_queues)
  pub between : (k : ℕ) → answer ≤ k → k < n → get_or list_now k 0 ≡ get_or list k 0
  pub past : drop (n + answer) list_now ≡ drop (n + answer) list
  pub long : length list_now ≡ length list
  pub unlaid :
      answer ≤ length list → (j q : ℕ) → q < row_width → ((k : ℕ) → k < answer → get_or list_now k 0 ≡ j → ⊥) →
      get_or rows_now (row_width * j + q) 0 ≡ get_or rows (row_width * j + q) 0
  pub rows_past : drop (row_width * n) rows_now ≡ drop (row_width * n) rows
  pub rows_long : length rows_now ≡ length rows
  pub over : most_operations < n → (answer ≡ 0) × (rows_now ≡ rows) × (list_now ≡ list)

-- the whole pass
pub record Ran (p : Plan) (n answer : ℕ) (rows list list_now : List ℕ) : Type 0 where
  pub many : answer ≡ length (standard p)
  pub listed : RunListed p n (standard p) list list_now
  pub whole : answer ≡ n → list_now ≡ in_front (run_list p) list
  pub filled : RowsOf p (standard p) rows
