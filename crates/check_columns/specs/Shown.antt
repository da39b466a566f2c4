-- Columns that show a plan. Assumes nothing: these are definitions.
use Rattle.std.specs.Prelude.{ℕ, ◌+◌, ◌*◌, ◌/◌, ◌%◌, ◌≤◌, Bool, List, leb, length, get_or}
use Rattle.base_lists.specs.Lists.{tabulate_from}
use Rattle.plan_format.specs.Sizes.{most_buffers, most_operations, most_waits, most_signals, most_marks, row_width}
use Rattle.plan_format.specs.Plan.{Plan}
use Rattle.check_columns.specs.Columns.{Columns, Marked, QueueColumn, WaitColumns, SignalColumns, MarkColumns}

-- columns that show a plan, and how many signals and marks it has
pub record ColumnsOf (p : Plan) (signals marks : ℕ) (cs : Columns) : Type 0 where
  pub queues_shown : QueueColumn p cs.queue
  pub waits_shown : WaitColumns p cs.wait_semaphore cs.wait_value
  pub signals_shown : SignalColumns p signals cs.signal_semaphore cs.signal_value cs.signal_operation
  pub marks_shown : MarkColumns p marks cs.mark cs.mark_operation

-- columns with places for n operations, and for the waits, signals and marks that n operations have at most
pub record PlacesFor (n : ℕ) (cs : Columns) : Type 0 where
  pub queues : n ≤ length cs.queue
  pub wait_semaphores : most_waits * n ≤ length cs.wait_semaphore
  pub wait_values : most_waits * n ≤ length cs.wait_value
  pub signal_semaphores : most_signals * n ≤ length cs.signal_semaphore
  pub signal_values : most_signals * n ≤ length cs.signal_value
  pub signal_operations : most_signals * n ≤ length cs.signal_operation
  pub marks : most_marks * n ≤ length cs.mark
  pub mark_operations : most_marks * n ≤ length cs.mark_operation

-- ---- the marks and the rows as they are shown
-- how many codes of marks there are: twice a buffer, and one more for a free
abbrev pub mark_codes : ℕ
mark_codes = 2 * most_buffers

-- a mark of the columns, and the marks from a place on; numbers are cut to their bits, which changes none in range
abbrev pub mark_of : (mark operation : ℕ) → Marked
mark_of m i = record { by = i; buffer = m / 2; kind = m % 2 }

abbrev pub shown_from : (mark operation : List ℕ) → (many k : ℕ) → List Marked
shown_from ms is many k = tabulate_from many k (λ k. mark_of (get_or ms k 0 % mark_codes)
    (get_or is k 0 % most_operations))

-- i is j or before j, by their rows in the column of i's queue
unfoldable pub ordered : (queue rows : List ℕ) → (i j : ℕ) → Bool
ordered queue rows i j = let q = get_or queue i 0 % row_width in
    leb (get_or rows (row_width * i + q) 0) (get_or rows (row_width * j + q) 0)
