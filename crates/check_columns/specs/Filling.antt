-- Columns filled from the numbers of a plan: what is where among the numbers, and what each operation adds to each
-- column. Counts and positions are cut to a few bits, which changes none in range. Assumes nothing: these are
-- definitions.
use Rattle.std.specs.Prelude.{◌≡◌, cond, List, [], ◌∷◌, ◌++◌, ℕ, zero, suc, ◌+◌, ◌*◌, ◌%◌, ◌≤◌, ◌<◌, ltb, length}
use Rattle.std.specs.Prelude.{get_or}
use Rattle.std.proofs.lemmas.List.Edits.{sets}
use Rattle.base_lists.specs.Lists.{tabulate_from}
use Rattle.plan_format.specs.Sizes.{most_buffers, most_operations, most_waits, no_wait}
use Rattle.check_columns.specs.Columns.{Columns}

-- a number of each of three waits; in place of a wait that is missing, what means none
abbrev pub three : (many : ℕ) → (number : ℕ → ℕ) → (j : ℕ) → ℕ
three many number j = cond (ltb j many) (number j) no_wait

-- the operation of each signal or mark
abbrev pub repeated : (many i : ℕ) → List ℕ
repeated many i = tabulate_from many 0 (λ j. i)

-- what operation i, at a place of the numbers, adds to a column
abbrev pub Part : Type 0
Part = (i at : ℕ) → List ℕ

module _ (numbers : List ℕ) where
  -- ---- pairs of numbers after their count, at a place
  abbrev pub first_at : (at j : ℕ) → ℕ
  first_at at j = get_or numbers (at + 1 + 2 * j) 0

  abbrev pub second_at : (at j : ℕ) → ℕ
  second_at at j = get_or numbers (at + 2 + 2 * j) 0

  abbrev pub wait_semaphores : (many at : ℕ) → List ℕ
  wait_semaphores many at = tabulate_from most_waits 0 (λ j. three many (first_at at) j % 65536)

  abbrev pub wait_values : (many at : ℕ) → List ℕ
  wait_values many at = tabulate_from most_waits 0 (λ j. three many (second_at at) j)

  abbrev pub signal_semaphores : (many at : ℕ) → List ℕ
  signal_semaphores many at = tabulate_from many 0 (λ j. first_at at j % 65536)

  abbrev pub signal_values : (many at : ℕ) → List ℕ
  signal_values many at = tabulate_from many 0 (λ j. second_at at j)

  abbrev pub codes_of_marks : (many at : ℕ) → List ℕ
  codes_of_marks many at = tabulate_from many 0 (λ j. 2 * (first_at at j % most_buffers) + second_at at j % 2)

  -- ---- where the parts of an operation are
  unfoldable pub wait_count : (at : ℕ) → ℕ
  wait_count at = get_or numbers (at + 1) 0 % 4

  unfoldable pub signals_at : (at : ℕ) → ℕ
  signals_at at = at + 2 + 2 * wait_count at

  unfoldable pub signal_count : (at : ℕ) → ℕ
  signal_count at = get_or numbers (signals_at at) 0 % 4

  unfoldable pub marks_at : (at : ℕ) → ℕ
  marks_at at = signals_at at + 1 + 2 * signal_count at

  unfoldable pub mark_count : (at : ℕ) → ℕ
  mark_count at = get_or numbers (marks_at at) 0 % 8

  unfoldable pub next_at : (at : ℕ) → ℕ
  next_at at = marks_at at + 1 + 2 * mark_count at

  -- ---- what operation i, at a place, adds to each column
  abbrev pub queue_part : Part
  queue_part i at = get_or numbers at 0 % 65536 ∷ []

  abbrev pub wait_semaphore_part : Part
  wait_semaphore_part i at = wait_semaphores (wait_count at) (at + 1)

  abbrev pub wait_value_part : Part
  wait_value_part i at = wait_values (wait_count at) (at + 1)

  abbrev pub signal_semaphore_part : Part
  signal_semaphore_part i at = signal_semaphores (signal_count at) (signals_at at)

  abbrev pub signal_value_part : Part
  signal_value_part i at = signal_values (signal_count at) (signals_at at)

  abbrev pub signal_operation_part : Part
  signal_operation_part i at = repeated (signal_count at) i

  abbrev pub mark_part : Part
  mark_part i at = codes_of_marks (mark_count at) (marks_at at)

  abbrev pub mark_operation_part : Part
  mark_operation_part i at = repeated (mark_count at) i

  -- the parts of some operations, one after the other
  unfoldable pub parts : Part → (many i at : ℕ) → List ℕ
  parts f zero i at = []
  parts f (suc k) i at = f i at ++ parts f k (suc i) (next_at at)

-- ---- one operation
-- a part is in a column from a place on, as far as the column has places
pub record Put (part : List ℕ) (place : ℕ) (before after : List ℕ) : Type 0 where
  pub stored : after ≡ sets before place part

-- operation i has its places in the columns of waits: one of 1,024, and three places in the column of values
abbrev pub WaitPlaced : (i : ℕ) → (value : List ℕ) → Type 0
WaitPlaced i value = (i < most_operations) × (most_waits * i + most_waits ≤ length value)

-- operation i at a place is in every column; `signals` and `marks` are how many come before it
pub record Added (numbers : List ℕ) (i at signals marks : ℕ) (cs cs' : Columns) (at' signals' marks' : ℕ) : Type 0 where
  pub queues_added : Put (queue_part numbers i at) i cs.queue cs'.queue
  pub wait_semaphores_added : Put (wait_semaphore_part numbers i at) (most_waits * i) cs.wait_semaphore
      cs'.wait_semaphore
  pub wait_values_added : Put (wait_value_part numbers i at) (most_waits * i) cs.wait_value
      cs'.wait_value
  pub signal_semaphores_added : Put (signal_semaphore_part numbers i at) signals cs.signal_semaphore
      cs'.signal_semaphore
  pub signal_values_added : Put (signal_value_part numbers i at) signals cs.signal_value
      cs'.signal_value
  pub signal_operations_added : Put (signal_operation_part numbers i at) signals cs.signal_operation
      cs'.signal_operation
  pub marks_added : Put (mark_part numbers i at) marks cs.mark cs'.mark
  pub mark_operations_added : Put (mark_operation_part numbers i at) marks cs.mark_operation
      cs'.mark_operation
  pub next : at' ≡ next_at numbers at
  pub more_signals : signals' ≡ signals + signal_count numbers at
  pub more_marks : marks' ≡ marks + mark_count numbers at
