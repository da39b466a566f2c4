-- What a loaded plan is: the reader's refusal, or columns that show the plan; and what is left in what was lent.
-- Assumes nothing: these are definitions.
use Rattle.std.specs.Prelude.{◌≡◌, cond, List, ℕ, ◌*◌, length, Result, Ok, Err}
use Rattle.plan_format.specs.Sizes.{most_waits}
use Rattle.plan_format.specs.Form.{form_by, is_second}
use Rattle.plan_format.specs.Grammar.{last_got}
use Rattle.plan_format.specs.Plan.{count}
use Rattle.plan_format.specs.Refusal.{given}
use Rattle.plan_format.specs.Stored.{scanned, plan_in}
use Rattle.plan_order.specs.Meaning.{PastKept}
use Rattle.check_columns.specs.Columns.{Columns, HeadColumn}
use Rattle.check_columns.specs.Shown.{ColumnsOf}
use Rattle.plan_format.specs.Told.{number_of, Refused}
use Rattle.stored_numbers.specs.Reading.{head_told, HeadRead, head_scan, unless_refused}
use Rattle.stored_numbers.specs.declared.Head.{Head}
use Rattle.check_load.specs.declared.Loaded.{Loaded}

-- the counts of queues, semaphores, buffers and operations, each 0 where the reader refuses the plan
pub record Sizes (bytes : List ℕ) (q s b n : ℕ) : Type 0 where
  pub queues : q ≡ cond (given (scanned bytes).fault) 0 (length (plan_in bytes).axes)
  pub semaphores : s ≡ cond (given (scanned bytes).fault) 0 (length (plan_in bytes).owners)
  pub buffers : b ≡ cond (given (scanned bytes).fault) 0 (length (plan_in bytes).sizes)
  pub operations : n ≡ cond (given (scanned bytes).fault) 0 (count (plan_in bytes))

-- what is told of a loading: the number and the place of the refusal met, or 0 and 0; how many queues, semaphores,
-- buffers, operations, signals and marks the plan has
pub record ToldLoad : Type 0 where
  pub number : ℕ
  pub place : ℕ
  pub queues : ℕ
  pub semaphores : ℕ
  pub buffers : ℕ
  pub operations : ℕ
  pub signals : ℕ
  pub marks : ℕ

-- R53, what is told by what was loaded, or by a refusal: the counts beside it are 0
abbrev pub load_told : Result Loaded Refused → ToldLoad
load_told (Ok l) =
    record {
      number = 0;
      place = 0;
      queues = l.queues;
      semaphores = l.semaphores;
      buffers = l.buffers;
      operations = l.operations;
      signals = l.signals;
      marks = l.marks;
    }
load_told (Err e) =
    record {
      number = number_of e.reason;
      place = e.place;
      queues = 0;
      semaphores = 0;
      buffers = 0;
      operations = 0;
      signals = 0;
      marks = 0;
    }

-- R53: the reader's refusal; where there is none, the columns show the plan. On a refusal the counts are 0
pub record Loads (bytes : List ℕ) (r : ToldLoad) (head : List ℕ) (cs : Columns) : Type 0 where
  pub number : r.number ≡ (scanned bytes).fault.number
  pub place : r.place ≡ (scanned bytes).fault.place
  pub sizes : Sizes bytes r.queues r.semaphores r.buffers r.operations
  pub none : (r.number ≡ 0 → ⊥) → (r.signals ≡ 0) × (r.marks ≡ 0)
  pub head_shown : r.number ≡ 0 → HeadColumn (plan_in bytes) head
  pub columns : r.number ≡ 0 → ColumnsOf (plan_in bytes) r.signals r.marks cs

-- R8, R53: the head of a stored plan, read in the form that its first byte tells
pub record HeadKnown (bytes : List ℕ) (h : Head) (head : List ℕ) : Type 0 where
  pub form : h.wide ≡ is_second bytes
  pub read : HeadRead (form_by h.wide) bytes (head_told (Ok h)) head

-- ---- what is left
-- past so many operations, signals and marks each column is as it was
pub record KeptPast (operations signals marks : ℕ) (cs cs' : Columns) : Type 0 where
  pub queues_kept : PastKept operations cs.queue cs'.queue
  pub wait_semaphores_kept : PastKept (most_waits * operations) cs.wait_semaphore cs'.wait_semaphore
  pub wait_values_kept : PastKept (most_waits * operations) cs.wait_value cs'.wait_value
  pub signal_semaphores_kept : PastKept signals cs.signal_semaphore cs'.signal_semaphore
  pub signal_values_kept : PastKept signals cs.signal_value cs'.signal_value
  pub signal_operations_kept : PastKept signals cs.signal_operation cs'.signal_operation
  pub marks_kept : PastKept marks cs.mark cs'.mark
  pub mark_operations_kept : PastKept marks cs.mark_operation cs'.mark_operation

-- past the plan's own places the columns are as they were; on a refusal, past the places of the n operations that the
-- head tells, with the three signals and seven marks that the bits of their counts can tell
pub record Keeps (n : ℕ) (r : ToldLoad) (cs cs' : Columns) : Type 0 where
  pub taken : r.number ≡ 0 → KeptPast r.operations r.signals r.marks cs cs'
  pub refused : (r.number ≡ 0 → ⊥) → KeptPast n (3 * n) (7 * n) cs cs'

-- the numbers of the head, up to its refusal
unfoldable pub head_got : (bytes : List ℕ) → List ℕ
head_got bs = (head_scan bs).got

-- how many operations the head tells; 0 beside a refusal of the head
unfoldable pub head_operations : (bytes : List ℕ) → ℕ
head_operations bs = unless_refused (head_scan bs) (last_got (head_scan bs))
