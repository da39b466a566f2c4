-- The opened plan: what the check hands on to those who ask further. Assumes nothing: these are definitions.
use Rattle.std.specs.Prelude.{◌≡◌, List, [], ℕ, ◌*◌, ◌<◌, length, replicate}
use Rattle.base_lists.specs.Lists.{in_front}
use Rattle.plan_format.specs.Limits.{Limits}
use Rattle.plan_format.specs.Plan.{Plan, count, queues}
use Rattle.plan_format.specs.Sound.{Sound, rules_refusal}
use Rattle.plan_format.specs.Stored.{scanned, plan_in}
use Rattle.plan_order.specs.Check.{order_refusal}
use Rattle.check_columns.specs.Columns.{Columns, columns, HeadColumn, QueueColumn, SignalColumns, MarkColumns}
use Rattle.check_columns.specs.Columns.{SourceColumn, RowColumns}
use Rattle.check_load.specs.Loading.{KeptPast, head_got, head_operations}
use Rattle.plan_format.specs.Sizes.{head_numbers, most_operations, wait_places, signal_places, mark_places}
use Rattle.plan_order.specs.Promise.{Checked}
use Rattle.check_plan.specs.Counting.{outcome_told, SizesTold}
use Rattle.check_plan.specs.declared.Opened.{Opened}
use Rattle.check_plan.specs.declared.PlanColumns.{PlanColumns}

-- what is lent to the check for those who ask further: the numbers before the operations, the queue of each operation,
-- the operation that each wait rests on, the semaphore, the value and the operation of each signal, the code and the
-- operation of each mark
pub record Lent : Type 0 where
  pub head : List ℕ
  pub queue : List ℕ
  pub source : List ℕ
  pub signal_semaphore : List ℕ
  pub signal_value : List ℕ
  pub signal_operation : List ℕ
  pub mark : List ℕ
  pub mark_operation : List ℕ

abbrev pub lent : (head queue source ssem sval sop mark mop : List ℕ) → Lent
lent head queue source ssem sval sop mark mop = record {
  head = head;
  queue = queue;
  source = source;
  signal_semaphore = ssem;
  signal_value = sval;
  signal_operation = sop;
  mark = mark;
  mark_operation = mop;
}

-- of a plan that the reader takes: all of it, and what the waits rest on where neither 7 nor 8 is given
pub record ReadPlan (p : Plan) (o : Opened) (c : Lent) : Type 0 where
  pub head_shown : HeadColumn p c.head
  pub queues_shown : QueueColumn p c.queue
  pub signals_shown : SignalColumns p o.signals c.signal_semaphore c.signal_value c.signal_operation
  pub marks_shown : MarkColumns p o.marks c.mark c.mark_operation
  pub sources_shown : (rules_refusal p).number ≡ 0 → SourceColumn p c.source

-- of a plan that passes: its counts, all that is lent, and its rows in front of the table
pub record OpenedPlan (p : Plan) (o : Opened) (c : Lent) (table : List ℕ) : Type 0 where
  pub limits : Limits p
  pub sound : Sound p
  pub passes : (order_refusal p).number ≡ 0
  pub queues_are : o.counted.counts.queues ≡ queues p
  pub semaphores_are : o.counted.counts.semaphores ≡ length p.owners
  pub buffers_are : o.counted.counts.buffers ≡ length p.sizes
  pub operations_are : o.counted.counts.operations ≡ count p
  pub read : ReadPlan p o c
  pub sources_shown : SourceColumn p c.source
  pub rows_shown : RowColumns p (λ j. j < count p) table

-- ---- what is left
-- what is lent, as columns: the sources are in the place of the waits' semaphores, whose values are not lent
abbrev pub lent_columns : Lent → Columns
lent_columns c =
    columns c.queue c.source [] c.signal_semaphore c.signal_value c.signal_operation c.mark
    c.mark_operation

-- past the plan's own places each column is as it was; where the reader refuses the plan, past the places of the n
-- operations that the head tells, with three signals and seven marks to each
pub record LentKept (bytes : List ℕ) (n : ℕ) (o : Opened) (c c' : Lent) : Type 0 where
  pub taken : (scanned bytes).fault.number ≡ 0 →
      KeptPast o.counted.counts.operations o.signals o.marks (lent_columns c) (lent_columns c')
  pub refused : ((scanned bytes).fault.number ≡ 0 → ⊥) →
      KeptPast n (3 * n) (7 * n) (lent_columns c) (lent_columns c')

-- the numbers of the head are in front of what is lent for them, up to the refusal of the head too
pub record LentLeft (bytes : List ℕ) (o : Opened) (c c' : Lent) : Type 0 where
  pub head_is : c'.head ≡ in_front (head_got bytes) c.head
  pub kept : LentKept bytes (head_operations bytes) o c c'

-- ---- columns that the check owns
-- as they are lent to the check: cleared before it, and after it
abbrev pub cleared : Lent
cleared =
    lent (replicate head_numbers 0) (replicate most_operations 0) (replicate wait_places 0)
    (replicate signal_places 0) (replicate signal_places 0) (replicate signal_places 0) (replicate mark_places 0)
    (replicate mark_places 0)

abbrev pub lent_of : PlanColumns → Lent
lent_of c =
    lent c.head c.queue c.source c.signal_semaphore c.signal_value c.signal_operation c.mark c.mark_operation

-- R55, what those who ask further are handed: all that the check promises of what it was lent
pub record Handed (bytes : List ℕ) (o : Opened) (before : Lent) (c : PlanColumns)
    (table table_now list list_now : List ℕ) : Type 0 where
  pub checked : Checked bytes (outcome_told o.counted.outcome) table table_now list list_now
  pub sizes : SizesTold bytes o.counted.counts
  pub refused : ((scanned bytes).fault.number ≡ 0 → ⊥) → (o.signals ≡ 0) × (o.marks ≡ 0)
  pub read : (scanned bytes).fault.number ≡ 0 → ReadPlan (plan_in bytes) o (lent_of c)
  pub opened : (outcome_told o.counted.outcome).number ≡ 0 → OpenedPlan (plan_in bytes) o (lent_of c) table_now
  pub left : LentLeft bytes o before (lent_of c)
