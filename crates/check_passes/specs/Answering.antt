-- R54 to R56: what the check answers and leaves by its columns alone, whether they show a plan or not; only the order
-- of the run and its rows are unspecified. Assumes nothing: these are definitions.
use Rattle.std.specs.Prelude.{◌≡◌, Bool, true, false, ◌||◌, cond, List, ℕ, ◌*◌, ◌<◌, ltb, leb, length, take, replicate}
use Rattle.base_lists.specs.Lists.{in_front}
use Rattle.plan_format.specs.Sizes.{most_semaphores, most_operations, first_semaphores, row_width}
use Rattle.plan_format.specs.Sizes.{row_places}
use Rattle.plan_format.specs.Refusal.{Refusal, refusal, none_given, given, or_refusal}
use Rattle.plan_format.specs.Stored.{Tells}
use Rattle.plan_format.specs.declared.Told.{Told}
use Rattle.check_signals.specs.Walks.{signals_found, lasts_found}
use Rattle.check_waits.specs.Waits.{waits_found, Sources}
use Rattle.check_run.specs.Run.{Bounded}
use Rattle.check_stuck.specs.Zeros.{first_zero}
use Rattle.check_handover.specs.Walk.{first_unturned}
use Rattle.check_marks.specs.Passes.{first_broken}

-- nothing is signalled on any semaphore: a place for each that a plan can have, or that one in the first form can have
-- where the plan has no more
unfoldable pub zeros : (semaphores : ℕ) → List ℕ
zeros semaphores = replicate (cond (leb semaphores first_semaphores) first_semaphores most_semaphores) 0

-- 7, else 8
unfoldable pub rules_by : (n semaphores signals : ℕ) → (wsem wval ssem sval sop : List ℕ) → Refusal
rules_by n semaphores signals wsem wval ssem sval sop =
    or_refusal (signals_found semaphores signals ssem sval sop (zeros semaphores))
    (waits_found n semaphores signals ssem sval sop wsem wval
    (lasts_found semaphores signals ssem sval sop (zeros semaphores)))

-- the column of the waits afterwards: as it was where 7 is given, else as the resolution leaves it
pub record SourcesBy (n semaphores signals : ℕ) (wsem wval ssem sval sop source : List ℕ) : Type 0 where
  pub refused : given (signals_found semaphores signals ssem sval sop (zeros semaphores)) ≡ true → source ≡ wsem
  pub resolved : given (signals_found semaphores signals ssem sval sop (zeros semaphores)) ≡ false →
      Sources n semaphores signals
      (waits_found n semaphores signals ssem sval sop wsem wval
      (lasts_found semaphores signals ssem sval sop (zeros semaphores))).number ssem sval sop wsem wval source

-- what the passes over the order read beside the rows: how many semaphores, signals and marks there are, whether each
-- signal is by the queue that owns its semaphore, the queue of each operation, the semaphore and the operation of each
-- signal, the code and the operation of each mark
pub record OrderColumns : Type 0 where
  pub semaphores : ℕ
  pub signals : ℕ
  pub marks : ℕ
  pub owned : Bool
  pub queue : List ℕ
  pub signal_semaphore : List ℕ
  pub signal_operation : List ℕ
  pub mark : List ℕ
  pub mark_operation : List ℕ

abbrev pub order_columns : (semaphores signals marks : ℕ) → (owned : Bool) → (queue ssem sop mark mop : List ℕ) →
    OrderColumns
order_columns semaphores signals marks owned queue ssem sop mark mop = record {
  semaphores = semaphores;
  signals = signals;
  marks = marks;
  owned = owned;
  queue = queue;
  signal_semaphore = ssem;
  signal_operation = sop;
  mark = mark;
  mark_operation = mop;
}

module _ (n : ℕ) (cs : OrderColumns) where
  -- the operation that 17 names, and the one that 11 names, by the rows; not below n where there is none
  unfoldable pub disordered_by : (rows : List ℕ) → ℕ
  disordered_by rows =
      first_unturned cs.queue rows cs.signal_semaphore cs.signal_operation cs.owned n cs.semaphores
      cs.signals

  unfoldable pub broken_by : (rows : List ℕ) → ℕ
  broken_by rows = first_broken cs.queue rows n cs.marks cs.mark cs.mark_operation

  -- 10 after fewer than n steps, else 17, else 11, by the rows
  unfoldable pub order_by : (ran : ℕ) → (rows : List ℕ) → Refusal
  order_by ran rows =
      cond (ltb ran n) (refusal 10 (first_zero n cs.queue rows))
      (cond (ltb (disordered_by rows) n) (refusal 17 (disordered_by rows))
      (cond (ltb (broken_by rows) n) (refusal 11 (broken_by rows)) none_given))

-- after a run, with the rows and the front of the list that it left: its judgement; zeros in front of table and list
-- where that is a refusal, else rows and list; and past them nothing is touched. What the run leaves is bounded:
-- operations below n, none twice, with one to sixteen queues ready before each, and a row of zeros for each that did
-- not run. A refusal names an operation.
pub record RunJudged (n : ℕ) (cs : OrderColumns) (r : Told) (table table_now list list_now : List ℕ) : Type 0 where
  pub ran : ℕ
  pub rows : List ℕ
  pub run : List ℕ
  pub run_long : length run ≡ 2 * n
  pub bounded : Bounded n ran (replicate row_places 0) rows list (in_front run list)
  pub tells : Tells (order_by n cs ran rows) 0 r
  pub place_inside : (r.number ≡ 0 → ⊥) → r.place < n
  pub table_holds :
      table_now ≡
      in_front (cond (given (order_by n cs ran rows)) (replicate (row_width * n) 0) (take (row_width * n) rows)) table
  pub list_holds :
      list_now ≡ in_front (cond (given (order_by n cs ran rows)) (replicate (2 * n) 0) run) list

-- a refusal that is given first, and what has more operations than the columns have places for, leave table and list;
-- else there is a run
pub record AnswersBy (first : Refusal) (n : ℕ) (cs : OrderColumns) (r : Told)
    (table table_now list list_now : List ℕ) : Type 0 where
  pub stopped : (given first || ltb most_operations n) ≡ true →
      Tells first 0 r × (table_now ≡ table) × (list_now ≡ list)
  pub judged : (given first || ltb most_operations n) ≡ false → RunJudged n cs r table table_now list list_now
