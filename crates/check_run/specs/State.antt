-- The state of the pass after a run r of a plan. Assumes nothing: these are definitions.
use Rattle.std.specs.Prelude.{◌≡◌, true, false, cond, List, ℕ, suc, ◌+◌, ◌-◌, ◌*◌, ◌≤◌, ◌<◌, min, length, get_or}
use Rattle.std.specs.Prelude.{set, replicate}
use Rattle.base_lists.specs.Lists.{member}
use Rattle.order.specs.Greedy.{greedy}
use Rattle.plan_format.specs.Sizes.{most_queues, most_operations, most_waits, row_width, row_places, no_operation}
use Rattle.plan_format.specs.Plan.{Plan, count, op}
use Rattle.plan_order.specs.Runs.{is_run, next, standard}
use Rattle.check_run.specs.Words.{has, all_queues}
use Rattle.check_run.specs.Queues.{FirstFrom, Chained, can_go, HeadsLooked}
use Rattle.check_run.specs.Merge.{Merged}
use Rattle.check_run.specs.Run.{RowsOf, RunListed, Bounded}

-- the next operation of queue q: the first that has not run; 1,024 where each has
pub data Head (p : Plan) (r : List ℕ) (q : ℕ) : ℕ → Type 0 where
  waiting :
      (j : ℕ) → j < count p → (op p j).queue ≡ q → member j r ≡ false →
      ((k : ℕ) → k < j → (op p k).queue ≡ q → member k r ≡ true) →
      Head p r q j
  finished : ((k : ℕ) → k < count p → (op p k).queue ≡ q → member k r ≡ true) → Head p r q no_operation

-- the last operation of queue q that has run; 1,024 where none has
pub data Last (p : Plan) (r : List ℕ) (q : ℕ) : ℕ → Type 0 where
  latest :
      (j : ℕ) → member j r ≡ true → (op p j).queue ≡ q →
      ((k : ℕ) → member k r ≡ true → (op p k).queue ≡ q → k ≤ j) → Last p r q j
  unused : ((k : ℕ) → member k r ≡ true → (op p k).queue ≡ q → ⊥) → Last p r q no_operation

-- where the run is on each queue, and what has run; 1,024 counts as run
pub record RunPlaces (p : Plan) (r head prev ran : List ℕ) : Type 0 where
  pub a_run : is_run p r ≡ true
  pub heads : (q : ℕ) → q < most_queues → Head p r q (get_or head q 0)
  pub lasts : (q : ℕ) → q < most_queues → Last p r q (get_or prev q 0)
  pub has_run : (j : ℕ) → j < most_operations → get_or ran j 0 ≡ cond (member j r) 1 0
  pub none_run : get_or ran no_operation 0 ≡ 1
  pub head_long : length head ≡ most_queues
  pub prev_long : length prev ≡ most_queues
  pub ran_long : length ran ≡ no_operation + 1

-- source k of the next operation of queue q has not run, and the queue is noted there
pub record Noted (head source ran waiter : List ℕ) (q : ℕ) : Type 0 where
  pub place : ℕ
  pub at : ℕ
  pub few : place < most_waits
  pub source_is : get_or source (most_waits * get_or head q 0 + place) 0 ≡ at
  pub inside : at < no_operation
  pub held : get_or ran at 0 ≡ 0
  pub marked : has (get_or waiter at 0) q ≡ true

-- the ready queues are those that can go; every other queue with a next operation is noted at something that holds it
pub record Watch (source head ran waiter : List ℕ) (ready : ℕ) : Type 0 where
  pub readies : (q : ℕ) → q < most_queues → has ready q ≡ can_go head source ran q
  pub noted : (q : ℕ) → q < most_queues → get_or head q 0 < no_operation → can_go head source ran q ≡ false →
      Noted head source ran waiter q
  pub long : length waiter ≡ no_operation + 1

-- the pass after k steps
pub record Going (p : Plan) (n k : ℕ) (source head prev ran waiter : List ℕ) (ready : ℕ)
    (rows list list_now : List ℕ) : Type 0 where
  pub run : List ℕ
  pub many : length run ≡ k
  pub left : greedy (λ r. next p r) (n - k) run ≡ standard p
  pub places : RunPlaces p run head prev ran
  pub watch : Watch source head ran waiter ready
  pub filled : RowsOf p run rows
  pub rows_long : length rows ≡ row_places
  pub listed : RunListed p n run list list_now

-- what stays the same through the pass: after each operation the next of its queue, and a row with a one at place 16
pub record Tables (queue : List ℕ) (n : ℕ) (next unit : List ℕ) : Type 0 where
  pub nexts : (i : ℕ) → i < n → get_or queue i 0 < most_queues →
      FirstFrom queue (get_or queue i 0) (suc i) n (get_or next i 0)
  pub one : get_or unit row_width 0 ≡ 1
  pub zeros : (k : ℕ) → (k ≡ row_width → ⊥) → get_or unit k 0 ≡ 0

-- before the first step: operations chained, nothing run but 1,024, every queue looked at
pub record Prepared (queue : List ℕ) (n : ℕ) (source head next ran waiter : List ℕ) (ready : ℕ) : Type 0 where
  pub chained : Chained queue 0 n head next
  pub ran_is : ran ≡ set (replicate (no_operation + 1) 0) no_operation 1
  pub looked : HeadsLooked all_queues 0 head source ran (replicate (no_operation + 1) 0) ready waiter

-- operation numbers past 1,024 read as 1,024
abbrev pub slot_of : ℕ → ℕ
slot_of x = min x no_operation

-- operation j, the next of queue q, runs
pub record Stepped (j q : ℕ)
    (source next unit head prev ran rows head_now prev_now ran_now rows_now : List ℕ) : Type 0 where
  pub head_is : head_now ≡ set head q (get_or next j 0)
  pub prev_is : prev_now ≡ set prev q j
  pub ran_is : ran_now ≡ set ran j 1
  pub rows_are :
      Merged rows unit j q (slot_of (get_or prev q 0)) (slot_of (get_or source (most_waits * j) 0))
      (slot_of (get_or source (most_waits * j + 1) 0))
      (slot_of (get_or source (most_waits * j + 2) 0)) rows_now

-- The next operation x of queue q after i steps, whatever the columns show: the first from a start on; what ran of the
-- queue is before the start.
pub record Ahead (queue : List ℕ) (n q i : ℕ) (list : List ℕ) (x : ℕ) : Type 0 where
  pub start : ℕ
  pub first : FirstFrom queue q start n x
  pub before : (k : ℕ) → k < i → k < length list → get_or queue (get_or list k 0) 0 ≡ q → get_or list k 0 < start

-- the pass after i steps, whatever the columns show: every ready queue has a next operation
pub record Bounds (queue : List ℕ) (n i : ℕ) (head : List ℕ) (ready : ℕ)
    (rows rows_now list list_now : List ℕ) : Type 0 where
  pub ahead : (q : ℕ) → q < most_queues → Ahead queue n q i list_now (get_or head q 0)
  pub readies : (q : ℕ) → q < most_queues → has ready q ≡ true → get_or head q 0 < no_operation
  pub head_long : length head ≡ most_queues
  pub bounded : Bounded n i rows rows_now list list_now
