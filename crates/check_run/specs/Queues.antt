-- R25, the queues during a run: the next operation of each, what holds it, and which queues are ready. 1,024 means no
-- operation. Assumes nothing: these are definitions.
use Rattle.std.specs.Prelude.{◌≡◌, Bool, true, ◌&&◌, ◌||◌, cond, List, ℕ, suc, ◌+◌, ◌*◌, ◌≤◌, ◌<◌, ltb, eqb, length}
use Rattle.std.specs.Prelude.{get_or}
use Rattle.plan_format.specs.Sizes.{most_queues, most_operations, most_waits, no_operation}
use Rattle.check_run.specs.Words.{has}

-- the first operation from a start on that is on queue q
pub data FirstFrom (queue : List ℕ) (q start n : ℕ) : ℕ → Type 0 where
  found :
      (x : ℕ) → start ≤ x → x < n → get_or queue x 0 ≡ q → ((k : ℕ) → start ≤ k → k < x → get_or queue k 0 ≡ q → ⊥) →
      FirstFrom queue q start n x
  absent : ((k : ℕ) → start ≤ k → k < n → get_or queue k 0 ≡ q → ⊥) → FirstFrom queue q start n no_operation

-- the operations from a start on, chained by queue: the first of each queue, and after each operation the next of its
-- queue
pub record Chained (queue : List ℕ) (start n : ℕ) (head next : List ℕ) : Type 0 where
  pub heads : (q : ℕ) → q < most_queues → FirstFrom queue q start n (get_or head q 0)
  pub nexts : (i : ℕ) → start ≤ i → i < n → get_or queue i 0 < most_queues →
      FirstFrom queue (get_or queue i 0) (suc i) n (get_or next i 0)
  pub head_long : length head ≡ most_queues
  pub next_long : length next ≡ most_operations

-- a source that has not run, else another answer
unfoldable pub held_by : (ran : List ℕ) → (source otherwise : ℕ) → ℕ
held_by ran a b = cond (eqb (get_or ran a 0) 0) a b

-- the first source of operation j that has not run; 1,024 where each has
unfoldable pub blocker_of : (source ran : List ℕ) → (j : ℕ) → ℕ
blocker_of source ran j =
    held_by ran (get_or source (most_waits * j) 0) (held_by ran (get_or source (most_waits * j + 1) 0)
    (held_by ran (get_or source (most_waits * j + 2) 0) no_operation))

-- queue q has a next operation, and nothing holds it
unfoldable pub can_go : (head source ran : List ℕ) → (q : ℕ) → Bool
can_go head source ran q = ltb (get_or head q 0) no_operation && eqb (blocker_of source ran (get_or head q 0))
    no_operation

-- the queues of a mask looked at: those that can go are ready afterwards, each other is noted at what holds it
pub record HeadsLooked (mask ready : ℕ) (head source ran waiter : List ℕ) (ready_now : ℕ)
    (waiter_now : List ℕ) : Type 0 where
  pub readies : (q : ℕ) → q < most_queues → has ready_now q ≡ (has ready q || (has mask q && can_go head source ran q))
  pub kept : (b q : ℕ) → q < most_queues → has (get_or waiter b 0) q ≡ true → has (get_or waiter_now b 0) q ≡ true
  pub noted :
      (q b : ℕ) → q < most_queues → has mask q ≡ true → get_or head q 0 < no_operation →
      blocker_of source ran (get_or head q 0) ≡ b → b < no_operation →
      has (get_or waiter_now b 0) q ≡ true
  pub long : length waiter_now ≡ length waiter
