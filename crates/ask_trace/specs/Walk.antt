-- A trace walked over the columns of a plan and its rows; `counts` is how many operations of each queue have run.
-- Positions are cut to their bits, which changes none in range. Assumes nothing: these are definitions.
use Rattle.std.specs.Prelude.{Bool, ◌&&◌, not, cond, List, [], ◌∷◌, ℕ, suc, ◌+◌, ◌*◌, ◌%◌, ltb, leb, get_or, set}
use Rattle.std.proofs.Math.Option.{Option}
use Rattle.base_lists.specs.Lists.{lowest_below}
use Rattle.plan_format.specs.Sizes.{most_queues, most_operations, most_waits, row_width, no_operation}
use Rattle.plan_trace.specs.declared.Followed.{Followed}
use Rattle.plan_trace.specs.declared.Followed.TheVariants.{Unknown, Repeated, NotFirst}
use Rattle.plan_trace.specs.declared.Traced.{Traced}
use Rattle.plan_trace.specs.Trace.{of_wait, departs, at_end}
use Rattle.plan_trace.specs.State.{traced}

-- the queue of an operation
unfoldable pub place_of : (queue : List ℕ) → (j : ℕ) → ℕ
place_of queue j = get_or queue (j % most_operations) 0 % most_queues

-- the entry of an operation's row in the column of its own queue
unfoldable pub own_entry : (queue rows : List ℕ) → (j : ℕ) → ℕ
own_entry queue rows j = get_or rows (row_width * (j % most_operations) + place_of queue j) 0

unfoldable pub count_of : (queue counts : List ℕ) → (j : ℕ) → ℕ
count_of queue counts j = get_or counts (place_of queue j) 0

-- an operation has run: its own entry is at most its queue's count
unfoldable pub ran_at : (queue rows counts : List ℕ) → (i : ℕ) → Bool
ran_at queue rows counts i = leb (own_entry queue rows i) (count_of queue counts i)

-- the wait at a place rests on an operation that has not run
unfoldable pub wait_unmet_at : (queue source rows counts : List ℕ) → (at : ℕ) → Bool
wait_unmet_at queue source rows counts at = ltb (get_or source at 0) no_operation && not
    (ran_at queue rows counts (get_or source at 0))

unfoldable pub wait_unmet : (queue source rows counts : List ℕ) → (j k : ℕ) → Bool
wait_unmet queue source rows counts j k =
    wait_unmet_at queue source rows counts (most_waits * (j % most_operations) + k)

-- R81: the first of an operation's waits that is not met
abbrev pub first_unmet : (queue source rows counts : List ℕ) → (j : ℕ) → Option ℕ
first_unmet queue source rows counts j = lowest_below most_waits (λ k. wait_unmet queue source rows counts j k)

-- R81: the rule that a step breaks
unfoldable pub judged_shown : (n : ℕ) → (queue source rows counts : List ℕ) → (j : ℕ) → Followed
judged_shown n queue source rows counts j =
    cond (leb n j) (Unknown j)
    (cond (ran_at queue rows counts j) (Repeated j)
    (cond (ltb (suc (count_of queue counts j)) (own_entry queue rows j)) (NotFirst j)
    (of_wait j (first_unmet queue source rows counts j))))

-- the queue's count after the next of its operations is that operation's own entry
unfoldable pub counts_after : (queue rows counts : List ℕ) → (j : ℕ) → List ℕ
counts_after queue rows counts j = set counts (place_of queue j) (own_entry queue rows j)

-- R82: the walk over the steps that are left, after k of them
unfoldable pub walk_from : (n : ℕ) → (queue source rows counts : List ℕ) → (k : ℕ) → (rest : List ℕ) → Traced
walk_from n queue source rows counts k [] = traced k counts (at_end n k)
walk_from n queue source rows counts k (j ∷ js) =
    let f = judged_shown n queue source rows counts j in
    cond (departs f) (traced k counts f) (walk_from n queue source rows (counts_after queue rows counts j) (suc k) js)
