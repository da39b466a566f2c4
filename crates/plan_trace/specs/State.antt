-- How far a plan had come after a part of a trace (R83). Assumes nothing: these are definitions.
use Rattle.std.specs.Prelude.{◌&&◌, List, ◌++◌, ℕ, eqb, take, replicate}
use Rattle.base_lists.specs.Lists.{member, tally, tabulate_from}
use Rattle.plan_format.specs.Sizes.{most_queues, most_semaphores}
use Rattle.plan_format.specs.Plan.{Plan, count, op}
use Rattle.plan_order.specs.Runs.{reached}
use Rattle.plan_trace.specs.declared.Traced.{Traced}
use Rattle.plan_trace.specs.declared.Followed.{Followed}
use Rattle.plan_trace.specs.declared.Followed.TheVariants.{Full}
use Rattle.plan_trace.specs.Trace.{followed}

-- R83: a queue has come as far as it has operations in the run
unfoldable pub queue_count : Plan → (run : List ℕ) → (q : ℕ) → ℕ
queue_count p r q = tally (count p) (λ i. eqb (op p i).queue q && member i r)

unfoldable pub queue_counts : Plan → (run : List ℕ) → List ℕ
queue_counts p r = tabulate_from most_queues 0 (λ q. queue_count p r q)

-- R83: a semaphore has come as far as the highest value that the run signals on it
unfoldable pub semaphore_values : Plan → (run : List ℕ) → List ℕ
semaphore_values p r = tabulate_from most_semaphores 0 (λ s. reached p s r)

-- R83: a place for each queue that a plan can have, then one for each semaphore
unfoldable pub state_of : Plan → (run : List ℕ) → List ℕ
state_of p r = queue_counts p r ++ semaphore_values p r

-- R83: after the steps before the one that departs, or after all
abbrev pub steps_followed : Plan → (steps : List ℕ) → List ℕ
steps_followed p xs = take (followed p xs).step xs

unfoldable pub trace_state : Plan → (steps : List ℕ) → List ℕ
trace_state p xs = state_of p (steps_followed p xs)

-- what was followed, with the counts of the queues
abbrev pub traced : (step : ℕ) → (counts : List ℕ) → Followed → Traced
traced k counts f = record { step = k; state = counts; followed = f }

unfoldable pub traced_of : Plan → (steps : List ℕ) → Traced
traced_of p xs = traced (followed p xs).step (queue_counts p (steps_followed p xs)) (followed p xs).followed

-- what is handed back beside a refusal: the same as for an empty trace of an empty plan
abbrev pub no_counts : List ℕ
no_counts = replicate most_queues 0

unfoldable pub nothing_traced : Traced
nothing_traced = traced 0 no_counts Full
