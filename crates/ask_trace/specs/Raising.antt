-- The state by the columns of a plan: the counts of the queues, then one pass over the signals (R83). Assumes nothing:
-- these are definitions.
use Rattle.std.specs.Prelude.{cond, List, ℕ, zero, suc, ◌+◌, ◌%◌, max, get_or, set}
use Rattle.base_lists.specs.Lists.{tabulate_from}
use Rattle.plan_format.specs.Sizes.{most_queues, most_semaphores, state_size}
use Rattle.ask_trace.specs.Walk.{ran_at}

-- before any signal: the counts, then zeros
unfoldable pub begun : (counts : List ℕ) → List ℕ
begun counts = tabulate_from state_size 0 (λ i. get_or counts i 0)

unfoldable pub higher : (state : List ℕ) → (at v : ℕ) → List ℕ
higher st at v = set st at (max (get_or st at 0) v)

-- by the k-th signal, if its operation has run
unfoldable pub raised_by : (queue rows counts ssem sval sop : List ℕ) → (k : ℕ) → (state : List ℕ) → List ℕ
raised_by queue rows counts ssem sval sop k st =
    cond (ran_at queue rows counts (get_or sop k 0))
    (higher st (most_queues + get_or ssem k 0 % most_semaphores) (get_or sval k 0)) st

-- by so many signals from k on
unfoldable pub raised_from : (queue rows counts ssem sval sop : List ℕ) → (left k : ℕ) → (state : List ℕ) → List ℕ
raised_from queue rows counts ssem sval sop zero k st = st
raised_from queue rows counts ssem sval sop (suc left) k st =
    raised_from queue rows counts ssem sval sop left (suc k) (raised_by queue rows counts ssem sval sop k st)
