-- Small traces by the definitions, each a list under one claim. Assumes nothing.
use mathlib.Core.Path.{◌≡◌, refl}
use mathlib.Core.List.{List, [], ◌∷◌, ◌++◌, map}
use mathlib.Core.Option.{or_else}
use Prim.Native.Nat.{ℕ}
use lib.ListN.{take, drop}
use Rattle.base_lists.specs.Lists.{member, all, all_below, tally, first_from, when_true, tabulate_from}
use Rattle.plan_format.specs.Grammar.{value}
use Rattle.plan_format.specs.Plan.{Point, Plan, count, op}
use Rattle.plan_format.specs.Sound.{highest_in}
use Rattle.plan_order.specs.Precedence.{signals_of, signals_from, plan_signals, reaches, nearer, nearest, resolution_of}
use Rattle.plan_order.specs.Precedence.{resolve, same_queue}
use Rattle.plan_order.specs.Runs.{reached, rested, wait_met, earlier_run}
use Rattle.plan_trace.specs.Trace.{step_count, step_at, trace_steps, unmet_wait, of_wait, judged, departs, found}
use Rattle.plan_trace.specs.Trace.{at_end, follow, followed}
use Rattle.plan_trace.specs.State.{queue_count, queue_counts, semaphore_values, state_of, trace_state, traced_of}
use Rattle.plan_trace.specs.Numbers.{number_of, operation_of, wait_of, found_numbers}

abbrev pub pt : (s v : ℕ) → Point
pt s v = record { semaphore = s; value = v }

-- three queues; operation 0 signals S0 to 1; operation 1 waits for that and signals S1 to 1, for which operation 2
-- waits twice, after a wait for S0
unfoldable pub chain : Plan
chain = record {
  axes = 7 ∷ 8 ∷ 9 ∷ [];
  owners = 0 ∷ 1 ∷ [];
  sizes = [];
  operations =
      record { queue = 0; waits = []; signals = pt 0 1 ∷ []; marks = [] }
      ∷ record { queue = 1; waits = pt 0 1 ∷ []; signals = pt 1 1 ∷ []; marks = [] }
      ∷ record { queue = 2; waits = pt 0 1 ∷ pt 1 1 ∷ pt 1 1 ∷ []; signals = []; marks = [] } ∷ [];
}

-- one queue with two operations; and no operation
unfoldable pub pair : Plan
pair = record {
  axes = 7 ∷ [];
  owners = [];
  sizes = [];
  operations =
      record { queue = 0; waits = []; signals = []; marks = [] } ∷ record
      { queue = 0; waits = []; signals = []; marks = [] } ∷ [];
}

unfoldable pub empty : Plan
empty = record { axes = []; owners = []; sizes = []; operations = [] }

-- the number, the numbers found, then three queues and two semaphores
unfoldable told : Plan → (trace : List ℕ) → List ℕ
told p ts =
    let x = traced_of p (trace_steps ts) in
    let state = trace_state p (trace_steps ts) in
    number_of x.followed ∷ take 3 (found_numbers x) ++ take 3 state ++ take 2 (drop 16 state)

chain_traces :
    map (told chain)
    ((3 ∷ 0 ∷ 0 ∷ 0 ∷ 1 ∷ 0 ∷ 2 ∷ 0 ∷ []) ∷ (2 ∷ 0 ∷ 0 ∷ 0 ∷ 1 ∷ 0 ∷ []) ∷ (0 ∷ 0 ∷ []) ∷ (1 ∷ 0 ∷ 3 ∷ 0 ∷ [])
    ∷ (2 ∷ 0 ∷ 3 ∷ 0 ∷ 3 ∷ 0 ∷ []) ∷ (2 ∷ 0 ∷ 0 ∷ 0 ∷ 0 ∷ 0 ∷ []) ∷ (1 ∷ 0 ∷ 1 ∷ 0 ∷ []) ∷ (2 ∷ 0 ∷ 0 ∷ 0 ∷ 2 ∷ 0 ∷ [])
    ∷ [])
    ≡ (0 ∷ 3 ∷ 0 ∷ 0 ∷ 1 ∷ 1 ∷ 1 ∷ 1 ∷ 1 ∷ []) ∷ (1 ∷ 2 ∷ 0 ∷ 0 ∷ 1 ∷ 1 ∷ 0 ∷ 1 ∷ 1 ∷ []) ∷
    (1 ∷ 0 ∷ 0 ∷ 0 ∷ 0 ∷ 0 ∷ 0 ∷ 0 ∷ 0 ∷ [])
    ∷ (2 ∷ 0 ∷ 3 ∷ 0 ∷ 0 ∷ 0 ∷ 0 ∷ 0 ∷ 0 ∷ []) ∷ (2 ∷ 0 ∷ 3 ∷ 0 ∷ 0 ∷ 0 ∷ 0 ∷ 0 ∷ 0 ∷ []) ∷
    (3 ∷ 1 ∷ 0 ∷ 0 ∷ 1 ∷ 0 ∷ 0 ∷ 1 ∷ 0 ∷ [])
    ∷ (5 ∷ 0 ∷ 1 ∷ 0 ∷ 0 ∷ 0 ∷ 0 ∷ 0 ∷ 0 ∷ []) ∷ (5 ∷ 1 ∷ 2 ∷ 1 ∷ 1 ∷ 0 ∷ 0 ∷ 1 ∷ 0 ∷ []) ∷ []
unfolding chain told step_count step_at trace_steps unmet_wait of_wait judged departs found at_end follow followed
    queue_count queue_counts
    semaphore_values state_of trace_state traced_of number_of operation_of wait_of found_numbers member all all_below
    tally first_from
    when_true tabulate_from value count op highest_in same_queue reached rested wait_met earlier_run or_else
    signals_of signals_from plan_signals reaches nearer nearest resolution_of resolve
chain_traces = refl

-- the second of a queue before the first; and nothing of no plan, which is full
pair_traces :
    told pair (1 ∷ 0 ∷ 1 ∷ 0 ∷ []) ∷ told empty (0 ∷ 0 ∷ []) ∷ []
    ≡ (4 ∷ 0 ∷ 1 ∷ 0 ∷ 0 ∷ 0 ∷ 0 ∷ 0 ∷ 0 ∷ []) ∷ (0 ∷ 0 ∷ 0 ∷ 0 ∷ 0 ∷ 0 ∷ 0 ∷ 0 ∷ 0 ∷ []) ∷ []
unfolding pair empty told step_count step_at trace_steps unmet_wait of_wait judged departs found at_end follow followed
    queue_count
    queue_counts semaphore_values state_of trace_state traced_of number_of operation_of wait_of found_numbers member all
    all_below tally
    first_from when_true tabulate_from value count op highest_in same_queue reached rested wait_met earlier_run or_else
    signals_of signals_from plan_signals reaches nearer nearest resolution_of resolve
pair_traces = refl
