-- Runs of a plan, raising in order, and the standard run. Assumes nothing: these are definitions.
use Rattle.std.specs.Prelude.{Bool, true, false, ◌&&◌, ◌||◌, not, List, [], ◌∷◌, ◌++◌, ℕ, max, ltb, eqb, length}
use Rattle.std.proofs.Math.Option.{Option}
use Rattle.base_lists.specs.Lists.{member, all, all_below, tally, first_below, lowest_below, is_some}
use Rattle.order.specs.Runs.{can, runs, step_of}
use Rattle.order.specs.Greedy.{greedy}
use Rattle.plan_format.specs.Plan.{Point, Plan, count, op, queues}
use Rattle.plan_format.specs.Sound.{highest_in}
use Rattle.plan_order.specs.Precedence.{Resolution, on, never, resolve, same_queue}

-- R83: how far a semaphore has come in a run, the highest value signalled
unfoldable pub reached : Plan → (s : ℕ) → (run : List ℕ) → ℕ
reached p s [] = 0
reached p s (i ∷ is) = max (highest_in s (op p i).signals) (reached p s is)

-- R22: what a wait rests on has run; one that no signal reaches is never met
unfoldable pub rested : (run : List ℕ) → Resolution → Bool
rested r (on x) = member x.operation r
rested r never = false

-- R22, wait met
unfoldable pub wait_met : Plan → (run : List ℕ) → Point → Bool
wait_met p r w = rested r (resolve p w)

-- R21: all earlier operations of the queue are in the run
unfoldable pub earlier_run : Plan → (run : List ℕ) → (j : ℕ) → Bool
earlier_run p r j = all_below j (λ i. not (same_queue p i j) || member i r)

unfoldable pub enabled : Plan → (run : List ℕ) → (j : ℕ) → Bool
enabled p r j = earlier_run p r j && all (λ w. wait_met p r w) (op p j).waits

-- R25, ready: an operation of the plan that has not run and is enabled
unfoldable pub ready : Plan → (run : List ℕ) → (j : ℕ) → Bool
ready p r j = can (count p) (λ r j. enabled p r j) r j

-- R21, run: each operation is ready at its turn. R23: what is after a wait that is not met does not run, and a wait for
-- a later signal of its own queue is never met
unfoldable pub is_run : Plan → List ℕ → Bool
is_run p r = runs (count p) (λ r j. enabled p r j) [] r

-- R24, full run: none is missing
unfoldable pub is_full : Plan → List ℕ → Bool
is_full p r = is_run p r && eqb (length r) (count p)

-- i runs at an earlier step than j
unfoldable pub ahead : (run : List ℕ) → (i j : ℕ) → Bool
ahead r i j = ltb (step_of 0 r i) (step_of 0 r j)

-- R26, raising in order: the signals of a run, step by step and then in list order, strictly rise on each semaphore
unfoldable pub points_rise : (earlier rest : List Point) → Bool
points_rise got [] = true
points_rise got (x ∷ xs) = ltb (highest_in x.semaphore got) x.value && points_rise (x ∷ got) xs

unfoldable pub run_points : Plan → (run : List ℕ) → List Point
run_points p [] = []
run_points p (j ∷ js) = (op p j).signals ++ run_points p js

unfoldable pub raises_in_order : Plan → (run : List ℕ) → Bool
raises_in_order p r = points_rise [] (run_points p r)

-- R25, ready queue: its ready operation, if it has one
unfoldable pub ready_on : Plan → (run : List ℕ) → (q : ℕ) → Option ℕ
ready_on p r q = lowest_below (count p) (λ j. eqb (op p j).queue q && ready p r j)

-- R27, standard run: always the ready operation of the lowest ready queue
unfoldable pub next : Plan → (run : List ℕ) → Option ℕ
next p r = first_below (queues p) (λ q. ready_on p r q)

unfoldable pub standard : Plan → List ℕ
standard p = greedy (λ r. next p r) (count p) []

-- R28, ready number: how many queues are ready after a run
unfoldable pub number_ready : Plan → (run : List ℕ) → ℕ
number_ready p r = tally (queues p) (λ q. is_some (ready_on p r q))

unfoldable pub ready_numbers : Plan → (done rest : List ℕ) → List ℕ
ready_numbers p r [] = []
ready_numbers p r (j ∷ js) = number_ready p r ∷ ready_numbers p (r ++ (j ∷ [])) js

-- R29, run list: the standard run, then the ready numbers of its steps
unfoldable pub run_list : Plan → List ℕ
run_list p = let r = standard p in r ++ ready_numbers p [] r

-- R47, refusal 10: the lowest operation that the standard run, and so every run, is without
unfoldable pub missing : Plan → Option ℕ
missing p = let r = standard p in lowest_below (count p) (λ j. not (member j r))
