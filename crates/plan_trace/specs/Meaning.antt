-- What the definitions of a trace say, by quantifiers. The laws *-means of proofs/ show each the same as its
-- definition. Assumes nothing: these are definitions.
use Rattle.std.specs.Prelude.{◌≡◌, true, ◌⊎◌, ◌↔◌, List, ℕ, suc, ◌+◌, ◌*◌, ◌≤◌, ◌<◌, length, get_or, take}
use Rattle.base_lists.specs.Places.{Among, Counts}
use Rattle.plan_format.specs.Sizes.{most_queues, most_semaphores, state_size, step_bytes}
use Rattle.plan_format.specs.RefusalNumbers.{
  OneOf,
  NoneOr,
  order_numbers,
  trace_numbers,
  untouched_numbers,
  trace_gives,
}
use Rattle.plan_format.specs.Plan.{Plan, count, op, queues}
use Rattle.plan_format.specs.Meaning.{wait_at}
use Rattle.plan_order.specs.Check.{Outcome, untouched, zeros, rows_and_run, check_outcome}
use Rattle.plan_order.specs.Meaning.{HighestSignalled, Met, RunMeans, FullMeans, Gives, CheckMeans}
use Rattle.plan_trace.specs.declared.Followed.{Followed}
use Rattle.plan_trace.specs.declared.Followed.TheVariants.{
  Full,
  Unfinished,
  Unknown,
  Repeated,
  NotFirst,
  WaitNotMet,
}
use Rattle.plan_trace.specs.declared.Traced.{Traced}
use Rattle.plan_trace.specs.Trace.{step_count, step_place, departs, Found, found, followed}

-- ---- the stored trace
-- a number of two bytes, the low byte first
abbrev pub two_bytes : (bytes : List ℕ) → (at : ℕ) → ℕ
two_bytes bs at = get_or bs at 0 + 256 * get_or bs (suc at) 0

-- R80: the count is in the first two bytes, and each step in the two after those before it
pub record StepsMeans (trace steps : List ℕ) : Type 0 where
  pub counted : step_count trace ≡ two_bytes trace 0
  pub many : length steps ≡ step_count trace
  pub each : (k : ℕ) → k < length steps → get_or steps k 0 ≡ two_bytes trace (step_place k)

-- R80: refused with 22, and not
abbrev pub IllFormed : (trace : List ℕ) → Type 0
IllFormed ts = (length ts < step_bytes) ⊎ (length ts ≡ step_place (step_count ts) → ⊥)

abbrev pub WellFormed : (trace : List ℕ) → Type 0
WellFormed ts = (step_bytes ≤ length ts) × (length ts ≡ step_place (step_count ts))

-- ---- why a step departs
abbrev pub HasRun : (run : List ℕ) → (i : ℕ) → Type 0
HasRun r i = Among r (length r) i

-- all earlier operations of its queue have run
abbrev pub FirstInQueue : Plan → (run : List ℕ) → (j : ℕ) → Type 0
FirstInQueue p r j = (i : ℕ) → i < j → (op p i).queue ≡ (op p j).queue → HasRun r i

-- R81: the rule that the case names is broken, and none before it; of the waits, every one before it in the list is met
unfoldable pub Breaks : Plan → (run : List ℕ) → (j : ℕ) → Followed → Type 0
Breaks p r j Full = ⊥
Breaks p r j Unfinished = ⊥
Breaks p r j (Unknown i) = (i ≡ j) × (count p ≤ j)
Breaks p r j (Repeated i) = (i ≡ j) × (j < count p) × HasRun r j
Breaks p r j (NotFirst i) = (i ≡ j) × (j < count p) × (HasRun r j → ⊥) × (FirstInQueue p r j → ⊥)
Breaks p r j (WaitNotMet u) =
    (u.operation ≡ j) × (j < count p) × (HasRun r j → ⊥) × FirstInQueue p r j ×
    (u.wait < length (op p j).waits) × (Met p (HasRun r) (wait_at p j u.wait) → ⊥) ×
    ((k : ℕ) → k < u.wait → Met p (HasRun r) (wait_at p j k))

-- ---- what was followed
-- R82: the first k steps are a run, the first k + 1 are not, for the reason given
pub record Departs (p : Plan) (steps : List ℕ) (k : ℕ) (f : Followed) : Type 0 where
  pub inside : k < length steps
  pub a_run : RunMeans p (take k steps)
  pub no_run : RunMeans p (take (suc k) steps) → ⊥
  pub reason : Breaks p (take k steps) (get_or steps k 0) f

-- R82: full, unfinished, or departs at a step, each exactly if it is so; no more than one step more than the plan has
-- operations is looked at, however many there are
pub record FollowedMeans (p : Plan) (steps : List ℕ) (x : Found) : Type 0 where
  pub full : (x.followed ≡ Full) ↔ FullMeans p steps
  pub unfinished : (x.followed ≡ Unfinished) ↔ (RunMeans p steps × (FullMeans p steps → ⊥))
  pub departed : (k : ℕ) (f : Followed) → departs f ≡ true → (x ≡ found k f) ↔ Departs p steps k f
  pub to_the_end : (x.followed ≡ Full) ⊎ (x.followed ≡ Unfinished) → x.step ≡ length steps
  pub few : x.step ≤ count p
  pub decided : (others : List ℕ) → take (suc (count p)) steps ≡ take (suc (count p)) others → x ≡ followed p others

-- ---- how far the plan had come
-- an operation of a queue that has run
abbrev pub RunOn : Plan → (run : List ℕ) → (q i : ℕ) → Type 0
RunOn p r q i = (i < count p) × ((op p i).queue ≡ q) × HasRun r i

-- R83: after some steps, how many operations of each queue have run, and the highest value signalled on each semaphore
pub record StateMeans (p : Plan) (run state : List ℕ) : Type 0 where
  pub long : length state ≡ state_size
  pub counts : (q : ℕ) → q < most_queues → Counts (RunOn p run q) (get_or state q 0)
  pub highest : (s : ℕ) → s < most_semaphores → HighestSignalled p s run (get_or state (most_queues + s) 0)

-- R83: places of queues and semaphores that the plan does not have are 0
pub record UnusedMeans (p : Plan) (state : List ℕ) : Type 0 where
  pub queue : (q : ℕ) → queues p ≤ q → q < most_queues → get_or state q 0 ≡ 0
  pub semaphore : (s : ℕ) → length p.owners ≤ s → s < most_semaphores → get_or state (most_queues + s) 0 ≡ 0

-- what is handed back: what was followed, and the counts of the queues
pub record TracedMeans (p : Plan) (steps : List ℕ) (x : Traced) : Type 0 where
  pub followed : FollowedMeans p steps (found x.step x.followed)
  pub counts : (q : ℕ) → q < most_queues → Counts (RunOn p (take x.step steps) q) (get_or x.state q 0)

-- ---- the question
-- R84: the check's refusals, then 9 with the size of the state, then 22 at 0; and what is left goes by the check,
-- whatever the number
pub record OutcomeMeans (bytes trace : List ℕ) (table list state : ℕ) (o : Outcome) : Type 0 where
  pub check : CheckMeans bytes table list (check_outcome bytes table list)
  pub plan_first : ((check_outcome bytes table list).refusal.number ≡ 0 → ⊥) → o ≡ check_outcome bytes table list
  pub short : (check_outcome bytes table list).refusal.number ≡ 0 → state < state_size →
      Gives o 9 state_size rows_and_run
  pub disagrees : (check_outcome bytes table list).refusal.number ≡ 0 → state_size ≤ state → IllFormed trace →
      Gives o 22 0 rows_and_run
  pub answered : (check_outcome bytes table list).refusal.number ≡ 0 → state_size ≤ state → WellFormed trace →
      Gives o 0 0 rows_and_run
  -- exactly if; a 9 that leaves rows and run is the question's
  pub nine : (i : ℕ) → Gives o 9 i rows_and_run ↔
      (((check_outcome bytes table list).refusal.number ≡ 0) × (state < state_size) × (i ≡ state_size))
  pub twenty_two : (o.refusal.number ≡ 22) ↔
      (((check_outcome bytes table list).refusal.number ≡ 0) × (state_size ≤ state) × IllFormed trace)
  pub zero : (o.refusal.number ≡ 0) ↔
      (((check_outcome bytes table list).refusal.number ≡ 0) × (state_size ≤ state) × WellFormed trace)
  pub only : NoneOr trace_gives o.refusal.number
  pub own : o.leaves ≡ rows_and_run → NoneOr trace_numbers o.refusal.number
  pub untouched : (o.leaves ≡ untouched) ↔ OneOf untouched_numbers (check_outcome bytes table list).refusal.number
  pub zeros : (o.leaves ≡ zeros) ↔ OneOf order_numbers (check_outcome bytes table list).refusal.number
  pub rows_and_run : (o.leaves ≡ rows_and_run) ↔ ((check_outcome bytes table list).refusal.number ≡ 0)
