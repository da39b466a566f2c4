-- What the definitions of the question for a wait say, by quantifiers. The laws *-means of proofs/ show each the same
-- as its definition. Assumes nothing: these are definitions.
use Rattle.std.specs.Prelude.{◌≡◌, ◌⊎◌, ◌↔◌, List, ℕ, ◌*◌, ◌≤◌, ◌<◌, length}
use Rattle.plan_format.specs.Sizes.{row_width}
use Rattle.plan_format.specs.Refusal.{none_given}
use Rattle.plan_format.specs.RefusalNumbers.{NoneOr, suggest_numbers, suggest_gives}
use Rattle.plan_format.specs.Plan.{Point, Plan, count, queues}
use Rattle.plan_format.specs.Sound.{Sound}
use Rattle.plan_format.specs.Stored.{scanned, plan_in}
use Rattle.plan_format.specs.Meaning.{signal_at, IsSignal, Earlier}
use Rattle.plan_order.specs.Precedence.{Before}
use Rattle.plan_order.specs.Check.{Outcome, outcome, rows_and_run, check_outcome, plan_outcome}
use Rattle.plan_order.specs.Reuse.{verdict}
use Rattle.plan_order.specs.Meaning.{FullMeans, Marked, When, Gives, CheckMeans, LeavesBy}
use Rattle.plan_order.specs.Promise.{Safe}
use Rattle.plan_order.specs.declared.Verdict.TheVariants.{Fresh, Reusable, Held, NotOrdered}
use Rattle.plan_change.specs.Longer.{longer}
use Rattle.plan_suggest.specs.declared.Advice.{Advice}
use Rattle.plan_suggest.specs.declared.Advice.TheVariants.{NoneNeeded, Wait, NoneWouldHelp}

-- R88, a wait that frees: in the longer plan every operation with a mark on the buffer is before the new one
abbrev pub WaitFrees : Plan → (q b : ℕ) → (wait : Point) → Type 0
WaitFrees p q b w = (i : ℕ) → Marked (longer p q w) b i → Before (longer p q w) i (count p)

-- R88: some signal of the plan is for this semaphore and value and frees, and no earlier one frees: in plan order, then
-- in list order
pub record FirstFreeing (p : Plan) (q b s v : ℕ) : Type 0 where
  pub operation : ℕ
  pub place : ℕ
  pub signal : IsSignal p operation place
  pub point : signal_at p operation place ≡ record { semaphore = s; value = v }
  pub frees : WaitFrees p q b (signal_at p operation place)
  pub first : (i k : ℕ) → IsSignal p i k → Earlier i k operation place → WaitFrees p q b (signal_at p i k) → ⊥

abbrev pub NoneFrees : Plan → (q b : ℕ) → Type 0
NoneFrees p q b = (i k : ℕ) → IsSignal p i k → WaitFrees p q b (signal_at p i k) → ⊥

-- R89, advice, where one is given: each case exactly if
pub record AdviceMeans (p : Plan) (q b : ℕ) (a : Advice) : Type 0 where
  pub none_needed : (a ≡ NoneNeeded) ↔ (When p q b Fresh ⊎ When p q b Reusable)
  pub wait : (s v : ℕ) → (a ≡ Wait s v) ↔ (When p q b NotOrdered × FirstFreeing p q b s v)
  pub none_would_help : (a ≡ NoneWouldHelp) ↔ When p q b Held

-- R90: the check, by what its numbers mean, then 12, then 13, then 19; R56: an answer and these leave rows and run
pub record OutcomeMeans (bytes : List ℕ) (q b table list : ℕ) (o : Outcome) : Type 0 where
  pub check : CheckMeans bytes table list (check_outcome bytes table list)
  pub plan_first : ((check_outcome bytes table list).refusal.number ≡ 0 → ⊥) → o ≡ check_outcome bytes table list
  pub no_queue : (check_outcome bytes table list).refusal.number ≡ 0 → queues (plan_in bytes) ≤ q →
      Gives o 12 q rows_and_run
  pub no_buffer : (check_outcome bytes table list).refusal.number ≡ 0 → q < queues (plan_in bytes) →
      length (plan_in bytes).sizes ≤ b → Gives o 13 b rows_and_run
  pub no_signal : (check_outcome bytes table list).refusal.number ≡ 0 → q < queues (plan_in bytes) →
      b < length (plan_in bytes).sizes → When (plan_in bytes) q b NotOrdered → NoneFrees (plan_in bytes) q b →
      Gives o 19 b rows_and_run
  pub answered : (check_outcome bytes table list).refusal.number ≡ 0 → q < queues (plan_in bytes) →
      b < length (plan_in bytes).sizes → (When (plan_in bytes) q b NotOrdered → NoneFrees (plan_in bytes) q b → ⊥) →
      Gives o 0 0 rows_and_run
  -- exactly if
  pub twelve : (o.refusal.number ≡ 12) ↔
      (((check_outcome bytes table list).refusal.number ≡ 0) × (queues (plan_in bytes) ≤ q))
  pub thirteen : (o.refusal.number ≡ 13) ↔
      (((check_outcome bytes table list).refusal.number ≡ 0) × (q < queues (plan_in bytes)) ×
      (length (plan_in bytes).sizes ≤ b))
  pub nineteen : (o.refusal.number ≡ 19) ↔
      (((check_outcome bytes table list).refusal.number ≡ 0) × (q < queues (plan_in bytes)) ×
      (b < length (plan_in bytes).sizes) × When (plan_in bytes) q b NotOrdered × NoneFrees (plan_in bytes) q b)
  pub only : NoneOr suggest_gives o.refusal.number
  pub leaves : LeavesBy suggest_numbers o

-- R89: a longer plan that has what is wanted of it. It is sound, some run of it is full, it passes wherever table and
-- list are long enough, as a plan and as bytes, every full run keeps every buffer, and the queue may take the buffer
-- anew: verdict 1
pub record Freed (l : Plan) (q b : ℕ) : Type 0 where
  pub sound : Sound l
  pub runs : (r : List ℕ) × FullMeans l r
  pub passes : (table list : ℕ) → row_width * count l ≤ table → 2 * count l ≤ list →
      plan_outcome l table list ≡ outcome none_given rows_and_run
  -- R53 to R55: so do any bytes that are read as this plan
  pub stored_passes : (bytes : List ℕ) → (scanned bytes).fault.number ≡ 0 → plan_in bytes ≡ l →
      (table list : ℕ) → row_width * count l ≤ table → 2 * count l ≤ list →
      check_outcome bytes table list ≡ outcome none_given rows_and_run
  pub safe : Safe l
  pub verdict : verdict l q b ≡ Reusable
  pub reusable : When l q b Reusable
