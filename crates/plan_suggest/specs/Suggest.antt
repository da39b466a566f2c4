-- The wait that would free a buffer for a queue: which waits free it, what is advised, the question's refusals, what it
-- hands back and what it leaves (R88 to R90). Assumes nothing: these are definitions.
use Rattle.std.specs.Prelude.{◌≡◌, Bool, cond, List, ℕ, length, get_or}
use Rattle.std.proofs.Math.Option.{Option, none, some}
use Rattle.base_lists.specs.Lists.{all, lowest_below}
use Rattle.plan_format.specs.Refusal.{Refusal, refusal, none_given, given, or_refusal}
use Rattle.plan_format.specs.Plan.{Point, Plan, count}
use Rattle.plan_format.specs.Stored.{plan_in}
use Rattle.plan_format.specs.declared.Told.{Told}
use Rattle.plan_order.specs.Precedence.{no_signal, plan_signals, before}
use Rattle.plan_order.specs.Holdings.{buffer_marks}
use Rattle.plan_order.specs.Check.{Outcome, outcome, or_then, rows_and_run, check_outcome, Says}
use Rattle.plan_order.specs.Reuse.{verdict, question_refusal}
use Rattle.plan_order.specs.declared.Verdict.{Verdict}
use Rattle.plan_order.specs.declared.Verdict.TheVariants.{Fresh, Reusable, Held, NotOrdered}
use Rattle.plan_change.specs.Longer.{longer}
use Rattle.plan_suggest.specs.declared.Advice.{Advice}
use Rattle.plan_suggest.specs.declared.Advice.TheVariants.{NoneNeeded, Wait, NoneWouldHelp}
use Rattle.plan_suggest.specs.Numbers.{number_of}

-- R88, a wait that frees: in the longer plan every operation with a mark on the buffer is before the new one
unfoldable pub frees : Plan → (q b : ℕ) → (wait : Point) → Bool
frees p q b w = let l = longer p q w in all (λ m. before l m.by (count p)) (buffer_marks l b)

-- R88: the wait for the k-th signal; signals are in plan order, then in list order
unfoldable pub wait_for : Plan → (k : ℕ) → Point
wait_for p k = let x = get_or (plan_signals p) k no_signal in record { semaphore = x.semaphore; value = x.value }

-- R88: the first signal whose wait frees the buffer
unfoldable pub first_freeing : Plan → (q b : ℕ) → Option ℕ
first_freeing p q b = lowest_below (length (plan_signals p)) (λ k. frees p q b (wait_for p k))

-- R89, advice: by the verdict; under verdict 3 the wait for the first signal that frees. Without one nothing is
-- advised, which is what no wait needed says, beside refusal 19
unfoldable pub advice_by : Plan → Verdict → (signal : Option ℕ) → Advice
advice_by p Fresh k = NoneNeeded
advice_by p Reusable k = NoneNeeded
advice_by p Held k = NoneWouldHelp
advice_by p NotOrdered none = NoneNeeded
advice_by p NotOrdered (some k) = Wait (wait_for p k).semaphore (wait_for p k).value

unfoldable pub advice : Plan → (q b : ℕ) → Advice
advice p q b = advice_by p (verdict p q b) (first_freeing p q b)

-- R90, refusal 19: verdict 3, and no signal frees the buffer, at the buffer
unfoldable pub nineteen : Verdict → (signal : Option ℕ) → (b : ℕ) → Refusal
nineteen Fresh k b = none_given
nineteen Reusable k b = none_given
nineteen Held k b = none_given
nineteen NotOrdered none b = refusal 19 b
nineteen NotOrdered (some k) b = none_given

-- R90: 12 and 13 as for the reuse question, then 19
unfoldable pub suggest_refusal : Plan → (q b : ℕ) → Refusal
suggest_refusal p q b = or_refusal (question_refusal p q b) (nineteen (verdict p q b) (first_freeing p q b) b)

-- R90: the check first; R56: the question leaves rows and run
unfoldable pub suggest_outcome : (bytes : List ℕ) → (q b table list : ℕ) → Outcome
suggest_outcome bs q b t l =
    or_then (check_outcome bs t l) (outcome (suggest_refusal (plan_in bs) q b) rows_and_run)

-- the outcome in lent table and list
abbrev pub suggest_outcome_in : (bytes : List ℕ) → (q b : ℕ) → (table list : List ℕ) → Outcome
suggest_outcome_in bs q b t l = suggest_outcome bs q b (length t) (length l)

-- R90: beside a refusal nothing is advised
unfoldable pub advised_by : Refusal → Advice → Advice
advised_by f a = cond (given f) NoneNeeded a

-- what a call hands back and leaves
pub record SuggestSays (bytes : List ℕ) (q b : ℕ) (r : Told) (a : Advice)
    (table table_now list list_now : List ℕ) : Type 0 where
  pub says :
      Says (suggest_outcome_in bytes q b table list) (number_of (advice (plan_in bytes) q b)) (plan_in bytes) r
      table table_now list list_now
  pub advice_is : a ≡ advised_by (suggest_outcome_in bytes q b table list).refusal (advice (plan_in bytes) q b)
