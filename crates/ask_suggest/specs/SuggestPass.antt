-- The question for a wait by the columns of a plan and its rows: under verdict 3 by the operation of the last free.
-- Assumes nothing: these are definitions.
use Rattle.std.specs.Prelude.{◌≡◌, List, ℕ, ◌%◌, get_or}
use Rattle.std.proofs.Math.Option.{Option, none, some}
use Rattle.base_lists.specs.Lists.{lowest_below}
use Rattle.plan_format.specs.Sizes.{most_operations}
use Rattle.plan_format.specs.Refusal.{Refusal}
use Rattle.plan_format.specs.Plan.{Plan}
use Rattle.plan_format.specs.declared.Told.{Told}
use Rattle.plan_suggest.specs.declared.Advice.{Advice}
use Rattle.plan_suggest.specs.declared.Advice.TheVariants.{NoneNeeded, Wait}
use Rattle.plan_suggest.specs.Numbers.{number_of}
use Rattle.plan_suggest.specs.Suggest.{advice, suggest_refusal, advised_by}
use Rattle.check_columns.specs.Columns.{SignalColumns}
use Rattle.check_columns.specs.Shown.{ordered}
use Rattle.check_plan.specs.Counting.{outcome_told}
use Rattle.check_plan.specs.declared.Opened.{Opened}
use Rattle.check_plan.specs.Opening.{Lent}
use Rattle.ask_reuse.specs.ReusePass.{QuestionGiven}
use Rattle.ask_suggest.specs.declared.Suggested.{Suggested}

-- what is handed back, with the number of the advice as the answer
abbrev pub told : Suggested → Told
told r = record { number = r.number; place = r.place; answer = number_of r.advice }

abbrev pub suggested : (number place : ℕ) → Advice → Suggested
suggested n i a = record { number = n; place = i; advice = a }

-- R90: a refusal, and nothing advised beside it; or an advice
unfoldable pub suggested_by : Refusal → Advice → Suggested
suggested_by f a = suggested f.number f.place (advised_by f a)

unfoldable pub suggested_of : Plan → (q b : ℕ) → Suggested
suggested_of p q b = suggested_by (suggest_refusal p q b) (advice p q b)

-- what the reuse question is given, and the plan's signals
pub record SuggestGiven (p : Plan) (o : Opened) (queue ssem sval sop mark mop rows : List ℕ) : Type 0 where
  pub question : QuestionGiven p o.counted.counts o.marks queue mark mop rows
  pub signals_shown : SignalColumns p o.signals ssem sval sop

-- R88: the first of n signals whose operation is i or after it
unfoldable pub first_after : (queue rows sop : List ℕ) → (i n : ℕ) → Option ℕ
first_after queue rows sop i n =
    lowest_below n (λ k. ordered queue rows (i % most_operations) (get_or sop k 0 % most_operations))

-- R89, R90, under verdict 3: the wait for that signal, or 19
unfoldable pub at_signal : (ssem sval : List ℕ) → (b : ℕ) → (signal : Option ℕ) → Suggested
at_signal ssem sval b none = suggested 19 b NoneNeeded
at_signal ssem sval b (some k) = suggested 0 0 (Wait (get_or ssem k 0) (get_or sval k 0))

-- R90, what is handed back for an opened plan: the check's refusal, or what the question says of a plan that passes
pub record AdviceGiven (q b : ℕ) (o : Opened) (c : Lent) (rows : List ℕ) (r : Suggested) : Type 0 where
  pub refused : ((outcome_told o.counted.outcome).number ≡ 0 → ⊥) →
      r ≡ suggested (outcome_told o.counted.outcome).number (outcome_told o.counted.outcome).place NoneNeeded
  pub answered : (outcome_told o.counted.outcome).number ≡ 0 → (p : Plan) →
      SuggestGiven p o c.queue c.signal_semaphore c.signal_value c.signal_operation c.mark c.mark_operation rows →
      r ≡ suggested_of p q b
