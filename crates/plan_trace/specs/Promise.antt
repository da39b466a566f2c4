-- What a caller of the question on a recorded trace gets, and the first bytes of a trace, which decide it. Assumes
-- nothing: these are definitions.
use Rattle.std.specs.Prelude.{◌≡◌, true, ◌↔◌, List, ℕ, ◌+◌, length, take}
use Rattle.plan_format.specs.Sizes.{state_size, trace_bytes}
use Rattle.plan_format.specs.Stored.{all_bytes, plan_in}
use Rattle.plan_format.specs.declared.Told.{Told}
use Rattle.plan_order.specs.Check.{rows_and_run}
use Rattle.plan_order.specs.Meaning.{LeftMeans, PastKept}
use Rattle.plan_order.specs.AsBefore.{JudgesAsBefore}
use Rattle.plan_order.specs.Promise.{Safe, unrefused}
use Rattle.plan_trace.specs.declared.Traced.{Traced}
use Rattle.plan_trace.specs.Trace.{trace_steps, trace_refusal}
use Rattle.plan_trace.specs.State.{nothing_traced}
use Rattle.plan_trace.specs.Question.{trace_outcome_in, TraceSays}
use Rattle.plan_trace.specs.Numbers.{number_of}
use Rattle.plan_trace.specs.Meaning.{StepsMeans, TracedMeans, StateMeans, UnusedMeans, OutcomeMeans}

-- what it hands back and leaves, by its definition, by quantifiers and by index
pub record TraceRight (bytes trace : List ℕ) (r : Told) (x : Traced)
    (table table_now list list_now state state_now : List ℕ) : Type 0 where
  pub says : TraceSays bytes trace r x table table_now list list_now state state_now
  -- the number and the place are those of the outcome of which `outcome` speaks
  pub number : r.number ≡ (trace_outcome_in bytes trace table list state).refusal.number
  pub place : r.place ≡ (trace_outcome_in bytes trace table list state).refusal.place
  pub outcome : OutcomeMeans bytes trace (length table) (length list) (length state)
      (trace_outcome_in bytes trace table list state)
  -- rows and run are left, by an answer or a refusal of the question, exactly where the plan passes
  pub passed :
      ((trace_outcome_in bytes trace table list state).leaves ≡ rows_and_run) ↔
      ((unrefused bytes (length table) (length list) ≡ true) × Safe (plan_in bytes))
  pub left : LeftMeans (plan_in bytes) (trace_outcome_in bytes trace table list state).leaves table table_now list
      list_now
  -- an answer: what was followed, its number, and the state after the steps before the one that departs, or after all
  pub steps : StepsMeans trace (trace_steps trace)
  pub answered : r.number ≡ 0 → TracedMeans (plan_in bytes) (trace_steps trace) x
  pub answer : r.answer ≡ number_of x.followed
  pub state_after : r.number ≡ 0 → StateMeans (plan_in bytes) (take x.step (trace_steps trace))
      (take state_size state_now)
  pub unused : r.number ≡ 0 → UnusedMeans (plan_in bytes) state_now
  -- a refusal
  pub nothing : (r.number ≡ 0 → ⊥) → x ≡ nothing_traced
  pub untouched : (r.number ≡ 0 → ⊥) → state_now ≡ state
  -- past the state nothing is touched
  pub past : PastKept state_size state state_now
  pub as_before : JudgesAsBefore bytes

-- two traces that no question tells apart
pub record TracedAlike (ts us : List ℕ) : Type 0 where
  pub refusal : trace_refusal ts ≡ trace_refusal us
  pub steps : trace_steps ts ≡ trace_steps us

-- one byte more than the longest trace has decides all that is answered
abbrev pub deciding_bytes : ℕ
deciding_bytes = trace_bytes + 1

abbrev pub SameTrace : (ts us : List ℕ) → Type 0
SameTrace ts us = take deciding_bytes ts ≡ take deciding_bytes us

unfoldable pub FirstTraceBytes : Type 0
FirstTraceBytes = (ts us : List ℕ) → all_bytes ts ≡ true → SameTrace ts us → TracedAlike ts us
