-- The question on a recorded trace: its refusals, what it hands back and what it leaves (R84). Assumes nothing: these
-- are definitions.
use Rattle.std.specs.Prelude.{◌≡◌, cond, List, ℕ, length}
use Rattle.base_lists.specs.Lists.{in_front}
use Rattle.plan_format.specs.Sizes.{state_size}
use Rattle.plan_format.specs.Refusal.{Refusal, given, or_refusal}
use Rattle.plan_format.specs.Plan.{Plan}
use Rattle.plan_format.specs.Stored.{plan_in, room_for}
use Rattle.plan_format.specs.declared.Told.{Told}
use Rattle.plan_order.specs.Check.{Outcome, outcome, or_then, rows_and_run, check_outcome, Says}
use Rattle.plan_trace.specs.declared.Traced.{Traced}
use Rattle.plan_trace.specs.Trace.{trace_steps, trace_refusal, followed}
use Rattle.plan_trace.specs.State.{trace_state, traced_of, nothing_traced}
use Rattle.plan_trace.specs.Numbers.{number_of}

-- R84: too little room for the state, then a trace that is badly formed
unfoldable pub own_refusal : (trace : List ℕ) → (state : ℕ) → Refusal
own_refusal ts s = or_refusal (room_for state_size s) (trace_refusal ts)

-- R84: the check's refusals come first. The question's own leave rows and run, as an answer does
unfoldable pub trace_outcome : (bytes trace : List ℕ) → (table list state : ℕ) → Outcome
trace_outcome bs ts t l s = or_then (check_outcome bs t l) (outcome (own_refusal ts s) rows_and_run)

-- the outcome in lent table, list and state
abbrev pub trace_outcome_in : (bytes trace table list state : List ℕ) → Outcome
trace_outcome_in bs ts t l s = trace_outcome bs ts (length t) (length l) (length s)

-- R84: a refusal hands back nothing traced, and leaves the state as it was; an answer is written over the state's front
unfoldable pub traced_by : Refusal → Plan → (steps : List ℕ) → Traced
traced_by f p xs = cond (given f) nothing_traced (traced_of p xs)

unfoldable pub state_left : Refusal → Plan → (steps state : List ℕ) → List ℕ
state_left f p xs old = cond (given f) old (in_front (trace_state p xs) old)

-- what a call hands back and leaves
pub record TraceSays (bytes trace : List ℕ) (r : Told) (x : Traced)
    (table table_now list list_now state state_now : List ℕ) : Type 0 where
  pub says :
      Says (trace_outcome_in bytes trace table list state)
      (number_of (followed (plan_in bytes) (trace_steps trace)).followed) (plan_in bytes) r
      table table_now list list_now
  pub traced_is : x ≡ traced_by (trace_outcome_in bytes trace table list state).refusal (plan_in bytes)
      (trace_steps trace)
  pub state_holds : state_now ≡ state_left (trace_outcome_in bytes trace table list state).refusal (plan_in bytes)
      (trace_steps trace) state
