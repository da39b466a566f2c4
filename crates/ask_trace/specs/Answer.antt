-- What the question hands back and leaves for an opened plan, by its columns alone (R84). Assumes nothing: these are
-- definitions.
use Rattle.std.specs.Prelude.{cond, List, ℕ, length}
use Rattle.base_lists.specs.Lists.{in_front}
use Rattle.plan_format.specs.Refusal.{Refusal, refusal, given, or_refusal}
use Rattle.plan_format.specs.declared.Told.{Told}
use Rattle.plan_trace.specs.declared.Traced.{Traced}
use Rattle.plan_trace.specs.Trace.{trace_steps}
use Rattle.plan_trace.specs.State.{no_counts, nothing_traced}
use Rattle.plan_trace.specs.Question.{own_refusal}
use Rattle.plan_trace.specs.Numbers.{number_of}
use Rattle.check_plan.specs.Counting.{outcome_told}
use Rattle.check_plan.specs.declared.PlanCounts.{PlanCounts}
use Rattle.check_plan.specs.declared.Opened.{Opened}
use Rattle.ask_trace.specs.declared.Counted.{Counted}
use Rattle.ask_trace.specs.declared.TraceTold.{TraceTold}
use Rattle.ask_trace.specs.Walk.{walk_from}
use Rattle.ask_trace.specs.Raising.{begun, raised_from}

-- number, place, and the number of what was followed as the answer
abbrev pub told : TraceTold → Told
told r = record { number = r.counted.number; place = r.counted.place; answer = number_of r.traced.followed }

-- the refusal of the check, or the first of the question's own
unfoldable pub first_refusal : (check : Told) → (trace : List ℕ) → (state : ℕ) → Refusal
first_refusal c ts s = or_refusal (refusal c.number c.place) (own_refusal ts s)

-- the counts of a plan beside a number and its place
abbrev pub counted_as : PlanCounts → (number place : ℕ) → Counted
counted_as c n i = record { number = n; place = i; counts = c }

-- the walk over all steps of a trace
abbrev pub walked : Opened → (queue source rows trace : List ℕ) → Traced
walked o queue source rows ts = walk_from o.counted.counts.operations queue source rows no_counts 0 (trace_steps ts)

unfoldable pub answer_by : Opened → (queue source rows trace : List ℕ) → (state : ℕ) → TraceTold
answer_by o queue source rows ts s =
    let f = first_refusal (outcome_told o.counted.outcome) ts s in
    record {
      counted = counted_as o.counted.counts f.number f.place;
      traced = cond (given f) nothing_traced (walked o queue source rows ts);
    }

-- a refusal leaves the state; else the counts and the semaphores of what was walked are written over its front
unfoldable pub state_by : Opened → (queue source ssem sval sop rows trace state : List ℕ) → List ℕ
state_by o queue source ssem sval sop rows ts old =
    let counts = (walked o queue source rows ts).state in
    cond (given (first_refusal (outcome_told o.counted.outcome) ts (length old))) old
    (raised_from queue rows counts ssem sval sop o.signals 0 (in_front (begun counts) old))
