-- A recorded trace, why a step of it departs from a plan, and what was followed (R80 to R82). Assumes nothing: these
-- are definitions.
use Rattle.std.specs.Prelude.{Bool, true, false, ◌&&◌, not, cond, List, [], ◌∷◌, ◌++◌, ℕ, ◌+◌, ◌*◌, leb, eqb, length}
use Rattle.std.specs.Prelude.{take, drop}
use Rattle.std.proofs.Math.Option.{Option, none, some}
use Rattle.base_lists.specs.Lists.{member, lowest_below, tabulate_from}
use Rattle.plan_format.specs.Sizes.{step_bytes}
use Rattle.plan_format.specs.Grammar.{value}
use Rattle.plan_format.specs.Refusal.{Refusal, refusal, none_given}
use Rattle.plan_format.specs.Plan.{Plan, count, op}
use Rattle.plan_format.specs.Meaning.{wait_at}
use Rattle.plan_order.specs.Runs.{wait_met, earlier_run}
use Rattle.plan_trace.specs.declared.Followed.{Followed}
use Rattle.plan_trace.specs.declared.Followed.TheVariants.{
  Full,
  Unfinished,
  Unknown,
  Repeated,
  NotFirst,
  WaitNotMet,
}

-- ---- the stored trace
-- R80: a step is the position of an operation in two bytes, the low byte first; the steps follow their count, which has
-- two bytes too
unfoldable pub step_count : (trace : List ℕ) → ℕ
step_count ts = value (take step_bytes ts)

-- where the bytes of a step begin
abbrev pub step_place : (k : ℕ) → ℕ
step_place k = step_bytes + step_bytes * k

unfoldable pub step_at : (trace : List ℕ) → (k : ℕ) → ℕ
step_at ts k = value (take step_bytes (drop (step_place k) ts))

unfoldable pub trace_steps : (trace : List ℕ) → List ℕ
trace_steps ts = tabulate_from (step_count ts) 0 (λ k. step_at ts k)

-- R80: a trace is a count and as many steps as it says; anything else is refusal 22, at 0
unfoldable pub trace_formed : (trace : List ℕ) → Bool
trace_formed ts = leb step_bytes (length ts) && eqb (length ts) (step_place (step_count ts))

unfoldable pub trace_refusal : (trace : List ℕ) → Refusal
trace_refusal ts = cond (trace_formed ts) none_given (refusal 22 0)

-- ---- why a step departs, after the steps that are done
-- R81: the first wait in the operation's list that is not met
unfoldable pub unmet_wait : Plan → (done : List ℕ) → (j : ℕ) → Option ℕ
unmet_wait p r j = lowest_below (length (op p j).waits) (λ k. not (wait_met p r (wait_at p j k)))

unfoldable pub of_wait : (j : ℕ) → Option ℕ → Followed
of_wait j none = Unfinished
of_wait j (some k) = WaitNotMet (record { operation = j; wait = k })

-- R81: an operation that the plan does not have, one that has run, one that is not the next of its queue, one with a
-- wait that is not met: the first of these that holds. A step that breaks no rule leaves the run unfinished
unfoldable pub judged : Plan → (done : List ℕ) → (j : ℕ) → Followed
judged p r j =
    cond (leb (count p) j) (Unknown j)
    (cond (member j r) (Repeated j)
    (cond (not (earlier_run p r j)) (NotFirst j)
    (of_wait j (unmet_wait p r j))))

unfoldable pub departs : Followed → Bool
departs Full = false
departs Unfinished = false
departs (Unknown i) = true
departs (Repeated i) = true
departs (NotFirst i) = true
departs (WaitNotMet u) = true

-- ---- what was followed
pub record Found : Type 0 where
  pub step : ℕ
  pub followed : Followed

unfoldable pub found : (step : ℕ) → Followed → Found
found k f = record { step = k; followed = f }

-- R82: a run to the end of the trace is full if it has every operation, also where there is none
unfoldable pub at_end : (operations steps : ℕ) → Followed
at_end n k = cond (eqb k n) Full Unfinished

-- R82: the first step that departs, with the rule that it breaks; or the number of steps
unfoldable pub follow : Plan → (done rest : List ℕ) → Found
follow p r [] = found (length r) (at_end (count p) (length r))
follow p r (j ∷ js) = cond (departs (judged p r j)) (found (length r) (judged p r j)) (follow p (r ++ (j ∷ [])) js)

unfoldable pub followed : Plan → (steps : List ℕ) → Found
followed p xs = follow p [] xs
