-- All that a caller of the question on a trace gets, from what it says by definition. Assumes nothing.
use mathlib.Core.Path.{◌≡◌, refl, sym, ap, ◌∙◌, subst}
use mathlib.Core.Bool.{not}
use mathlib.Core.List.{List}
use Prim.Native.Nat.{ℕ, ◌+◌}
use native.Mathlib.Omega.{arith}
use lib.Dec.{eqb}
use lib.ListN.{length, get_or, take, drop}
use lib.Seq.{take_at}
use borrow.Author.Tests.{eqb-true, eqb-false, not-true}
use Rattle.base_lists.specs.Lists.{in_front}
use Rattle.base_lists.specs.Places.{Counts}
use Rattle.base_lists.proofs.Fronts.{front_length, front_at, front_past}
use Rattle.base_lists.proofs.Tests.{by_cases, and_left}
use Rattle.plan_format.specs.Sizes.{most_queues, state_size}
use Rattle.plan_format.specs.Plan.{Plan, count}
use Rattle.plan_format.specs.Refusal.{Refusal, given}
use Rattle.plan_format.specs.Sound.{Sound}
use Rattle.plan_format.specs.Stored.{plan_in, plan_refusal}
use Rattle.plan_format.specs.declared.Told.{Told}
use Rattle.plan_format.proofs.Judged.{zero_not_given, other_given, not_given_zero}
use Rattle.plan_format.proofs.Plans.{sound_in}
use Rattle.plan_order.specs.Check.{room_refusal, check_outcome}
use Rattle.plan_order.specs.Meaning.{PastKept, LeftMeans}
use Rattle.plan_order.specs.Promise.{unrefused}
use Rattle.plan_order.proofs.CheckMeaning.{passed_unrefused}
use Rattle.plan_order.proofs.Asking.{asked_left}
use Rattle.plan_order.proofs.AsBefore.{judged_as_before}
use Rattle.plan_trace.specs.declared.Traced.{Traced}
use Rattle.plan_trace.specs.Trace.{trace_steps, found, followed}
use Rattle.plan_trace.specs.State.{queue_count, steps_followed, trace_state, traced_of, nothing_traced}
use Rattle.plan_trace.specs.Numbers.{number_of}
use Rattle.plan_trace.specs.Question.{
  own_refusal,
  trace_outcome,
  trace_outcome_in,
  traced_by,
  state_left,
  TraceSays,
}
use Rattle.plan_trace.specs.Meaning.{RunOn, StateMeans, UnusedMeans, TracedMeans}
use Rattle.plan_trace.specs.Promise.{TraceRight}
use Rattle.plan_trace.proofs.Steps.{steps_means}
use Rattle.plan_trace.proofs.FollowedMeaning.{followed_means}
use Rattle.plan_trace.proofs.StateMeaning.{count_means, counts_at, state_long, state_means, unused_means}
use Rattle.plan_trace.proofs.QuestionMeaning.{outcome_means, trace_passed, zero_if}

-- what was traced, by quantifiers
pub traced_means : (p : Plan) (xs : List ℕ) → TracedMeans p xs (traced_of p xs)
unfolding traced_of found
traced_means p xs = record {
  followed = followed_means p xs;
  counts = λ q l. let r = steps_followed p xs in
      subst (λ (z : ℕ). Counts (RunOn p r q) z) (sym (counts_at p r q l))
      ((count_means p r q (queue_count p r q)).0 refl);
}

-- ---- a state written over the front of another
module _ (p : Plan) (xs old : List ℕ) where
  abbrev new : List ℕ
  new = trace_state p xs

  new_long : length new ≡ state_size
  unfolding trace_state
  new_long = state_long p (steps_followed p xs)

  front_means : StateMeans p (steps_followed p xs) (take state_size (in_front new old))
  unfolding trace_state in_front
  front_means =
      subst (StateMeans p (steps_followed p xs)) (sym (take_at new (drop (length new) old) state_size new_long))
      (state_means p (steps_followed p xs))

  front_unused : Sound p → UnusedMeans p (in_front new old)
  unfolding trace_state
  front_unused sound =
      let none = unused_means p (steps_followed p xs) sound in
      record {
        queue = λ q a b. front_at new old q 0 (omega (arith, new_long)) ∙ none.queue q a b;
        semaphore = λ s a b. front_at new old (most_queues + s) 0 (omega (arith, new_long)) ∙ none.semaphore s a b;
      }

  front_kept : PastKept state_size old (in_front new old)
  front_kept = record {
    long = λ h. front_length new old (omega (arith, new_long));
    past = λ i l. front_past new old i 0 (omega (arith, new_long));
  }

-- a list that is left as it was
pub same_kept : (k : ℕ) (old now : List ℕ) → now ≡ old → PastKept k old now
same_kept k old now e = record { long = λ h. ap length e; past = λ i l. ap (λ (z : List ℕ). get_or z i 0) e }

passed_sound : (bs : List ℕ) (t l : ℕ) → (check_outcome bs t l).refusal.number ≡ 0 → Sound (plan_in bs)
unfolding unrefused
passed_sound bs t l z =
    sound_in bs (not_given_zero (plan_refusal bs) (not-true (given (plan_refusal bs))
    (and_left (not (given (plan_refusal bs))) (not (given (room_refusal (count (plan_in bs)) t l)))
    (passed_unrefused bs t l z))))

module _ (bs ts : List ℕ) (r : Told) (x : Traced) (t tx l lx s sx : List ℕ) (says : TraceSays bs ts r x t tx l lx s sx)
  where
    abbrev plan : Plan
    plan = plan_in bs

    abbrev steps : List ℕ
    steps = trace_steps ts

    abbrev refusal : Refusal
    refusal = (trace_outcome_in bs ts t l s).refusal

    refused : (r.number ≡ 0 → ⊥) → refusal.number ≡ 0 → ⊥
    refused h z = h (says.says.tells.number ∙ z)

    zero_given : r.number ≡ 0 → refusal.number ≡ 0
    zero_given z = sym says.says.tells.number ∙ z

    -- ---- an answer
    traced_answer : r.number ≡ 0 → x ≡ traced_of plan steps
    unfolding traced_by
    traced_answer z = says.traced_is ∙ rw (zero_not_given refusal (zero_given z))

    state_answer : r.number ≡ 0 → sx ≡ in_front (trace_state plan steps) s
    unfolding state_left
    state_answer z = says.state_holds ∙ rw (zero_not_given refusal (zero_given z))

    -- ---- a refusal
    traced_nothing : (r.number ≡ 0 → ⊥) → x ≡ nothing_traced
    unfolding traced_by
    traced_nothing h = says.traced_is ∙ rw (other_given refusal (refused h))

    state_kept : (r.number ≡ 0 → ⊥) → sx ≡ s
    unfolding state_left
    state_kept h = says.state_holds ∙ rw (other_given refusal (refused h))

    -- ---- both
    answer_number : r.answer ≡ number_of x.followed
    unfolding traced_of nothing_traced number_of
    answer_number =
        by_cases (eqb r.number 0)
        (λ a. let z = eqb-true r.number 0 a in
        says.says.tells.answer_is ∙ rw (zero_not_given refusal (zero_given z))
        (sym (ap (λ (y : Traced). number_of y.followed) (traced_answer z))))
        (λ a. let h = eqb-false r.number 0 a in
        says.says.tells.answer_is ∙ rw (other_given refusal (refused h))
        (sym (ap (λ (y : Traced). number_of y.followed) (traced_nothing h))))

    state_past : PastKept state_size s sx
    state_past =
        by_cases (eqb r.number 0)
        (λ a. subst (PastKept state_size s) (sym (state_answer (eqb-true r.number 0 a))) (front_kept plan steps s))
        (λ a. same_kept state_size s sx (state_kept (eqb-false r.number 0 a)))

    state_after : r.number ≡ 0 → StateMeans plan (take x.step steps) (take state_size sx)
    unfolding traced_of
    state_after z = rw (traced_answer z, state_answer z) (front_means plan steps s)

    unused : r.number ≡ 0 → UnusedMeans plan sx
    unused z =
        rw (state_answer z) (front_unused plan steps s
        (passed_sound bs (length t) (length l) (zero_if bs ts (length t) (length l) (length s) (zero_given z)).0))

    left : LeftMeans plan (trace_outcome_in bs ts t l s).leaves t tx l lx
    unfolding trace_outcome
    left = asked_left bs (own_refusal ts (length s)) (number_of (followed plan steps).followed) r t tx l lx
        says.says

    pub trace_right : TraceRight bs ts r x t tx l lx s sx
    trace_right = record {
      says = says;
      number = says.says.tells.number;
      place = says.says.tells.place;
      outcome = outcome_means bs ts (length t) (length l) (length s);
      passed = trace_passed bs ts (length t) (length l) (length s);
      left = left;
      steps = steps_means ts;
      answered = λ z. subst (TracedMeans plan steps) (sym (traced_answer z)) (traced_means plan steps);
      answer = answer_number;
      state_after = state_after;
      unused = unused;
      nothing = traced_nothing;
      untouched = state_kept;
      past = state_past;
      as_before = judged_as_before bs;
    }
