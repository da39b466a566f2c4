-- What a caller of the question for a wait gets, from what it says. Assumes nothing.
use mathlib.Core.Path.{◌≡◌, sym, ap, ◌∙◌}
use mathlib.Core.Bool.{true}
use mathlib.Core.List.{List}
use Prim.Native.Nat.{ℕ, ◌<◌}
use native.Mathlib.Omega.{arith}
use lib.ListN.{length}
use Rattle.base_lists.proofs.Tests.{by_cases}
use Rattle.plan_format.specs.Sizes.{most_operations}
use Rattle.plan_format.specs.Plan.{Plan, count}
use Rattle.plan_format.specs.Refusal.{Refusal, given}
use Rattle.plan_format.specs.Stored.{plan_in}
use Rattle.plan_format.specs.declared.Told.{Told}
use Rattle.plan_format.proofs.Judged.{zero_not_given, other_given, not_given_zero}
use Rattle.plan_format.proofs.Plans.{sound_in}
use Rattle.plan_order.specs.Promise.{Demand3Stored}
use Rattle.plan_order.proofs.CheckMeaning.{passed_unrefused, check_means}
use Rattle.plan_order.proofs.OutcomeMeaning.{passed_leaves}
use Rattle.plan_order.proofs.Promises.{demand_3_stored}
use Rattle.plan_order.proofs.RunMeaning.{full_means}
use Rattle.plan_order.proofs.Asking.{asked_left}
use Rattle.plan_order.proofs.AsBefore.{judged_as_before}
use Rattle.plan_change.specs.Longer.{longer}
use Rattle.plan_suggest.specs.declared.Advice.{Advice}
use Rattle.plan_suggest.specs.declared.Advice.TheVariants.{NoneNeeded, Wait}
use Rattle.plan_suggest.specs.Numbers.{number_of}
use Rattle.plan_suggest.specs.Suggest.{advice, suggest_refusal, suggest_outcome, suggest_outcome_in, advised_by}
use Rattle.plan_suggest.specs.Suggest.{SuggestSays}
use Rattle.plan_suggest.specs.Meaning.{AdviceMeans, Freed}
use Rattle.plan_suggest.specs.Promise.{SuggestRight}
use Rattle.plan_suggest.proofs.AdviceMeaning.{advice_means}
use Rattle.plan_suggest.proofs.QuestionMeaning.{question_means, question_passed, question_answered}
use Rattle.plan_suggest.proofs.Freed.{freed}

module _ (bs : List ℕ) (q b : ℕ) (r : Told) (a : Advice) (t x l y : List ℕ) (s : SuggestSays bs q b r a t x l y) where
  abbrev plan : Plan
  plan = plan_in bs

  abbrev refused : Refusal
  refused = (suggest_outcome_in bs q b t l).refusal

  -- ---- an answer
  module _ (z : refused.number ≡ 0) where
    advice_is : a ≡ advice plan q b
    unfolding advised_by
    advice_is = s.advice_is ∙ rw (zero_not_given refused z)

    advised : AdviceMeans plan q b a
    advised =
        let w = question_answered bs q b (length t) (length l) z in
        rw advice_is (advice_means plan q b w.signals)

    -- the plan passes
    freed_by : (v u : ℕ) → a ≡ Wait v u → count plan < most_operations →
        Freed (longer plan q (record { semaphore = v; value = u })) q b
    unfolding Demand3Stored
    freed_by v u e few =
        let w = question_answered bs q b (length t) (length l) z in
        let passes = w.passes in
        let unrefused = passed_unrefused bs (length t) (length l) passes in
        let place = (demand_3_stored bs (length t) (length l) unrefused).passed_place passes in
        let leaves = passed_leaves bs (length t) (length l) passes in
        let checked = (check_means bs (length t) (length l)).passed.0 ((passes, place), leaves) in
        let run = checked.1 in
        let case = (advised.wait v u).0 e in
        freed plan (sound_in bs checked.0.0) run.0 ((full_means plan run.0).1 run.1) checked.2
        checked.3 few q b v u w.queue case.0 case.1

  -- ---- beside a refusal
  nothing_is : given refused ≡ true → a ≡ NoneNeeded
  unfolding advised_by
  nothing_is g = s.advice_is ∙ rw g

  answer_is : r.answer ≡ number_of a
  unfolding number_of
  answer_is =
      by_cases (given refused)
      (λ g. let told : r.answer ≡ 0 = s.says.tells.answer_is ∙ rw g in told ∙ sym (ap number_of (nothing_is g)))
      (λ g. let told : r.answer ≡ number_of (advice plan q b) = s.says.tells.answer_is ∙ rw g in
      told ∙ sym (ap number_of (advice_is (not_given_zero refused g))))

  freed_any : (v u : ℕ) → a ≡ Wait v u → count plan < most_operations →
      Freed (longer plan q (record { semaphore = v; value = u })) q b
  unfolding number_of
  freed_any v u e few =
      by_cases (given refused)
      (λ g. absurd (let n : 0 ≡ 1 = ap number_of (sym (nothing_is g) ∙ e) in omega arith))
      (λ g. freed_by (not_given_zero refused g) v u e few)

  pub suggest_right : SuggestRight bs q b r a t x l y
  unfolding suggest_outcome
  suggest_right =
      let n = s.says.tells.number in
      record {
        says = s;
        number = n;
        place = s.says.tells.place;
        outcome = question_means bs q b (length t) (length l);
        passed = question_passed bs q b (length t) (length l);
        left = asked_left bs (suggest_refusal plan q b) (number_of (advice plan q b)) r t x l y s.says;
        advised = λ z. advised (sym n ∙ z);
        answer = answer_is;
        nothing = λ bad. nothing_is (other_given refused (λ z. bad (n ∙ z)));
        freed = freed_any;
        as_before = judged_as_before bs;
      }
