-- The question for a wait: the plan first, then the queue, the buffer, and whether a signal frees it; what each leaves.
-- Assumes nothing.
use mathlib.Core.Path.{◌≡◌, refl, sym, ap, ◌∙◌, subst}
use mathlib.Core.Bool.{true}
use mathlib.Core.Logic.{◌↔◌}
use mathlib.Core.List.{List}
use Prim.Native.Nat.{ℕ, ◌≤◌, ◌<◌}
use native.Mathlib.Omega.{arith}
use lib.Dec.{leb}
use lib.ListN.{length}
use borrow.Author.Tests.{leb-true, leb-false, le-leb, lt-leb}
use Rattle.base_lists.specs.Lists.{member, all}
use Rattle.base_lists.proofs.Tests.{by_cases}
use Rattle.plan_format.specs.Plan.{Plan, queues}
use Rattle.plan_format.specs.Refusal.{Refusal, refusal, none_given, given, or_refusal}
use Rattle.plan_format.specs.RefusalNumbers.{NoneOr, suggest_numbers}
use Rattle.plan_format.specs.Stored.{plan_in}
use Rattle.plan_format.specs.Meaning.{Refuses}
use Rattle.plan_order.specs.Check.{rows_and_run, check_outcome}
use Rattle.plan_order.specs.Reuse.{verdict, question_refusal}
use Rattle.plan_order.specs.Meaning.{When}
use Rattle.plan_order.specs.Promise.{Safe, unrefused}
use Rattle.plan_order.specs.declared.Verdict.TheVariants.{NotOrdered}
use Rattle.plan_order.proofs.Asking.{plan_first, gives_asked, asked_own, asked_safe, asked_number, asked_leaves_by}
use Rattle.plan_order.proofs.CheckMeaning.{check_means}
use Rattle.plan_suggest.specs.Suggest.{first_freeing, nineteen, suggest_refusal, suggest_outcome}
use Rattle.plan_suggest.specs.Meaning.{NoneFrees, OutcomeMeans}
use Rattle.plan_suggest.proofs.AdviceMeaning.{SignalCase, none_case, other_case, signal_case}

-- ---- the question's own refusals
module _ (p : Plan) (q b : ℕ) where
  abbrev of_signals : Refusal
  of_signals = nineteen (verdict p q b) (first_freeing p q b) b

  pub twelve_is : queues p ≤ q → Refuses (suggest_refusal p q b) 12 q
  unfolding suggest_refusal question_refusal or_refusal refusal given
  twelve_is h = rw (le-leb (queues p) q h) (refl, refl)

  pub thirteen_is : q < queues p → length p.sizes ≤ b → Refuses (suggest_refusal p q b) 13 b
  unfolding suggest_refusal question_refusal or_refusal refusal given none_given
  thirteen_is h g = rw (lt-leb (queues p) q h, le-leb (length p.sizes) b g) (refl, refl)

  pub then_signals : q < queues p → b < length p.sizes → suggest_refusal p q b ≡ of_signals
  unfolding suggest_refusal question_refusal or_refusal given none_given
  then_signals h g = rw (lt-leb (queues p) q h, lt-leb (length p.sizes) b g)

  module _ (h : q < queues p) (g : b < length p.sizes) where
    nineteen_is : When p q b NotOrdered → NoneFrees p q b → Refuses (suggest_refusal p q b) 19 b
    unfolding refusal
    nineteen_is w n =
        subst (λ (f : Refusal). Refuses f 19 b) (sym (then_signals h g)) (of of_signals (signal_case p q b))
      where
        of : (f : Refusal) → SignalCase p q b f → Refuses f 19 b
        of f (none_case w n e) = subst (λ (f : Refusal). Refuses f 19 b) (sym e) (refl, refl)
        of f (other_case never e) = absurd (never w n)

    none_is : (When p q b NotOrdered → NoneFrees p q b → ⊥) → Refuses (suggest_refusal p q b) 0 0
    unfolding none_given
    none_is never = subst (λ (f : Refusal). Refuses f 0 0) (sym (then_signals h g)) (of of_signals (signal_case p q b))
      where
        of : (f : Refusal) → SignalCase p q b f → Refuses f 0 0
        of f (none_case w n e) = absurd (never w n)
        of f (other_case never e) = subst (λ (f : Refusal). Refuses f 0 0) (sym e) (refl, refl)

  data OwnCase (n : ℕ) : Type 0 where
    queue_case : n ≡ 12 → queues p ≤ q → OwnCase n
    buffer_case : n ≡ 13 → q < queues p → length p.sizes ≤ b → OwnCase n
    signals_case : n ≡ 19 → q < queues p → b < length p.sizes → When p q b NotOrdered → NoneFrees p q b → OwnCase n
    answer_case : n ≡ 0 → q < queues p → b < length p.sizes → OwnCase n

  own_case : OwnCase (suggest_refusal p q b).number
  unfolding refusal none_given
  own_case =
      by_cases (leb (queues p) q) (λ u. let h = leb-true (queues p) q u in queue_case (twelve_is h).0 h)
      (λ u. let h = leb-false (queues p) q u in
      by_cases (leb (length p.sizes) b)
      (λ v. let g = leb-true (length p.sizes) b v in buffer_case (thirteen_is h g).0 h g)
      (λ v. let g = leb-false (length p.sizes) b v in
      of h g (suggest_refusal p q b) (subst (SignalCase p q b) (sym (then_signals h g)) (signal_case p q b))))
    where
      of : q < queues p → b < length p.sizes → (f : Refusal) → SignalCase p q b f → OwnCase f.number
      of h g f (none_case w n e) = signals_case (ap (λ (z : Refusal). z.number) e) h g w n
      of h g f (other_case never e) = answer_case (ap (λ (z : Refusal). z.number) e) h g

  own_number : {n : ℕ} → OwnCase n → NoneOr suggest_numbers n
  unfolding member
  own_number (queue_case e h) = rw e
  own_number (buffer_case e h g) = rw e
  own_number (signals_case e h g w n) = rw e
  own_number (answer_case e h g) = rw e

  twelve_if : {n : ℕ} → OwnCase n → n ≡ 12 → queues p ≤ q
  twelve_if (queue_case k h) e = h
  twelve_if (buffer_case k h g) e = absurd (omega arith)
  twelve_if (signals_case k h g w n) e = absurd (omega arith)
  twelve_if (answer_case k h g) e = absurd (omega arith)

  thirteen_if : {n : ℕ} → OwnCase n → n ≡ 13 → (q < queues p) × (length p.sizes ≤ b)
  thirteen_if (queue_case k h) e = absurd (omega arith)
  thirteen_if (buffer_case k h g) e = (h, g)
  thirteen_if (signals_case k h g w n) e = absurd (omega arith)
  thirteen_if (answer_case k h g) e = absurd (omega arith)

  nineteen_if : {n : ℕ} → OwnCase n → n ≡ 19 →
      (q < queues p) × (b < length p.sizes) × When p q b NotOrdered × NoneFrees p q b
  nineteen_if (queue_case k h) e = absurd (omega arith)
  nineteen_if (buffer_case k h g) e = absurd (omega arith)
  nineteen_if (signals_case k h g w n) e = (h, g, w, n)
  nineteen_if (answer_case k h g) e = absurd (omega arith)

  answer_if : {n : ℕ} → OwnCase n → n ≡ 0 → (q < queues p) × (b < length p.sizes)
  answer_if (queue_case k h) e = absurd (omega arith)
  answer_if (buffer_case k h g) e = absurd (omega arith)
  answer_if (signals_case k h g w n) e = absurd (omega arith)
  answer_if (answer_case k h g) e = (h, g)

-- ---- the question
module _ (bs : List ℕ) (q b t l : ℕ) where
  abbrev plan : Plan
  plan = plan_in bs

  abbrev own : Refusal
  own = suggest_refusal plan q b

  pub question_means : OutcomeMeans bs q b t l (suggest_outcome bs q b t l)
  unfolding suggest_outcome member all
  question_means =
      let case = own_case plan q b in
      let number = own_number plan q b case in
      record {
        check = check_means bs t l;
        plan_first = plan_first bs t l own;
        no_queue = λ z h. gives_asked bs t l own 12 q z (twelve_is plan q b h);
        no_buffer = λ z h g. gives_asked bs t l own 13 b z (thirteen_is plan q b h g);
        no_signal = λ z h g w n. gives_asked bs t l own 19 b z (nineteen_is plan q b h g w n);
        answered = λ z h g never. gives_asked bs t l own 0 0 z (none_is plan q b h g never);
        twelve = (
          (λ e. let w = asked_own bs t l own 12 refl e in (w.0, twelve_if plan q b case w.1)),
          (λ w. (gives_asked bs t l own 12 q w.0 (twelve_is plan q b w.1)).0.0),
        );
        thirteen = (
          (λ e. let w = asked_own bs t l own 13 refl e in
              let v = thirteen_if plan q b case w.1 in (w.0, v.0, v.1)),
          (λ w. (gives_asked bs t l own 13 b w.0 (thirteen_is plan q b w.1 w.2)).0.0),
        );
        nineteen = (
          (λ e. let w = asked_own bs t l own 19 refl e in
              let v = nineteen_if plan q b case w.1 in (w.0, v.0, v.1, v.2, v.3)),
          (λ w. (gives_asked bs t l own 19 b w.0 (nineteen_is plan q b w.1 w.2 w.3 w.4)).0.0),
        );
        only = asked_number bs t l own suggest_numbers number;
        leaves = asked_leaves_by bs t l own suggest_numbers number refl;
      }

  -- rows and run are left exactly where the plan passes
  pub question_passed : ((suggest_outcome bs q b t l).leaves ≡ rows_and_run) ↔ ((unrefused bs t l ≡ true) × Safe plan)
  unfolding suggest_outcome
  question_passed = asked_safe bs t l own

  -- an answer is given on a plan that passes, to a queue and a buffer that it has, where 19 is not given
  pub record Answered : Type 0 where
    pub passes : (check_outcome bs t l).refusal.number ≡ 0
    pub queue : q < queues plan
    pub buffer : b < length plan.sizes
    pub signals : (of_signals plan q b).number ≡ 0

  pub question_answered : (suggest_outcome bs q b t l).refusal.number ≡ 0 → Answered
  unfolding suggest_outcome member
  question_answered e =
      let w = asked_own bs t l own 0 refl e in
      let v = answer_if plan q b (own_case plan q b) w.1 in
      record {
        passes = w.0;
        queue = v.0;
        buffer = v.1;
        signals = ap (λ (f : Refusal). f.number) (sym (then_signals plan q b v.0 v.1)) ∙ w.1;
      }
