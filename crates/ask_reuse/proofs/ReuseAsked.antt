-- What the reuse question says, from what the check says; and all that a caller gets with it. Assumes nothing.
use mathlib.Core.Path.{◌≡◌, refl, sym, ap, ◌∙◌, subst}
use mathlib.Core.List.{List}
use Prim.Native.Nat.{ℕ, ◌≤◌, ◌<◌}
use native.Mathlib.Omega.{arith}
use lib.ListN.{length}
use lib.Dec.{eqb}
use borrow.Author.Tests.{le-leb, lt-leb, eqb-true, eqb-false}
use Rattle.base_lists.proofs.Tests.{by_cases}
use Rattle.plan_format.specs.Plan.{Plan, queues}
use Rattle.plan_format.specs.Refusal.{refusal, none_given, given, or_refusal}
use Rattle.plan_format.specs.Stored.{plan_in, Tells}
use Rattle.plan_format.specs.declared.Told.{Told}
use Rattle.plan_format.proofs.Judged.{zero_not_given, other_given}
use Rattle.plan_order.specs.Check.{Leaves, Outcome, outcome, or_then, check_outcome, table_left, list_left, Says}
use Rattle.plan_order.specs.Check.{CheckSays}
use Rattle.plan_order.specs.Reuse.{number_of, verdict, question_refusal, reuse_outcome, ReuseSays}
use Rattle.plan_order.specs.Holdings.{buffer_marks}
use Rattle.plan_order.specs.Meaning.{Forced}
use Rattle.plan_order.specs.Promise.{Demand3Stored, Checked}
use Rattle.plan_order.proofs.CheckMeaning.{passed_unrefused, check_means}
use Rattle.plan_order.proofs.OutcomeMeaning.{passed_leaves}
use Rattle.plan_order.proofs.Promises.{demand_3_stored}
use Rattle.plan_order.proofs.LastFree.{passed_forced, five_same, unseen_free}
use Rattle.plan_order.proofs.AsBefore.{judged_as_before}
use Rattle.plan_order.proofs.QuestionMeaning.{question_means, question_passed, question_answered, question_left}
use Rattle.plan_order.proofs.QuestionMeaning.{question_number, question_answer, question_no_answer, question_most}
use Rattle.check_plan.specs.Opening.{Lent, OpenedPlan, Handed, lent_of}
use Rattle.check_plan.specs.declared.PlanColumns.{PlanColumns}
use Rattle.check_plan.specs.Counting.{outcome_told}
use Rattle.check_plan.specs.declared.PlanCounts.{PlanCounts}
use Rattle.check_plan.specs.declared.Opened.{Opened}
use Rattle.ask_reuse.specs.Reuse.{ReuseAsked}
use Rattle.ask_reuse.specs.ReusePass.{QuestionGiven, AnswerGiven}

-- ---- all that a caller gets
-- the marks of a passed plan on one of its buffers are forced
checked_forced : (bs : List ℕ) (b t l : ℕ) → (check_outcome bs t l).refusal.number ≡ 0 →
    b < length (plan_in bs).sizes →
    (k : ℕ) → k < length (buffer_marks (plan_in bs) b) → Forced (plan_in bs) b k
unfolding Demand3Stored
checked_forced bs b t l z inside k here =
    let place = (demand_3_stored bs t l (passed_unrefused bs t l z)).passed_place z in
    ((check_means bs t l).passed.0 ((z, place), passed_leaves bs t l z)).3 b k inside here

-- so are those on the buffer of a question that is answered
answered_forced : (bs : List ℕ) (q b t l : ℕ) → (reuse_outcome bs q b t l).refusal.number ≡ 0 →
    (k : ℕ) → k < length (buffer_marks (plan_in bs) b) → Forced (plan_in bs) b k
answered_forced bs q b t l e = let w = question_answered bs q b t l e in checked_forced bs b t l w.0 w.2

pub asked : (bs : List ℕ) (q b : ℕ) (r : Told) (t x l y : List ℕ) → ReuseSays bs q b r t x l y →
    ReuseAsked bs q b r t x l y
unfolding ReuseSays
asked bs q b r t x l y s =
    let n = s.tells.number in
    let forced : r.number ≡ 0 → (k : ℕ) → k < length (buffer_marks (plan_in bs) b) → Forced (plan_in bs) b k =
    λ z. answered_forced bs q b (length t) (length l) (sym n ∙ z) in
    record {
      says = s;
      number = n;
      place = s.tells.place;
      means = question_means bs q b (length t) (length l);
      passed = question_passed bs q b (length t) (length l);
      left = question_left bs q b r t x l y s;
      answer = question_answer bs q b r t x l y s;
      most = question_most bs q b r t x l y s;
      not_ordered = λ z.
          let line = (question_answer bs q b r t x l y s z).not_ordered in
          let same = unseen_free (plan_in bs) b (forced z) q in
          ((λ a. same.0 (line.0 a)), (λ w. line.1 (same.1 w)));
      five = λ z. question_number bs q b r t x l y s z ∙ five_same (plan_in bs) b (forced z) q;
      no_answer = question_no_answer bs q b r t x l y s;
      as_before = judged_as_before bs;
    }

-- ---- what it says, from what the check says
module _ {bs : List ℕ} (q b : ℕ) {n i : ℕ} {t x l y : List ℕ}
    (checked : Checked bs (record { number = n; place = i; answer = 0 }) t x l y) where
  -- the plan is refused
  pub plan_refused : (n ≡ 0 → ⊥) → ReuseSays bs q b (record { number = n; place = i; answer = 0 }) t x l y
  unfolding ReuseSays CheckSays
  plan_refused h =
      let s = checked.says in
      let o = check_outcome bs (length t) (length l) in
      let bad : o.refusal.number ≡ 0 → ⊥ = λ z. h (s.tells.number ∙ z) in
      subst (λ (z : Outcome). Says z (number_of (verdict (plan_in bs) q b)) (plan_in bs)
      (record { number = n; place = i; answer = 0 }) t x l y)
      (sym ((question_means bs q b (length t) (length l)).plan_first bad))
      (record {
        tells =
            record {
              number = s.tells.number;
              place = s.tells.place;
              answer_is = rw (other_given o.refusal bad);
            };
        table_holds = s.table_holds;
        list_holds = s.list_holds;
      })

  -- the plan passes
  pub then_asked : n ≡ 0 → {r : Told} →
      Tells (question_refusal (plan_in bs) q b) (number_of (verdict (plan_in bs) q b)) r → ReuseSays bs q b r t x l y
  unfolding ReuseSays CheckSays reuse_outcome or_then outcome
  then_asked z {r} h =
      let s = checked.says in
      let o = check_outcome bs (length t) (length l) in
      let passed : o.refusal.number ≡ 0 = sym s.tells.number ∙ z in
      let leaves = passed_leaves bs (length t) (length l) passed in
      rw (zero_not_given o.refusal passed)
      (record {
        tells = h;
        table_holds = s.table_holds ∙ ap (λ (v : Leaves). table_left v (plan_in bs) t) leaves;
        list_holds = s.list_holds ∙ ap (λ (v : Leaves). list_left v (plan_in bs) l) leaves;
      })

-- ---- a plan that passes, opened
pub question_given : {p : Plan} {o : Opened} {c : Lent} {table : List ℕ} → OpenedPlan p o c table →
    QuestionGiven p o.counted.counts o.marks c.queue c.mark c.mark_operation table
question_given {p} opened = record {
  queues_are = opened.queues_are;
  buffers_are = opened.buffers_are;
  shown = record {
    sound = opened.sound;
    many = sym opened.operations_are;
    few_buffers = opened.limits.few_buffers;
    forced = passed_forced p opened.passes;
    queues_shown = opened.read.queues_shown;
    marks_shown = opened.read.marks_shown;
    rows_shown = opened.rows_shown;
  };
}

-- ---- the question's own refusals, and its answer
pub buffer_known : {p : Plan} {c : PlanCounts} {marks : ℕ} {queue mark operation rows : List ℕ} {b : ℕ} →
    QuestionGiven p c marks queue mark operation rows → b < c.buffers → b < length p.sizes
buffer_known {b} opened h = subst (λ (n : ℕ). b < n) opened.buffers_are h

module _ {p : Plan} {c : PlanCounts} {marks : ℕ} {queue mark operation rows : List ℕ}
    (opened : QuestionGiven p c marks queue mark operation rows) (q b : ℕ) where
  pub no_queue : c.queues ≤ q →
      Tells (question_refusal p q b) (number_of (verdict p q b)) (record { number = 12; place = q; answer = 0 })
  unfolding question_refusal or_refusal refusal given
  no_queue h = rw (le-leb (queues p) q (omega (arith, opened.queues_are)))
      (record { number = refl; place = refl; answer_is = refl })

  module _ (known : q < c.queues) where
    pub no_buffer : c.buffers ≤ b →
        Tells (question_refusal p q b) (number_of (verdict p q b)) (record { number = 13; place = b; answer = 0 })
    unfolding question_refusal or_refusal refusal given none_given
    no_buffer h =
        rw (
          lt-leb (queues p) q (omega (arith, opened.queues_are)),
          le-leb (length p.sizes) b (omega (arith, opened.buffers_are)),
        )
        (record { number = refl; place = refl; answer_is = refl })

    pub answered : b < c.buffers → {a : ℕ} → a ≡ number_of (verdict p q b) →
        Tells (question_refusal p q b) (number_of (verdict p q b)) (record { number = 0; place = 0; answer = a })
    unfolding question_refusal or_refusal refusal given none_given
    answered h e =
        rw (
          lt-leb (queues p) q (omega (arith, opened.queues_are)),
          lt-leb (length p.sizes) b (omega (arith, opened.buffers_are)),
        )
        (record { number = refl; place = refl; answer_is = e })

-- ---- an opened plan
pub asked_of : {bs t x l y : List ℕ} (q b : ℕ) {o : Opened} {before : Lent} {c : PlanColumns} →
    Handed bs o before c t x l y → {r : Told} → AnswerGiven q b o (lent_of c) x r → ReuseAsked bs q b r t x l y
asked_of q b {o} h {r} a =
    asked _ q b r _ _ _ _
    (by_cases (eqb (outcome_told o.counted.outcome).number 0)
    (λ e. let passed = eqb-true (outcome_told o.counted.outcome).number 0 e in
    then_asked q b h.checked passed (a.answered passed _ (question_given (h.opened passed))))
    (λ e. let bad = eqb-false (outcome_told o.counted.outcome).number 0 e in
    rw (a.refused bad) (plan_refused q b h.checked bad)))
