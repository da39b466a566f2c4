-- What the question for a wait hands back of a plan that is shown by columns and rows, and all that a caller gets with
-- it. Assumes nothing.
use mathlib.Core.Path.{◌≡◌, sym, ap, ap₂, ◌∙◌, subst}
use mathlib.Core.Bool.{cond}
use mathlib.Core.List.{List}
use mathlib.Core.Option.{Option, some}
use Prim.Native.Nat.{ℕ, ◌%◌, ◌≤◌, ◌<◌}
use native.Mathlib.Omega.{arith}
use lib.Dec.{eqb}
use lib.ListN.{length, get_or}
use borrow.Author.Tests.{eqb-true, eqb-false}
use Rattle.std.specs.Prelude.{unwrap_or}
use Rattle.std.specs.Prelude as words
use Rattle.base_lists.specs.Lists.{lowest_below}
use Rattle.base_lists.proofs.Tests.{by_cases, by_option}
use Rattle.base_lists.proofs.Searches.{lowest_some, lowest_same}
use Rattle.plan_format.specs.Sizes.{most_operations}
use Rattle.plan_format.specs.Plan.{Plan, count, queues}
use Rattle.plan_format.specs.Refusal.{Refusal, refusal, none_given, given}
use Rattle.plan_format.specs.Stored.{plan_in}
use Rattle.plan_format.specs.Meaning.{Refuses}
use Rattle.plan_format.proofs.RulesFirst.{signal_inside}
use Rattle.plan_format.proofs.Judged.{other_given}
use Rattle.plan_order.specs.Precedence.{plan_signals, at_or_before}
use Rattle.plan_order.specs.Check.{Leaves, Outcome, outcome, check_outcome, table_left, list_left, Says, CheckSays}
use Rattle.plan_order.specs.Reuse.{verdict}
use Rattle.plan_order.specs.Promise.{Checked}
use Rattle.plan_order.specs.declared.Verdict.{Verdict}
use Rattle.plan_order.specs.declared.Verdict.TheVariants.{Fresh, Reusable, Held, NotOrdered}
use Rattle.plan_order.proofs.Asking.{then_asked as question_asked}
use Rattle.plan_order.proofs.OutcomeMeaning.{passed_leaves}
use Rattle.plan_suggest.specs.declared.Advice.{Advice}
use Rattle.plan_suggest.specs.declared.Advice.TheVariants.{NoneNeeded, Wait, NoneWouldHelp}
use Rattle.plan_suggest.specs.Numbers.{number_of}
use Rattle.plan_suggest.specs.Suggest.{frees, wait_for, first_freeing, advice_by, advice, nineteen, suggest_refusal}
use Rattle.plan_suggest.specs.Suggest.{suggest_outcome, advised_by, SuggestSays}
use Rattle.plan_suggest.specs.Promise.{SuggestRight}
use Rattle.plan_suggest.proofs.SignalPlaces.{at, place_signal}
use Rattle.plan_suggest.proofs.FirstFreeing.{LastDecides, last_decides}
use Rattle.plan_suggest.proofs.QuestionMeaning.{twelve_is, thirteen_is, then_signals, question_means}
use Rattle.plan_suggest.proofs.Promises.{suggest_right}
use Rattle.check_columns.specs.Shown.{ordered}
use Rattle.check_columns.proofs.Ordered.{ordered_right}
use Rattle.check_plan.specs.Counting.{outcome_told}
use Rattle.check_plan.specs.Opening.{Lent, OpenedPlan, Handed, lent_of}
use Rattle.check_plan.specs.declared.PlanColumns.{PlanColumns}
use Rattle.check_plan.specs.declared.Opened.{Opened}
use Rattle.ask_reuse.specs.ReusePass.{VerdictGiven, JudgedRight}
use Rattle.ask_reuse.specs.declared.Judged.{Judged}
use Rattle.ask_reuse.proofs.ReuseAsked.{question_given}
use Rattle.ask_suggest.specs.declared.Suggested.{Suggested}
use Rattle.ask_suggest.specs.SuggestPass.{told, suggested, suggested_by, suggested_of, SuggestGiven, first_after}
use Rattle.ask_suggest.specs.SuggestPass.{at_signal, AdviceGiven}

-- ---- a plan that passes, opened
pub suggest_given : {p : Plan} {o : Opened} {c : Lent} {table : List ℕ} → OpenedPlan p o c table →
    SuggestGiven p o c.queue c.signal_semaphore c.signal_value c.signal_operation c.mark
    c.mark_operation table
suggest_given opened =
    record { question = question_given opened; signals_shown = opened.read.signals_shown }

module _ {p : Plan} {o : Opened} {queue ssem sval sop mark mop rows : List ℕ}
    (given_plan : SuggestGiven p o queue ssem sval sop mark mop rows) (q b : ℕ) where
  abbrev shown : VerdictGiven p o.counted.counts.operations o.marks queue mark mop rows
  shown = given_plan.question.shown

  -- ---- refused for the queue or the buffer
  refused_as : {n i : ℕ} → Refuses (suggest_refusal p q b) n i → (n ≡ 0 → ⊥) →
      suggested n i NoneNeeded ≡ suggested_of p q b
  unfolding suggested_of suggested_by advised_by
  refused_as r bad =
      rw (other_given (suggest_refusal p q b) (λ z. bad (sym r.0 ∙ z)))
      (sym (λ j. suggested (r.0 j) (r.1 j) NoneNeeded))

  pub no_queue : o.counted.counts.queues ≤ q → {r : Suggested} → r ≡ suggested 12 q NoneNeeded → r ≡ suggested_of p q b
  no_queue h e = e ∙ refused_as (twelve_is p q b (omega (arith, given_plan.question.queues_are))) (λ z. omega arith)

  module _ (queue_known : q < o.counted.counts.queues) where
    known_queue : q < queues p
    known_queue = omega (arith, given_plan.question.queues_are)

    pub no_buffer : o.counted.counts.buffers ≤ b → {r : Suggested} → r ≡ suggested 13 b NoneNeeded →
        r ≡ suggested_of p q b
    no_buffer h e =
        e ∙
        refused_as (thirteen_is p q b known_queue (omega (arith, given_plan.question.buffers_are))) (λ z. omega arith)

    module _ (buffer_known : b < o.counted.counts.buffers) {j : Judged}
        (judged : b < length p.sizes →
        VerdictGiven p o.counted.counts.operations o.marks queue mark mop rows → JudgedRight p q b j) where
      known_buffer : b < length p.sizes
      known_buffer = omega (arith, given_plan.question.buffers_are)

      verdict_is : {v : Verdict} → j.verdict ≡ v → verdict p q b ≡ v
      verdict_is e = sym (judged known_buffer shown).verdict ∙ e

      -- ---- by the verdict
      by_verdict : (v : Verdict) → j.verdict ≡ v → suggested_of p q b ≡
          suggested_by (nineteen v (first_freeing p q b) b) (advice_by p v (first_freeing p q b))
      unfolding suggested_of advice
      by_verdict v e = rw (then_signals p q b known_queue known_buffer, verdict_is e)

      module _ {r : Suggested} where
        pub fresh : j.verdict ≡ Fresh → r ≡ suggested 0 0 NoneNeeded → r ≡ suggested_of p q b
        unfolding suggested_by nineteen advice_by advised_by given none_given
        fresh e is = is ∙ sym (by_verdict Fresh e)

        pub reusable : j.verdict ≡ Reusable → r ≡ suggested 0 0 NoneNeeded → r ≡ suggested_of p q b
        unfolding suggested_by nineteen advice_by advised_by given none_given
        reusable e is = is ∙ sym (by_verdict Reusable e)

        pub held : j.verdict ≡ Held → r ≡ suggested 0 0 NoneWouldHelp → r ≡ suggested_of p q b
        unfolding suggested_by nineteen advice_by advised_by given none_given
        held e is = is ∙ sym (by_verdict Held e)

      -- ---- under verdict 3
      module _ (not_ordered : j.verdict ≡ NotOrdered) {i : ℕ} (i_is : i ≡ unwrap_or j.operation 0) where
        abbrev there : Option ℕ
        there = first_after queue rows sop i o.signals

        decided : LastDecides p q b
        decided =
            last_decides p shown.sound q b (λ k l. shown.forced b k known_buffer l) (verdict_is not_ordered)

        -- one comparison of two rows tells whether a signal frees
        one_test : (k : ℕ) → k < length (plan_signals p) → frees p q b (wait_for p k) ≡
            ordered queue rows (i % most_operations) (get_or sop k 0 % most_operations)
        one_test k l =
            let few = shown.sound.few_operations in
            let w = place_signal p k l in
            let after = (at p k).operation in
            let inside = signal_inside p after (at p k).position w.0 in
            let last = (judged known_buffer shown).operation decided.free decided.last in
            let free : i ≡ decided.free.by = i_is ∙ ap (λ (z : words.Option ℕ). unwrap_or z 0) last.0 in
            let low : i < count p = omega (arith, free, last.1) in
            let x : i % most_operations ≡ i = omega (arith, low, few) in
            let shown_there = given_plan.signals_shown.operations k (omega (arith, given_plan.signals_shown.all)) in
            let y : get_or sop k 0 % most_operations ≡ after = omega (arith, shown_there, inside, few) in
            decided.decides k l
            ∙ ap (λ (z : ℕ). at_or_before p z after) (sym free)
            ∙ sym (ordered_right p shown.sound queue rows shown.queues_shown shown.rows_shown i
            after low inside)
            ∙ ap₂ (λ (i k : ℕ). ordered queue rows i k) (sym x) (sym y)

        first_is : first_freeing p q b ≡ there
        unfolding first_freeing first_after
        first_is =
            lowest_same (length (plan_signals p)) (λ k. frees p q b (wait_for p k))
            (λ k. ordered queue rows (i % most_operations) (get_or sop k 0 % most_operations)) one_test
            ∙ ap (λ (n : ℕ). lowest_below n
            (λ k. ordered queue rows (i % most_operations) (get_or sop k 0 % most_operations)))
            (sym given_plan.signals_shown.all)

        signal_is : (k : ℕ) → there ≡ some k →
            Wait (get_or ssem k 0) (get_or sval k 0) ≡ Wait (wait_for p k).semaphore (wait_for p k).value
        unfolding first_after wait_for
        signal_is k e =
            let inside = (lowest_some o.signals
            (λ k. ordered queue rows (i % most_operations) (get_or sop k 0 % most_operations)) k e).inside in
            ap₂ (λ (s v : ℕ). Wait s v) (given_plan.signals_shown.semaphores k inside)
            (given_plan.signals_shown.values k inside)

        pub by_signal : {r : Suggested} → r ≡ at_signal ssem sval b there → r ≡ suggested_of p q b
        unfolding suggested_by nineteen advice_by advised_by at_signal given refusal none_given
        by_signal is =
            let line = by_verdict NotOrdered not_ordered in
            by_option there
            (λ e. is ∙ ap (at_signal ssem sval b) e ∙ sym (line ∙ ap (λ (k : Option ℕ).
            suggested_by (nineteen NotOrdered k b) (advice_by p NotOrdered k)) (first_is ∙ e)))
            (λ k e. is ∙ ap (at_signal ssem sval b) e ∙ ap (suggested 0 0) (signal_is k e) ∙
            sym (line ∙ ap (λ (k : Option ℕ). suggested_by (nineteen NotOrdered k b) (advice_by p NotOrdered k))
            (first_is ∙ e)))

-- ---- what it says, from what the check says
-- the answer is 0 beside a refusal
number_advised : (f : Refusal) (a : Advice) → number_of (advised_by f a) ≡ cond (given f) 0 (number_of a)
unfolding advised_by number_of
number_advised f a = by_cases (given f) (λ g. rw g) (λ g. rw g)

module _ {bs : List ℕ} (q b : ℕ) {n i : ℕ} {t x l y : List ℕ}
    (checked : Checked bs (record { number = n; place = i; answer = 0 }) t x l y) where
  abbrev plan : Plan
  plan = plan_in bs

  abbrev outcome_of_check : Outcome
  outcome_of_check = check_outcome bs (length t) (length l)

  -- the plan is refused
  refused_says : (n ≡ 0 → ⊥) → SuggestSays bs q b (told (suggested n i NoneNeeded)) NoneNeeded t x l y
  unfolding CheckSays advised_by number_of
  refused_says h =
      let s = checked.says in
      let bad : outcome_of_check.refusal.number ≡ 0 → ⊥ = λ z. h (s.tells.number ∙ z) in
      let first = (question_means bs q b (length t) (length l)).plan_first bad in
      let beside : NoneNeeded ≡ advised_by outcome_of_check.refusal (advice plan q b) =
      rw (other_given outcome_of_check.refusal bad) in
      record {
        says = subst (λ (z : Outcome). Says z (number_of (advice plan q b)) plan
            (told (suggested n i NoneNeeded)) t x l y) (sym first)
            (record {
              tells = record {
                number = s.tells.number;
                place = s.tells.place;
                answer_is = rw (other_given outcome_of_check.refusal bad);
              };
              table_holds = s.table_holds;
              list_holds = s.list_holds;
            });
        advice_is = beside ∙ ap (λ (z : Outcome). advised_by z.refusal (advice plan q b)) (sym first);
      }

  pub plan_refused : (n ≡ 0 → ⊥) → {r : Suggested} → r ≡ suggested n i NoneNeeded →
      SuggestRight bs q b (told r) r.advice t x l y
  plan_refused h e = rw e (suggest_right bs q b (told (suggested n i NoneNeeded)) NoneNeeded t x l y (refused_says h))

  -- the plan passes
  passed_says : n ≡ 0 → {r : Suggested} → r ≡ suggested_of plan q b → SuggestSays bs q b (told r) r.advice t x l y
  unfolding CheckSays suggest_outcome outcome suggested_of suggested_by
  passed_says z {r} e =
      let s = checked.says in
      let own = suggest_refusal plan q b in
      let passed : outcome_of_check.refusal.number ≡ 0 = sym s.tells.number ∙ z in
      let leaves = passed_leaves bs (length t) (length l) passed in
      let asked = question_asked bs (length t) (length l) own passed in
      record {
        says = subst (λ (o : Outcome). Says o (number_of (advice plan q b)) plan (told r) t x l y) (sym asked)
            (record {
              tells = record {
                number = ap (λ (x : Suggested). x.number) e;
                place = ap (λ (x : Suggested). x.place) e;
                answer_is = ap (λ (x : Suggested). number_of x.advice) e ∙ number_advised own (advice plan q b);
              };
              table_holds = s.table_holds ∙ ap (λ (v : Leaves). table_left v plan t) leaves;
              list_holds = s.list_holds ∙ ap (λ (v : Leaves). list_left v plan l) leaves;
            });
        advice_is = ap (λ (x : Suggested). x.advice) e ∙
            ap (λ (o : Outcome). advised_by o.refusal (advice plan q b)) (sym asked);
      }

  pub then_asked : n ≡ 0 → {r : Suggested} → r ≡ suggested_of plan q b →
      SuggestRight bs q b (told r) r.advice t x l y
  then_asked z {r} e = suggest_right bs q b (told r) r.advice t x l y (passed_says z e)

-- ---- an opened plan
pub asked_of : {bs t x l y : List ℕ} (q b : ℕ) {o : Opened} {before : Lent} {c : PlanColumns} →
    Handed bs o before c t x l y → {r : Suggested} → AdviceGiven q b o (lent_of c) x r →
    SuggestRight bs q b (told r) r.advice t x l y
asked_of q b {o} h a =
    by_cases (eqb (outcome_told o.counted.outcome).number 0)
    (λ e. let passed = eqb-true (outcome_told o.counted.outcome).number 0 e in
    then_asked q b h.checked passed (a.answered passed _ (suggest_given (h.opened passed))))
    (λ e. let bad = eqb-false (outcome_told o.counted.outcome).number 0 e in
    plan_refused q b h.checked bad (a.refused bad))
