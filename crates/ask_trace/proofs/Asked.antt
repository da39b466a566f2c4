-- What the question says, from what the check says and what the columns of the opened plan show. Assumes nothing.
use mathlib.Core.Path.{◌≡◌, sym, ap, ◌∙◌}
use mathlib.Core.Bool.{true, false, cond}
use mathlib.Core.List.{List}
use Prim.Native.Nat.{ℕ, ◌≤◌}
use lib.Dec.{eqb}
use lib.ListN.{length}
use borrow.Author.Tests.{eqb-true, eqb-false}
use Rattle.base_lists.specs.Lists.{in_front}
use Rattle.base_lists.proofs.Tests.{by_cases, clash}
use Rattle.base_lists.proofs.Places.{mem_at}
use Rattle.plan_format.specs.Sizes.{state_size}
use Rattle.plan_format.specs.Plan.{Plan}
use Rattle.plan_format.specs.Refusal.{Refusal, refusal, given}
use Rattle.plan_format.specs.Stored.{plan_in, Tells}
use Rattle.plan_format.specs.declared.Told.{Told}
use Rattle.plan_format.proofs.Judged.{zero_not_given, other_given, not_given_zero}
use Rattle.plan_format.proofs.Positions.{few_waits}
use Rattle.plan_order.specs.Check.{Leaves, Outcome, outcome, table_left, list_left, CheckSays}
use Rattle.plan_order.specs.Precedence.{no_signal, plan_signals}
use Rattle.plan_order.specs.Promise.{Checked}
use Rattle.plan_order.proofs.Demand3.{demand_3}
use Rattle.check_signals.proofs.Flat.{plan_inside}
use Rattle.plan_trace.specs.declared.Traced.{Traced}
use Rattle.plan_trace.specs.Trace.{trace_steps, followed}
use Rattle.plan_trace.specs.State.{steps_followed, trace_state, traced_of, nothing_traced}
use Rattle.plan_trace.specs.Numbers.{number_of}
use Rattle.plan_trace.specs.Question.{trace_outcome_in, traced_by, state_left, TraceSays}
use Rattle.plan_trace.specs.Promise.{TraceRight}
use Rattle.plan_trace.proofs.FollowedMeaning.{followed_run}
use Rattle.plan_trace.proofs.QuestionMeaning.{own_none, plan_first, then_asked, leaves_are}
use Rattle.plan_trace.proofs.Promises.{trace_right}
use Rattle.check_plan.specs.declared.Opened.{Opened}
use Rattle.check_plan.specs.Counting.{outcome_told, SizesTold}
use Rattle.check_plan.specs.Opening.{Lent, OpenedPlan}
use Rattle.ask_trace.specs.declared.Counted.{Counted}
use Rattle.ask_trace.specs.declared.TraceTold.{TraceTold}
use Rattle.ask_trace.specs.Raising.{begun, raised_from}
use Rattle.ask_trace.specs.Answer.{told, first_refusal, counted_as, walked, answer_by, state_by}
use Rattle.ask_trace.proofs.Columns.{TraceGiven, walked_right}
use Rattle.ask_trace.proofs.Raising.{TraceSignalsGiven, state_right}
use Rattle.ask_trace.proofs.Refusals.{check_first, then_own}

-- ---- a plan that passes, opened
module _ {p : Plan} {o : Opened} {c : Lent} {table : List ℕ} (opened : OpenedPlan p o c table) where
  pub shown_of : TraceGiven p o.counted.counts.operations c.queue c.source table
  shown_of =
      let safe = (demand_3 p opened.sound).exactly.0 opened.passes in
      record {
        sound = opened.sound;
        many = sym opened.operations_are;
        few_waits = λ i l. few_waits opened.limits i l;
        queues_shown = opened.read.queues_shown;
        sources_shown = opened.sources_shown;
        rows_shown = opened.rows_shown;
        run = safe.run;
        full = safe.full;
      }

  pub signals_of : TraceSignalsGiven p o.counted.counts.operations o.signals c.queue c.source table
      c.signal_semaphore c.signal_value
      c.signal_operation
  signals_of = record {
    shown = shown_of;
    few_semaphores = opened.limits.few_semaphores;
    signals_in = λ k l.
        let inside = plan_inside p opened.sound.in_range _
        (mem_at (plan_signals p) no_signal k l) in
        (inside.operation, inside.semaphore);
    signals_shown = opened.read.signals_shown;
  }

-- ---- what the code hands back
module _ (o : Opened) (queue source ssem sval sop rows ts old : List ℕ) (f : Told)
    (tells : Tells (first_refusal (outcome_told o.counted.outcome) ts (length old)) 0 f) (c : Counted)
    (c_is : c ≡ counted_as o.counted.counts f.number f.place) where
  abbrev first : Refusal
  first = first_refusal (outcome_told o.counted.outcome) ts (length old)

  counted_right : c ≡ counted_as o.counted.counts first.number first.place
  counted_right = c_is ∙ (λ i. counted_as o.counted.counts (tells.number i) (tells.place i))

  -- a refusal
  module _ (bad : f.number ≡ 0 → ⊥) where
    is_given : given first ≡ true
    is_given = other_given first (λ z. bad (tells.number ∙ z))

    pub refused_answer : (x : Traced) → x ≡ nothing_traced →
        record { counted = c; traced = x } ≡ answer_by o queue source rows ts (length old)
    unfolding answer_by
    refused_answer x e = rw is_given (λ i. record { counted = counted_right i; traced = e i })

    pub refused_state : old ≡ state_by o queue source ssem sval sop rows ts old
    unfolding state_by
    refused_state = rw is_given

  -- an answer
  module _ (none : f.number ≡ 0) where
    not_given : given first ≡ false
    not_given = zero_not_given first (sym tells.number ∙ none)

    pub walked_answer : (x : Traced) → x ≡ walked o queue source rows ts →
        record { counted = c; traced = x } ≡ answer_by o queue source rows ts (length old)
    unfolding answer_by
    walked_answer x e = rw not_given (λ i. record { counted = counted_right i; traced = e i })

    pub walked_state : (x : Traced) → x ≡ walked o queue source rows ts → (now : List ℕ) →
        now ≡ raised_from queue rows x.state ssem sval sop o.signals 0 (in_front (begun x.state) old) →
        now ≡ state_by o queue source ssem sval sop rows ts old
    unfolding state_by
    walked_state x e now h = rw not_given (rw e at h)

    pub enough_room : state_size ≤ length old
    enough_room =
        by_cases (eqb (outcome_told o.counted.outcome).number 0)
        (λ a. (own_none ts (length old)
        (sym (ap (λ (z : Refusal). z.number) (then_own (outcome_told o.counted.outcome) ts (length old)
        (eqb-true (outcome_told o.counted.outcome).number 0 a)))
        ∙ sym tells.number ∙ none)).0)
        (λ a. let bad = eqb-false (outcome_told o.counted.outcome).number 0 a in
        absurd (bad (unfold refusal in (sym (ap (λ (z : Refusal). z.number)
        (check_first (outcome_told o.counted.outcome) ts (length old) bad)) ∙ sym tells.number ∙ none))))

-- ---- what the question says
module _ (bs ts t x l y s : List ℕ) (o : Opened) (c : Lent)
    (checked : Checked bs (outcome_told o.counted.outcome) t x l y)
    (opened : (outcome_told o.counted.outcome).number ≡ 0 → OpenedPlan (plan_in bs) o c x) where
  abbrev plan : Plan
  plan = plan_in bs

  abbrev steps : List ℕ
  steps = trace_steps ts

  abbrev here : Refusal
  here = first_refusal (outcome_told o.counted.outcome) ts (length s)

  abbrev end : Outcome
  end = trace_outcome_in bs ts t l s

  -- the refusal is that of the outcome
  refusal_is : here ≡ end.refusal
  unfolding outcome refusal
  refusal_is =
      by_cases (eqb (outcome_told o.counted.outcome).number 0)
      (λ a. let z = eqb-true (outcome_told o.counted.outcome).number 0 a in
      then_own (outcome_told o.counted.outcome) ts (length s) z
      ∙ sym (ap (λ (w : Outcome). w.refusal)
      (then_asked bs ts (length t) (length l) (length s) (sym checked.number ∙ z))))
      (λ a. let bad = eqb-false (outcome_told o.counted.outcome).number 0 a in
      check_first (outcome_told o.counted.outcome) ts (length s) bad
      ∙ (λ i. record { number = checked.number i; place = checked.place i })
      ∙ sym (ap (λ (w : Outcome). w.refusal)
      (plan_first bs ts (length t) (length l) (length s) (λ z. bad (checked.number ∙ z)))))

  -- no refusal: the plan passes, and there is room
  passes : given here ≡ false → (outcome_told o.counted.outcome).number ≡ 0
  passes f =
      by_cases (eqb (outcome_told o.counted.outcome).number 0)
      (λ a. eqb-true (outcome_told o.counted.outcome).number 0 a)
      (λ a. let bad = eqb-false (outcome_told o.counted.outcome).number 0 a in
      clash (given here) (ap given (check_first (outcome_told o.counted.outcome) ts (length s) bad) ∙
      other_given (refusal (outcome_told o.counted.outcome).number (outcome_told o.counted.outcome).place)
      (unfold refusal in bad)) f)

  room : given here ≡ false → state_size ≤ length s
  room f =
      (own_none ts (length s)
      (sym (ap (λ (z : Refusal). z.number) (then_own (outcome_told o.counted.outcome) ts (length s) (passes f))) ∙
      not_given_zero here f)).0

  -- what was walked
  walk_is : given here ≡ false → walked o c.queue c.source x ts ≡ traced_of plan steps
  walk_is f = walked_right plan o.counted.counts.operations c.queue c.source x (shown_of (opened (passes f))) steps

  traced_is : cond (given here) nothing_traced (walked o c.queue c.source x ts) ≡ traced_by here plan steps
  unfolding traced_by
  traced_is = by_cases (given here) (λ g. rw g) (λ f. rw f (walk_is f))

  state_is : state_by o c.queue c.source c.signal_semaphore c.signal_value c.signal_operation x ts s ≡
      state_left here plan steps s
  unfolding state_by state_left traced_of trace_state
  state_is =
      by_cases (given here) (λ g. rw g)
      (λ f. rw (f, walk_is f)
      (state_right plan o.counted.counts.operations o.signals c.queue c.source x c.signal_semaphore
      c.signal_value
      c.signal_operation (signals_of (opened (passes f))) (steps_followed plan steps) (followed_run plan steps) s
      (room f)))

  -- the number of what was followed
  answer_is : number_of (cond (given here) nothing_traced (walked o c.queue c.source x ts)).followed ≡
      cond (given here) 0 (number_of (followed plan steps).followed)
  unfolding nothing_traced number_of traced_of
  answer_is = by_cases (given here) (λ g. rw g) (λ f. rw f (ap (λ (z : Traced). number_of z.followed) (walk_is f)))

  abbrev answered : TraceTold
  answered = answer_by o c.queue c.source x ts (length s)

  says_all : TraceSays bs ts (told answered) answered.traced t x l y s
      (state_by o c.queue c.source c.signal_semaphore c.signal_value c.signal_operation x ts s)
  unfolding answer_by CheckSays
  says_all =
      let left = leaves_are bs ts (length t) (length l) (length s) in
      record {
        says = record {
          tells = record {
            number = ap (λ (z : Refusal). z.number) refusal_is;
            place = ap (λ (z : Refusal). z.place) refusal_is;
            answer_is = answer_is ∙ ap (λ (z : Refusal). cond (given z) 0 (number_of (followed plan steps).followed))
                refusal_is;
          };
          table_holds = checked.says.table_holds ∙ ap (λ (v : Leaves). table_left v plan t) (sym left);
          list_holds = checked.says.list_holds ∙ ap (λ (v : Leaves). list_left v plan l) (sym left);
        };
        traced_is = traced_is ∙ ap (λ (z : Refusal). traced_by z plan steps) refusal_is;
        state_holds = state_is ∙ ap (λ (z : Refusal). state_left z plan steps s) refusal_is;
      }

  pub asked : (r : TraceTold) (now : List ℕ) → r ≡ answer_by o c.queue c.source x ts (length s) →
      now ≡ state_by o c.queue c.source c.signal_semaphore c.signal_value c.signal_operation x ts s →
      TraceRight bs ts (told r) r.traced t x l y s now
  asked r now e h = rw (e, h) (trace_right bs ts _ _ t x l y s _ says_all)

-- the counts are those of the check
pub sizes_kept : (bs queue source rows ts : List ℕ) (o : Opened) (s : ℕ) (r : TraceTold) →
    r ≡ answer_by o queue source rows ts s →
    SizesTold bs o.counted.counts → SizesTold bs r.counted.counts
unfolding answer_by
sizes_kept bs queue source rows ts o s r e h = rw e h
