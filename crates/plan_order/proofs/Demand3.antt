-- Demand 3 for every sound plan: what the number and place of refusals 10, 17 and 11, and of a pass,
-- mean. Assumes nothing.
use mathlib.Core.Path.{◌≡◌, refl, sym, ◌∙◌, subst}
use mathlib.Core.Bool.{true, true≢false}
use mathlib.Core.List.{List, [], ◌∷◌, ◌++◌, Memᴰ}
use mathlib.Core.Option.{Option, none, some}
use Prim.Native.Nat.{ℕ, suc, ◌<◌}
use native.Mathlib.Nat.{not-suc-le-zero}
use native.Mathlib.Omega.{arith}
use lib.Dec.{eqb}
use lib.ListN.{length, get_or}
use borrow.Author.Tests.{ltb-true, eqb-true, eqb-false}
use Rattle.base_lists.specs.Lists.{member}
use Rattle.base_lists.proofs.Tests.{by_cases, clash, is_false, by_option, either}
use Rattle.order.proofs.Runs.{runs_snoc, never_stuck}
use Rattle.plan_format.specs.Plan.{Mark, Plan, count, op, queues}
use Rattle.plan_format.specs.Refusal.{Refusal, refusal, none_given, given, or_refusal}
use Rattle.plan_format.specs.Sound.{signals_refusal, waits_refusal, rules_refusal, Sound}
use Rattle.plan_order.specs.Check.{refused_at, order_refusal}
use Rattle.plan_order.specs.Holdings.{marks_of, marks_buffer, Ask, asks, all_asks, broken}
use Rattle.plan_order.specs.Handovers.{disordered}
use Rattle.plan_order.specs.Promise.{StuckAt, DisorderedAt, BrokenAt, Safe, Demand3}
use Rattle.plan_order.specs.Runs.{enabled, ready, is_run, is_full, ahead, raises_in_order, standard, missing}
use Rattle.plan_order.specs.Meaning.{Signals, AllInTurn}
use Rattle.plan_order.proofs.Readiness.{WaitsGood}
use Rattle.plan_order.proofs.Keeping.{Marks, asks_mark, asked_marks, all_asks_has, broken_some, broken_none}
use Rattle.plan_order.proofs.Keeping.{forced_met, unforced_breaks, keeps_by, keeps_no}
use Rattle.plan_order.proofs.Handovers.{disordered_some}
use Rattle.plan_order.proofs.HandoverRuns.{none_raised, unforced_unraised, hands}
use Rattle.plan_order.proofs.HandoversMeaning.{ordered_means}
use Rattle.plan_order.proofs.Rows.{own}
use Rattle.plan_order.proofs.Standard.{standard_runs, standard_lacks, goes_on, standard_full, missing_some}
use Rattle.plan_order.proofs.Standard.{missing_none, full_run, full_has}

-- ---- `order_refusal`, taken apart
pub data Ordered (p : Plan) : Refusal → Type 0 where
  stuck_there : (i : ℕ) → missing p ≡ some i → Ordered p (refusal 10 i)
  disordered_there : (i : ℕ) → missing p ≡ none → disordered p ≡ some i → Ordered p (refusal 17 i)
  broken_there : (i : ℕ) → missing p ≡ none → disordered p ≡ none → broken p ≡ some i → Ordered p (refusal 11 i)
  in_order : missing p ≡ none → disordered p ≡ none → broken p ≡ none → Ordered p none_given

pub order_cases : (p : Plan) → Ordered p (order_refusal p)
unfolding order_refusal refused_at
order_cases p =
    by_option (missing p)
    (λ n. by_option (disordered p)
    (λ d. by_option (broken p) (λ m. rw (n, d, m) (in_order n d m)) (λ i e. rw (n, d, e) (broken_there i n d e)))
    (λ i d. rw (n, d) (disordered_there i n d)))
    (λ i e. rw e (stuck_there i e))

module _ (p : Plan) (sound : Sound p) where
  pub rules_good : ((signals_refusal 0 [] p.operations).number ≡ 0) ×
      ((waits_refusal 0 p p.operations).number ≡ 0)
  unfolding rules_refusal or_refusal given
  rules_good =
      let a = signals_refusal 0 [] p.operations in
      let z = sound.rules in
      by_cases (eqb a.number 0) (λ t. (eqb-true a.number 0 t, rw t at z))
      (λ f. absurd (eqb-false a.number 0 f (rw f at z)))

  signals_good : (signals_refusal 0 [] p.operations).number ≡ 0
  signals_good = rules_good.0

  pub waits_good : WaitsGood p
  waits_good = record { above_zero = sound.waits_above_zero; low_enough = rules_good.1 }

  queue_known : (j : ℕ) → j < count p → (op p j).queue < queues p
  queue_known j l = (sound.in_range j l).queue

  -- what is asked at all is asked of a known buffer
  mark_known : (b i : ℕ) → Marks p b i → b < length p.sizes
  unfolding marks_buffer marks_of
  mark_known b i m =
      marked_known (op p i).marks (λ k l. (sound.in_range i m.inside).marks k l)
      (ltb-true 0 (length (marks_of i b (op p i).marks)) m.marking)
    where
      marked_known : (ms : List Mark) →
          ((k : ℕ) → k < length ms → (get_or ms k (record { buffer = 0; kind = 0 })).buffer < length p.sizes) →
          0 < length (marks_of i b ms) → b < length p.sizes
      marked_known [] h l = absurd (not-suc-le-zero l)
      marked_known (m ∷ ms) h l =
          by_cases (eqb m.buffer b) (λ t. omega (arith, h 0 (omega arith), eqb-true m.buffer b t))
          (λ f. marked_known ms (λ k u. h (suc k) (omega arith)) (rw f at l))

  asked_known : (b : ℕ) (a : Ask) → Memᴰ a (asks p b) → Memᴰ a (all_asks p)
  asked_known b a m = all_asks_has p b a (mark_known b a.first (asks_mark p b a m).0) m

  -- ---- each answer
  stuck_at : (i : ℕ) → missing p ≡ some i → StuckAt p i
  stuck_at i e =
      let w = missing_some p queue_known i e in
      let out = standard_lacks p queue_known i w.1 in
      record {
        inside = w.0;
        in_none = out;
        no_full = λ r. is_false (is_full p r)
            (λ f. clash (member i r) (full_has p r f i w.0) (out r (full_run p r f).0));
        lower = λ k l. (standard p, standard_runs p queue_known, w.2 k l);
      }

  whole : ◌≡◌ {A = Option ℕ} (missing p) none → is_full p (standard p) ≡ true
  whole e = standard_full p queue_known (missing_none p queue_known e)

  disordered_at : (i : ℕ) → ◌≡◌ {A = Option ℕ} (missing p) none → disordered p ≡ some i → DisorderedAt p i
  disordered_at i n e =
      let s = disordered_some p i e in
      let a = s.0.0 in
      let u = s.0.1 in
      let w = unforced_unraised p signals_good waits_good (standard p) (whole n) a u.among u.unforced in
      record {
        inside = subst (λ (z : ℕ). z < count p) u.own (hands p a u.among).inside;
        run = w.run;
        full = w.full;
        unraised = w.unraised;
        semaphore = w.semaphore;
        value = w.high;
        signals = subst (λ (z : ℕ). Signals p z w.semaphore w.high) u.own w.then_signals;
        other = a.first;
        lower_value = w.low;
        other_signals = w.first_signals;
        falls = w.falls;
        too_soon = subst (λ (z : ℕ). ahead w.run z a.first ≡ true) u.own w.too_soon;
        ask = a;
        among = u.among;
        own = u.own;
        unmet = w.unmet;
        lower = λ d m l r f. forced_met p r f d (s.1 d m l);
      }

  broken_at : (i : ℕ) → ◌≡◌ {A = Option ℕ} (missing p) none → broken p ≡ some i → BrokenAt p i
  broken_at i n e =
      let s = broken_some p i e in
      let a = s.0.0 in
      let b = s.0.1 in
      let w = unforced_breaks p waits_good (standard p) (whole n) b.buffer a b.among b.unforced in
      let m = subst (λ (z : ℕ). Marks p b.buffer z) b.asked (asked_marks p b.buffer a b.among) in
      record {
        inside = m.inside;
        run = w.0;
        buffer = b.buffer;
        ask = a;
        full = w.1;
        breaks = keeps_no p w.0 b.buffer a b.among w.2;
        marks = m.marking;
        among = b.among;
        own = b.asked;
        unmet = w.2;
        lower = λ c d k l r f. forced_met p r f d (s.1 d (asked_known c d k) l);
      }

  safe : ◌≡◌ {A = Option ℕ} (missing p) none → ◌≡◌ {A = Option ℕ} (disordered p) none →
      ◌≡◌ {A = Option ℕ} (broken p) none → Safe p
  safe n d m = record {
    run = standard p;
    full = whole n;
    raised = λ r f. none_raised p signals_good d r (full_run p r f).0;
    kept = λ r b f. keeps_by p r b (λ a k. forced_met p r f a (broken_none p m a (asked_known b a k)));
  }

  -- a run of a safe plan that is not full goes on
  goes_further : ◌≡◌ {A = Option ℕ} (missing p) none → (r : List ℕ) → is_run p r ≡ true → length r < count p →
      (j : ℕ) × (is_run p (r ++ (j ∷ [])) ≡ true)
  unfolding is_run ready
  goes_further n r h l =
      let w = goes_on p queue_known (missing_none p queue_known n) r h l in
      (w.0, runs_snoc (count p) (enabled p) r w.0 h w.1)

  turned : AllInTurn p → (r : List ℕ) → is_run p r ≡ true → raises_in_order p r ≡ true
  turned t = none_raised p signals_good ((ordered_means p).1 t)

  demand_of : (f : Refusal) → Ordered p f → Demand3 p f.number f.place
  unfolding refusal none_given member
  demand_of _ (stuck_there i e) =
      let s = stuck_at i e in
      record {
        only = refl;
        exactly = ((λ z. absurd (omega arith)), (λ t. absurd (true≢false (sym t.full ∙ s.no_full t.run))));
        passed_place = λ z. absurd (omega arith);
        never_stuck = λ z. absurd (omega arith);
        raises = λ w. absurd (either w (λ z. omega arith) (λ z. omega arith));
        in_turn_raises = turned;
        stuck = λ z. s;
        disordered = λ z. absurd (omega arith);
        broken = λ z. absurd (omega arith);
      }
  demand_of _ (disordered_there i n e) =
      let d = disordered_at i n e in
      record {
        only = refl;
        exactly = (
          (λ z. absurd (omega arith)),
          (λ t. absurd (true≢false (sym (t.raised d.run d.full) ∙ d.unraised))),
        );
        passed_place = λ z. absurd (omega arith);
        never_stuck = λ z. absurd (omega arith);
        raises = λ w. absurd (either w (λ z. omega arith) (λ z. omega arith));
        in_turn_raises = turned;
        stuck = λ z. absurd (omega arith);
        disordered = λ z. d;
        broken = λ z. absurd (omega arith);
      }
  demand_of _ (broken_there i n d e) =
      let b = broken_at i n e in
      record {
        only = refl;
        exactly = (
          (λ z. absurd (omega arith)),
          (λ t. absurd (true≢false (sym (t.kept b.run b.buffer b.full) ∙ b.breaks))),
        );
        passed_place = λ z. absurd (omega arith);
        never_stuck = λ z. absurd (omega arith);
        raises = λ _ r h. none_raised p signals_good d r h;
        in_turn_raises = turned;
        stuck = λ z. absurd (omega arith);
        disordered = λ z. absurd (omega arith);
        broken = λ z. b;
      }
  demand_of _ (in_order n d m) = record {
    only = refl;
    exactly = ((λ z. safe n d m), (λ t. refl));
    passed_place = λ z. refl;
    never_stuck = λ z r h l. goes_further n r h l;
    raises = λ _ r h. none_raised p signals_good d r h;
    in_turn_raises = turned;
    stuck = λ z. absurd (omega arith);
    disordered = λ z. absurd (omega arith);
    broken = λ z. absurd (omega arith);
  }

  pub demand_3 : Demand3 p (order_refusal p).number (order_refusal p).place
  demand_3 = demand_of (order_refusal p) (order_cases p)
