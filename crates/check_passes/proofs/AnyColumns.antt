-- What the parts of the check answer by their columns alone, put together. Assumes nothing.
use mathlib.Core.Path.{◌≡◌, refl, sym, ap, ◌∙◌, subst}
use mathlib.Core.Bool.{Bool, true, false, ◌||◌, cond}
use mathlib.Core.List.{List}
use Prim.Native.Nat.{ℕ, ◌*◌, ◌≤◌, ◌<◌}
use native.Mathlib.Omega.{arith}
use lib.Dec.{ltb}
use lib.ListN.{take, drop, replicate, length-replicate}
use lib.Seq.{length-take-le}
use borrow.Author.Tests.{lt-ltb, le-ltb}
use Rattle.std.specs.Prelude.{Result, is_ok, ⊤}
use Rattle.base_lists.specs.Lists.{in_front}
use Rattle.base_lists.proofs.Tests.{by_cases, clash, or_left, or_right}
use Rattle.base_lists.proofs.Fronts.{front_taken, front_alike}
use Rattle.plan_format.specs.Sizes.{row_width, row_places, most_operations}
use Rattle.plan_format.specs.Refusal.{Refusal, refusal, none_given, given, or_refusal}
use Rattle.plan_format.specs.Stored.{Tells}
use Rattle.plan_format.specs.Told.{Refused}
use Rattle.plan_format.specs.declared.Told.{Told}
use Rattle.plan_format.proofs.Telling.{told, tells}
use Rattle.plan_format.proofs.Judged.{zero_not_given, other_given, not_given_zero, or_else_first, or_else_second}
use Rattle.check_signals.specs.Walks.{signals_found, lasts_found}
use Rattle.check_signals.proofs.Told.{refused_alike, passed_with, answer_told}
use Rattle.check_waits.specs.Waits.{waits_found, Sources}
use Rattle.check_run.specs.Run.{Bounded}
use Rattle.check_run.proofs.Bounds.{run_past}
use Rattle.check_stuck.specs.Zeros.{first_zero}
use Rattle.check_handover.specs.Walk.{first_unturned}
use Rattle.check_marks.specs.Passes.{first_broken}
use Rattle.check_passes.specs.Answering.{zeros, rules_by, SourcesBy, OrderColumns, disordered_by}
use Rattle.check_passes.specs.Answering.{broken_by, order_by, RunJudged, AnswersBy}
use Rattle.check_passes.specs.Leaving.{ResultsRoom, ResultsLeft}
use Rattle.check_passes.proofs.Results.{told_of, passed_by, refused_as}
use Rattle.check_passes.proofs.Inside.{order_inside}

-- ---- the first of two that is given, whatever would be answered without it
pub first_only : {a : Refusal} (b : Refusal) {x y : ℕ} {r : Told} → Tells a x r → (r.number ≡ 0 → ⊥) →
    Tells (or_refusal a b) y r
first_only {a} b {x} {y} {r} h z =
    subst (λ (f : Refusal). Tells f y r) (sym (or_else_first a b (other_given a (λ e. z (h.number ∙ e)))))
    (refused_alike h z)

-- ---- 7 and 8
module _ (n semaphores signals : ℕ) (wsem wval ssem sval sop : List ℕ) {answer : ℕ} {r : Told}
    (first : Tells (signals_found semaphores signals ssem sval sop (zeros semaphores)) answer r) where
  module _ (z : r.number ≡ 0 → ⊥) where
    stops : given (signals_found semaphores signals ssem sval sop (zeros semaphores)) ≡ true
    stops = other_given _ (λ e. z (first.number ∙ e))

    pub rules_first : Tells (rules_by n semaphores signals wsem wval ssem sval sop) answer r
    unfolding rules_by
    rules_first = first_only _ first z

    pub sources_refused : SourcesBy n semaphores signals wsem wval ssem sval sop wsem
    sources_refused = record {
      refused = λ g. refl;
      resolved = λ f.
          clash (given (signals_found semaphores signals ssem sval sop (zeros semaphores))) stops f;
    }

  module _ (z : r.number ≡ 0) {last : List ℕ}
      (l : last ≡ lasts_found semaphores signals ssem sval sop (zeros semaphores)) {t : Told}
      (h : Tells (waits_found n semaphores signals ssem sval sop wsem wval last) 0 t) where
    none : (signals_found semaphores signals ssem sval sop (zeros semaphores)).number ≡ 0
    none = sym first.number ∙ z

    second : Tells (rules_by n semaphores signals wsem wval ssem sval sop) 0 t
    unfolding rules_by
    second =
        subst (λ (f : Refusal). Tells f 0 t)
        (sym (or_else_second _ _ none
        ∙ ap (λ (x : List ℕ). waits_found n semaphores signals ssem sval sop wsem wval x) (sym l))) h

    pub rules_second : (t.number ≡ 0 → ⊥) → Tells (rules_by n semaphores signals wsem wval ssem sval sop) answer t
    rules_second refused = refused_alike second refused

    pub rules_neither : t.number ≡ 0 → Tells (rules_by n semaphores signals wsem wval ssem sval sop) answer
        (record { number = t.number; place = t.place; answer = r.answer })
    rules_neither passed = passed_with second passed (answer_told first z)

    pub sources_resolved : {source : List ℕ} → Sources n semaphores signals t.number ssem sval sop wsem wval source →
        SourcesBy n semaphores signals wsem wval ssem sval sop source
    sources_resolved {source} left = record {
      refused = λ g. clash (given (signals_found semaphores signals ssem sval sop (zeros semaphores))) g
          (zero_not_given (signals_found semaphores signals ssem sval sop (zeros semaphores)) none);
      resolved = λ f. subst (λ (k : ℕ). Sources n semaphores signals k ssem sval sop wsem wval source)
          (h.number ∙ ap (λ (x : List ℕ). (waits_found n semaphores signals ssem sval sop wsem wval x).number) l) left;
    }

-- ---- 10, 17 and 11
module _ (n ran : ℕ) (cs : OrderColumns) (rows : List ℕ) where
  pub order_stuck : {i : ℕ} → ran < n → i ≡ first_zero n cs.queue rows →
      Tells (order_by n cs ran rows) 0 (told 10 i)
  unfolding order_by
  order_stuck l e = tells (rw (lt-ltb ran n l) (ap (λ (k : ℕ). refusal 10 k) (sym e)))

  module _ {u : ℕ} (all : n ≤ ran)
      (out : u ≡ first_unturned cs.queue rows cs.signal_semaphore cs.signal_operation cs.owned n
      cs.semaphores cs.signals) where
    pub order_disordered : u < n → Tells (order_by n cs ran rows) 0 (told 17 u)
    unfolding order_by disordered_by
    order_disordered b = tells (rw (le-ltb ran n all, ← out, lt-ltb u n b))

    module _ {i : ℕ} (turned : n ≤ u)
        (e : i ≡ first_broken cs.queue rows n cs.marks cs.mark cs.mark_operation) where
      pub order_broken : i < n → Tells (order_by n cs ran rows) 0 (told 11 i)
      unfolding order_by disordered_by broken_by
      order_broken b = tells (rw (le-ltb ran n all, ← out, le-ltb u n turned, ← e, lt-ltb i n b))

      pub order_passed : n ≤ i → Tells (order_by n cs ran rows) 0 (told 0 0)
      unfolding order_by disordered_by broken_by none_given refusal
      order_passed b = tells (rw (le-ltb ran n all, ← out, le-ltb u n turned, ← e, le-ltb i n b))

-- ---- what is left
module _ (n ran : ℕ) (cs : OrderColumns) (rows : List ℕ) {t t' l l₁ l' : List ℕ} (r : Result ⊤ Refused)
    (room : ResultsRoom n t l) (bounded : Bounded n ran (replicate row_places 0) rows l l₁)
    (told_is : Tells (order_by n cs ran rows) 0 (told_of r))
    (left : ResultsLeft (is_ok r) n rows t t' l₁ l') where
  run_judged : RunJudged n cs (told_of r) t t' l l'
  run_judged = record {
    ran = ran;
    rows = rows;
    run = take (2 * n) l₁;
    run_long = length-take-le (2 * n) l₁ (omega (arith, bounded.long, room.in_list));
    bounded = subst (λ (x : List ℕ). Bounded n ran (replicate row_places 0) rows l x) in_list bounded;
    tells = told_is;
    place_inside = λ z.
        subst (λ (k : ℕ). k < n) (sym told_is.place)
        (order_inside bounded (omega (arith, room.in_list)) cs (λ e. z (told_is.number ∙ e)));
    table_holds = by_cases (given (order_by n cs ran rows))
        (λ g. left.refused_table (refused_as r (not_none g))
        ∙ sym (ap (λ (b : Bool). in_front (cond b (replicate (row_width * n) 0) (take (row_width * n) rows)) t) g))
        (λ f. left.passed_table (passed_by r (is_none f))
        ∙ sym (ap (λ (b : Bool). in_front (cond b (replicate (row_width * n) 0) (take (row_width * n) rows)) t) f));
    list_holds = by_cases (given (order_by n cs ran rows))
        (λ g. left.refused_list (refused_as r (not_none g))
        ∙ front_alike (replicate (2 * n) 0) l₁ l (rw length-replicate past)
        ∙ sym (ap (λ (b : Bool). in_front (cond b (replicate (2 * n) 0) (take (2 * n) l₁)) l) g))
        (λ f. left.passed_list (passed_by r (is_none f)) ∙ in_list
        ∙ sym (ap (λ (b : Bool). in_front (cond b (replicate (2 * n) 0) (take (2 * n) l₁)) l) f));
  }
    where
      past : drop (2 * n) l₁ ≡ drop (2 * n) l
      past = run_past bounded

      in_list : l₁ ≡ in_front (take (2 * n) l₁) l
      in_list = front_taken (2 * n) l₁ l (omega (arith, bounded.long, room.in_list)) past

      not_none : given (order_by n cs ran rows) ≡ true → (told_of r).number ≡ 0 → ⊥
      not_none g e =
          clash (given (order_by n cs ran rows)) g
          (zero_not_given (order_by n cs ran rows) (sym told_is.number ∙ e))

      is_none : given (order_by n cs ran rows) ≡ false → (told_of r).number ≡ 0
      is_none f = told_is.number ∙ not_given_zero (order_by n cs ran rows) f

  -- a run
  pub answers_run : {first : Refusal} {lent : Told} → Tells first 0 lent → lent.number ≡ 0 →
      AnswersBy first n cs (told_of r) t t' l l'
  answers_run {first} h z =
      let none : (given first || ltb most_operations n) ≡ false =
      rw (zero_not_given first (sym h.number ∙ z)) (le-ltb most_operations n room.few) in
      record { stopped = λ e. clash (given first || ltb most_operations n) e none; judged = λ e. run_judged }

-- ---- no run
module _ {first : Refusal} {n : ℕ} {cs : OrderColumns} {t l : List ℕ} {r : Told} (h : Tells first 0 r) where
  pub answers_over : most_operations < n → AnswersBy first n cs r t t l l
  answers_over b = record {
    stopped = λ e. (h, refl, refl);
    judged = λ f. clash (given first || ltb most_operations n)
        (or_right (given first) (ltb most_operations n) (lt-ltb most_operations n b)) f;
  }

  pub answers_first : (r.number ≡ 0 → ⊥) → AnswersBy first n cs r t t l l
  answers_first z = record {
    stopped = λ e. (h, refl, refl);
    judged = λ f. clash (given first || ltb most_operations n)
        (or_left (given first) (ltb most_operations n) (other_given first (λ e. z (h.number ∙ e)))) f;
  }

-- the first of two that is given
pub first_then : {a : Refusal} (b : Refusal) {n answer : ℕ} {cs : OrderColumns} {t t' l l' : List ℕ} {s r : Told} →
    Tells a answer s → s.number ≡ 0 → AnswersBy b n cs r t t' l l' →
    AnswersBy (or_refusal a b) n cs r t t' l l'
first_then {a} b {n} {cs = cs} {t} {t'} {l} {l'} {s} {r} h z x =
    subst (λ (f : Refusal). AnswersBy f n cs r t t' l l')
    (sym (or_else_second a b (sym h.number ∙ z))) x
