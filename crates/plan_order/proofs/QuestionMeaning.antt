-- The reuse question: the plan first, then the queue, then the buffer, then the verdict; what each leaves. Assumes
-- nothing.
use mathlib.Core.Path.{◌≡◌, refl, sym, ◌∙◌, subst}
use mathlib.Core.Bool.{true}
use mathlib.Core.Logic.{◌↔◌}
use mathlib.Core.List.{List, []}
use Prim.Native.Nat.{ℕ, ◌≤◌, ◌<◌}
use native.Mathlib.Omega.{arith}
use lib.Dec.{leb, eqb}
use lib.ListN.{length}
use borrow.Author.Tests.{leb-true, leb-false, le-leb, lt-leb, eqb-true, eqb-false}
use Rattle.base_lists.specs.Lists.{member, all}
use Rattle.base_lists.proofs.Tests.{by_cases}
use Rattle.plan_format.specs.Plan.{Plan, queues, plan_of}
use Rattle.plan_format.specs.Refusal.{Refusal, refusal, none_given, given, or_refusal}
use Rattle.plan_format.specs.RefusalNumbers.{NoneOr, reuse_numbers}
use Rattle.plan_format.specs.Grammar.{bytes, scan, refused, field_number, read_field, read_by, ended}
use Rattle.plan_format.specs.Form.{first_form, form_by, is_second, plan_grammar, scanned_by}
use Rattle.plan_format.specs.Stored.{scanned, plan_in, plan_refusal}
use Rattle.plan_format.specs.Meaning.{Refuses}
use Rattle.plan_format.specs.declared.Told.{Told}
use Rattle.plan_format.proofs.Judged.{zero_not_given, other_given}
use Rattle.plan_order.specs.Check.{untouched, rows_and_run, outcome, or_then, check_outcome}
use Rattle.plan_order.specs.Reuse.{number_of, verdict, question_refusal, reuse_outcome, ReuseSays}
use Rattle.plan_order.specs.Meaning.{VerdictTable, QuestionMeans, LeftMeans}
use Rattle.plan_order.specs.Promise.{Safe, unrefused}
use Rattle.plan_order.proofs.Asking.{plan_first, gives_asked, asked_own, asked_safe, asked_number}
use Rattle.plan_order.proofs.Asking.{asked_leaves_by, asked_left}
use Rattle.plan_order.proofs.CheckMeaning.{check_means}
use Rattle.plan_order.proofs.VerdictMeaning.{one_use, number_most, verdict_table}

-- no bytes, and a queue that they do not have: the plan is refused
unread_first : reuse_outcome [] 0 0 0 0 ≡ outcome (refusal 1 0) untouched
unfolding reuse_outcome question_refusal check_outcome or_then outcome plan_refusal or_refusal given none_given refusal
    queues plan_in plan_of scanned scanned_by bytes scan refused read_by read_field field_number ended form_by
    is_second first_form
    plan_grammar
unread_first = refl

-- a question on a plan that passes leaves rows and run
rows_left : (bs : List ℕ) (q b t l : ℕ) → (check_outcome bs t l).refusal.number ≡ 0 →
    (reuse_outcome bs q b t l).leaves ≡ rows_and_run
unfolding reuse_outcome or_then outcome
rows_left bs q b t l z = rw (zero_not_given (check_outcome bs t l).refusal z)

-- queues are named from 0
queue_past : question_refusal one_use 1 0 ≡ refusal 12 1
unfolding one_use question_refusal queues or_refusal given none_given refusal
queue_past = refl

-- ---- the question's own refusals
module _ (p : Plan) (q b : ℕ) where
  twelve_is : queues p ≤ q → Refuses (question_refusal p q b) 12 q
  unfolding question_refusal or_refusal refusal given
  twelve_is h = rw (le-leb (queues p) q h) (refl, refl)

  thirteen_is : q < queues p → length p.sizes ≤ b → Refuses (question_refusal p q b) 13 b
  unfolding question_refusal or_refusal refusal given none_given
  thirteen_is h g = rw (lt-leb (queues p) q h, le-leb (length p.sizes) b g) (refl, refl)

  none_is : q < queues p → b < length p.sizes → Refuses (question_refusal p q b) 0 0
  unfolding question_refusal or_refusal refusal given none_given
  none_is h g = rw (lt-leb (queues p) q h, lt-leb (length p.sizes) b g) (refl, refl)

  data OwnCase (n : ℕ) : Type 0 where
    queue_case : n ≡ 12 → queues p ≤ q → OwnCase n
    buffer_case : n ≡ 13 → q < queues p → length p.sizes ≤ b → OwnCase n
    answer_case : n ≡ 0 → q < queues p → b < length p.sizes → OwnCase n

  own_case : OwnCase (question_refusal p q b).number
  own_case =
      by_cases (leb (queues p) q) (λ u. let h = leb-true (queues p) q u in queue_case (twelve_is h).0 h)
      (λ u. let h = leb-false (queues p) q u in
      by_cases (leb (length p.sizes) b)
      (λ v. let g = leb-true (length p.sizes) b v in buffer_case (thirteen_is h g).0 h g)
      (λ v. let g = leb-false (length p.sizes) b v in answer_case (none_is h g).0 h g))

  own_number : {n : ℕ} → OwnCase n → NoneOr reuse_numbers n
  unfolding member
  own_number (queue_case e h) = rw e
  own_number (buffer_case e h g) = rw e
  own_number (answer_case e h g) = rw e

  twelve_if : {n : ℕ} → OwnCase n → n ≡ 12 → queues p ≤ q
  twelve_if (queue_case k h) e = h
  twelve_if (buffer_case k h g) e = absurd (omega arith)
  twelve_if (answer_case k h g) e = absurd (omega arith)

  thirteen_if : {n : ℕ} → OwnCase n → n ≡ 13 → (q < queues p) × (length p.sizes ≤ b)
  thirteen_if (queue_case k h) e = absurd (omega arith)
  thirteen_if (buffer_case k h g) e = (h, g)
  thirteen_if (answer_case k h g) e = absurd (omega arith)

module _ (bs : List ℕ) (q b t l : ℕ) where
  abbrev plan : Plan
  plan = plan_in bs

  abbrev own : Refusal
  own = question_refusal plan q b

  pub question_means : QuestionMeans bs q b t l (reuse_outcome bs q b t l)
  unfolding reuse_outcome member all
  question_means = record {
    check = check_means bs t l;
    plan_first = plan_first bs t l own;
    no_queue = λ z h. gives_asked bs t l own 12 q z (twelve_is plan q b h);
    no_buffer = λ z h g. gives_asked bs t l own 13 b z (thirteen_is plan q b h g);
    answered = λ z h g. gives_asked bs t l own 0 0 z (none_is plan q b h g);
    twelve = (
      (λ e. let w = asked_own bs t l own 12 refl e in (w.0, twelve_if plan q b (own_case plan q b) w.1)),
      (λ w. (gives_asked bs t l own 12 q w.0 (twelve_is plan q b w.1)).0.0),
    );
    thirteen = (
      (λ e. let w = asked_own bs t l own 13 refl e in let v = thirteen_if plan q b (own_case plan q b) w.1 in
          (w.0, v.0, v.1)),
      (λ w. (gives_asked bs t l own 13 b w.0 (thirteen_is plan q b w.1 w.2)).0.0),
    );
    only = asked_number bs t l own reuse_numbers (own_number plan q b (own_case plan q b));
    leaves = asked_leaves_by bs t l own reuse_numbers (own_number plan q b (own_case plan q b)) refl;
  }

  -- rows and run are left exactly where the plan passes
  pub question_passed : ((reuse_outcome bs q b t l).leaves ≡ rows_and_run) ↔ ((unrefused bs t l ≡ true) × Safe plan)
  unfolding reuse_outcome
  question_passed = asked_safe bs t l own

  -- an answer is given on a plan that passes, to a queue and a buffer that it has
  pub question_answered : (reuse_outcome bs q b t l).refusal.number ≡ 0 →
      ((check_outcome bs t l).refusal.number ≡ 0) × (q < queues plan) × (b < length plan.sizes)
  unfolding reuse_outcome member
  question_answered e = let w = asked_own bs t l own 0 refl e in let v = answer_if (own_case plan q b) w.1 in
      (w.0, v.0, v.1)
    where
      answer_if : {n : ℕ} → OwnCase plan q b n → n ≡ 0 → (q < queues plan) × (b < length plan.sizes)
      answer_if (queue_case k h) e = absurd (omega arith)
      answer_if (buffer_case k h g) e = absurd (omega arith)
      answer_if (answer_case k h g) e = (h, g)

module _ (bs : List ℕ) (q b : ℕ) (r : Told) (t x l y : List ℕ) (s : ReuseSays bs q b r t x l y) where
  pub question_left : LeftMeans (plan_in bs) (reuse_outcome bs q b (length t) (length l)).leaves t x l y
  unfolding ReuseSays reuse_outcome
  question_left = asked_left bs (question_refusal (plan_in bs) q b) (number_of (verdict (plan_in bs) q b)) r t x l y s

  -- an answer is the number of the verdict
  pub question_number : r.number ≡ 0 → r.answer ≡ number_of (verdict (plan_in bs) q b)
  unfolding ReuseSays
  question_number z =
      let f = (reuse_outcome bs q b (length t) (length l)).refusal in
      s.tells.answer_is ∙ rw (zero_not_given f (sym s.tells.number ∙ z))

  -- of the one whose line of the table holds
  pub question_answer : r.number ≡ 0 → VerdictTable (plan_in bs) q b r.answer
  question_answer z = subst (VerdictTable (plan_in bs) q b) (sym (question_number z)) (verdict_table (plan_in bs) q b)

  -- and 0 beside a refusal
  pub question_no_answer : (r.number ≡ 0 → ⊥) → r.answer ≡ 0
  unfolding ReuseSays
  question_no_answer z =
      let f = (reuse_outcome bs q b (length t) (length l)).refusal in
      s.tells.answer_is ∙ rw (other_given f (λ e. z (s.tells.number ∙ e)))

  pub question_most : r.answer ≤ 3
  question_most =
      by_cases (eqb r.number 0)
      (λ t. let e = question_number (eqb-true r.number 0 t) in
      omega (arith, e, number_most (verdict (plan_in bs) q b)))
      (λ f. let e = question_no_answer (eqb-false r.number 0 f) in omega arith)
