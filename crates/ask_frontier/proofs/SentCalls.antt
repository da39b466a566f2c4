-- What the code hands back where it returns, from what the check tells and leaves. Assumes nothing.
use mathlib.Core.Path.{◌≡◌, refl, sym, ap, ◌∙◌, subst}
use mathlib.Core.Bool.{Bool, true, false, cond}
use mathlib.Core.Logic.{◌⊎◌}
use mathlib.Core.List.{List, []}
use Prim.Native.Nat.{ℕ, ◌*◌, ◌≤◌, ◌<◌, min}
use native.Mathlib.Omega.{arith}
use lib.Dec.{eqb}
use borrow.Author.Tests.{eqb-true, eqb-false}
use Rattle.base_lists.proofs.Tests.{by_cases}
use Rattle.frontier.specs.Frontiers.{pack, gathered}
use Rattle.frontier.specs.declared.Frontier.{Frontier}
use Rattle.plan_format.specs.Plan.{Plan, count}
use Rattle.plan_format.specs.Refusal.{given}
use Rattle.plan_format.specs.Stored.{plan_in}
use Rattle.plan_format.specs.Meaning.{Refuses}
use Rattle.plan_format.proofs.Judged.{zero_not_given, other_given}
use Rattle.plan_order.specs.Promise.{Checked}
use Rattle.check_plan.specs.Counting.{outcome_told}
use Rattle.check_plan.specs.declared.Counted.{Counted}
use Rattle.check_plan.specs.declared.PlanCounts.{PlanCounts}
use Rattle.check_plan.specs.declared.Opened.{Opened}
use Rattle.check_plan.specs.Opening.{Lent, OpenedPlan, Handed}
use Rattle.check_plan.specs.declared.PlanColumns.{PlanColumns}
use Rattle.ask_frontier.specs.declared.Sent.{Sent}
use Rattle.ask_frontier.specs.Sent.{cut_to, sent_refusal, FrontierSays}
use Rattle.ask_frontier.specs.SentMeaning.{FrontierRight}
use Rattle.ask_frontier.specs.SentWalk.{SentGiven, SentTells, FrontierGiven, row_in}
use Rattle.ask_frontier.proofs.SentOutcome.{no_operation, no_capacity, none_refused}
use Rattle.ask_frontier.proofs.SentQuestion.{plan_said, asked_said, frontier_right}
use Rattle.ask_frontier.proofs.SentWalk.{sent_found}

-- a refusal with the empty frontier
abbrev pub refused_as : (number place : ℕ) → Sent
refused_as n i = record { number = n; place = i; frontier = pack [] false }

-- ---- after the check
module _ {bs t x l y : List ℕ} (k : Counted) (j c : ℕ)
    (checked : Checked bs (outcome_told k.outcome) t x l y) where
  pub plan_refused : (r : Sent) → ((outcome_told k.outcome).number ≡ 0 → ⊥) →
      r ≡ refused_as (outcome_told k.outcome).number (outcome_told k.outcome).place →
      FrontierRight bs j c r t x l y
  plan_refused r h e =
      frontier_right bs j c r t x l y (subst (λ (a : Sent). FrontierSays bs j c a t x l y) (sym e)
      (plan_said bs j c t x l y (outcome_told k.outcome).number (outcome_told k.outcome).place checked.says h))

  pub then_answered : (r : Sent) → (outcome_told k.outcome).number ≡ 0 → SentTells (plan_in bs) j c r →
      FrontierRight bs j c r t x l y
  then_answered r z a =
      frontier_right bs j c r t x l y (asked_said bs j c t x l y (outcome_told k.outcome).number
      (outcome_told k.outcome).place checked.says z a)

-- a plan that passes, opened
pub sent_given : {p : Plan} {o : Opened} {c : Lent} {table : List ℕ} → OpenedPlan p o c table →
    SentGiven p o.counted.counts c.head table
sent_given opened = record {
  sound = opened.sound;
  queues_are = opened.queues_are;
  operations_are = opened.operations_are;
  head_shown = opened.read.head_shown;
  rows_shown = opened.rows_shown;
}

-- ---- the question's own refusals, and its answer
module _ {p : Plan} {k : PlanCounts} {head table : List ℕ} (opened : SentGiven p k head table) (j c : ℕ) where
  no_answer : (b : Bool) → ◌≡◌ {A = ℕ} 0 (cond b 0 0)
  no_answer true = refl
  no_answer false = refl

  asked_refused : {r : Sent} (n i : ℕ) → (n ≡ 0 → ⊥) → Refuses (sent_refusal p j c) n i → r ≡ refused_as n i →
      SentTells p j c r
  asked_refused n i h f e =
      subst (SentTells p j c) (sym e)
      (record {
        tells = record { number = sym f.0; place = sym f.1; answer_is = no_answer (given (sent_refusal p j c)) };
        frontier_is = rw (other_given (sent_refusal p j c) (λ q. h (sym f.0 ∙ q)));
      })

  pub operation_refused : {r : Sent} → k.operations ≤ j → r ≡ refused_as 21 j → SentTells p j c r
  operation_refused h e =
      asked_refused 21 j (λ q. omega arith) (no_operation p j c (omega (arith, opened.operations_are))) e

  module _ (inside : j < k.operations) where
    below : j < count p
    below = omega (arith, opened.operations_are)

    pub capacity_refused : {r : Sent} → (c < 1) ⊎ (16 < c) → r ≡ refused_as 15 0 → SentTells p j c r
    capacity_refused w e = asked_refused 15 0 (λ q. omega arith) (no_capacity p j c below w) e

    pub frontier_sent : 1 ≤ c → c ≤ 16 → {f : Frontier} {many : ℕ} → many ≡ min k.queues 16 →
        f ≡ cut_to c (gathered (row_in head table (16 * j) many 0)) →
        SentTells p j c (record { number = 0; place = 0; frontier = f })
    frontier_sent low high {f} {many} many_is is =
        let r = none_refused p j c below low high in
        let all : many ≡ k.queues = omega (arith, many_is, opened.queues_are, opened.sound.few_queues) in
        let e : f ≡ cut_to c (gathered (row_in head table (16 * j) k.queues 0)) =
        is ∙ ap (λ (n : ℕ). cut_to c (gathered (row_in head table (16 * j) n 0))) all in
        record {
          tells =
              record { number = sym r.0; place = sym r.1; answer_is = no_answer (given (sent_refusal p j c)) };
          frontier_is = rw (zero_not_given (sent_refusal p j c) r.0) (e ∙ sent_found opened j below c);
        }

-- ---- an opened plan
pub asked_of : {bs t x l y : List ℕ} (j c : ℕ) {o : Opened} {before : Lent} {columns : PlanColumns} →
    Handed bs o before columns t x l y → {r : Sent} → FrontierGiven j c o.counted columns.head x r →
    FrontierRight bs j c r t x l y
asked_of j c {o} h {r} a =
    by_cases (eqb (outcome_told o.counted.outcome).number 0)
    (λ e. let passed = eqb-true (outcome_told o.counted.outcome).number 0 e in
    then_answered o.counted j c h.checked r passed (a.answered passed _ (sent_given (h.opened passed))))
    (λ e. let bad = eqb-false (outcome_told o.counted.outcome).number 0 e in
    plan_refused o.counted j c h.checked r bad (a.refused bad))
