-- The check of bytes by the check of their plan; refusals 1 to 5 and 16, which leave table and list untouched. Assumes
-- nothing.
use mathlib.Core.Path.{◌≡◌, refl, sym, ap, ◌∙◌, subst}
use mathlib.Core.List.{List}
use Prim.Native.Nat.{ℕ}
use lib.ListN.{length}
use Rattle.plan_format.specs.Refusal.{Refusal, given}
use Rattle.plan_format.specs.Sound.{rules_refusal}
use Rattle.plan_format.specs.Stored.{scanned, plan_in, plan_refusal, Tells}
use Rattle.plan_format.specs.Told.{number_of, Refused}
use Rattle.plan_format.specs.declared.Told.{Told}
use Rattle.plan_format.proofs.Judged.{other_given, or_else_first}
use Rattle.plan_format.proofs.Telling.{told, tells_as}
use Rattle.stored_numbers.proofs.Fields.{reason_given}
use Rattle.plan_order.specs.Check.{Outcome, untouched, outcome, table_left, list_left, left_in, Says, CheckSays}
use Rattle.plan_order.specs.Check.{PlanCheckSays}
use Rattle.plan_order.proofs.Outcomes.{plan_refused, outcome_of_plan}

-- 1 to 5 and 16
pub not_read : (bs : List ℕ) (r : Told) (t l : List ℕ) → Tells (scanned bs).fault 0 r → (r.number ≡ 0 → ⊥) →
    CheckSays bs r t t l l
unfolding CheckSays plan_refusal outcome table_left list_left left_in
not_read bs r t l h z =
    let f = (scanned bs).fault in
    let g = other_given f (λ e. z (h.number ∙ e)) in
    let same : plan_refusal bs ≡ f = or_else_first f (rules_refusal (plan_in bs)) g in
    let outcome_is = plan_refused bs (length t) (length l) (ap given same ∙ g)
    ∙ ap (λ (x : Refusal). outcome x untouched) same in
    subst (λ (o : Outcome). Says o 0 (plan_in bs) r t t l l) (sym outcome_is)
    (record { tells = h; table_holds = refl; list_holds = refl })

-- bytes that the reader takes; the check has no answer of its own
pub read_says : (bs : List ℕ) (r : Told) (t x l y : List ℕ) → (scanned bs).fault.number ≡ 0 →
    PlanCheckSays (plan_in bs) r t x l y →
    CheckSays bs (told r.number r.place) t x l y
unfolding CheckSays PlanCheckSays
read_says bs r t x l y clean s =
    subst (λ (o : Outcome). Says o 0 (plan_in bs) (told r.number r.place) t x l y)
    (sym (outcome_of_plan bs (length t) (length l) clean))
    (record {
      tells = tells_as s.tells.number s.tells.place;
      table_holds = s.table_holds;
      list_holds = s.list_holds;
    })

-- a refusal is given
pub refusal_given : (e : Refused) → number_of e.reason ≡ 0 → ⊥
refusal_given e = reason_given e.reason
