-- A refusal as it is handed back, with no answer beside it. Assumes nothing.
use mathlib.Core.Path.{◌≡◌, refl, sym, ap, ◌∙◌}
use mathlib.Core.Bool.{Bool, true, false, cond}
use Prim.Native.Nat.{ℕ}
use Rattle.plan_format.specs.Refusal.{Refusal, refusal, given}
use Rattle.plan_format.specs.Stored.{Tells}
use Rattle.plan_format.specs.declared.Told.{Told}

abbrev pub told : (number place : ℕ) → Told
told n i = record { number = n; place = i; answer = 0 }

no_answer : (b : Bool) → ◌≡◌ {A = ℕ} 0 (cond b 0 0)
no_answer true = refl
no_answer false = refl

pub tells_answerless : {f : Refusal} {r : Told} → r.answer ≡ 0 → r.number ≡ f.number →
    r.place ≡ f.place → Tells f 0 r
tells_answerless {f} none number place =
    record { number = number; place = place; answer_is = none ∙ no_answer (given f) }

pub tells_as : {f : Refusal} {n i : ℕ} → n ≡ f.number → i ≡ f.place → Tells f 0 (told n i)
tells_as number place = tells_answerless refl number place

pub tells : {f : Refusal} {n i : ℕ} → f ≡ refusal n i → Tells f 0 (told n i)
unfolding refusal
tells e = tells_as (ap (λ (g : Refusal). g.number) (sym e)) (ap (λ (g : Refusal). g.place) (sym e))

-- what tells a refusal alone has no answer
pub answer_none : {f : Refusal} {r : Told} → Tells f 0 r → r.answer ≡ 0
answer_none {f} h = h.answer_is ∙ sym (no_answer (given f))
