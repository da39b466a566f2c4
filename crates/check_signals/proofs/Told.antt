-- A refusal and the answer that is told where there is none. Assumes nothing.
use mathlib.Core.Path.{◌≡◌, sym, ◌∙◌}
use Prim.Native.Nat.{ℕ}
use Rattle.plan_format.specs.Refusal.{Refusal}
use Rattle.plan_format.specs.Stored.{Tells}
use Rattle.plan_format.specs.declared.Told.{Told}
use Rattle.plan_format.proofs.Judged.{zero_not_given, other_given}

module _ {f : Refusal} {a : ℕ} {r : Told} (h : Tells f a r) where
  -- beside a refusal there is no answer, whatever it would be
  pub refused_alike : (r.number ≡ 0 → ⊥) → {b : ℕ} → Tells f b r
  refused_alike z =
      let given_is = other_given f (λ e. z (h.number ∙ e)) in
      record { number = h.number; place = h.place; answer_is = rw given_is (rw given_is at h.answer_is) }

  module _ (z : r.number ≡ 0) where
    pub answer_told : r.answer ≡ a
    answer_told = rw (zero_not_given f (sym h.number ∙ z)) at h.answer_is

    -- with another answer in place of this one
    pub passed_with : {b x : ℕ} → x ≡ b → Tells f b (record { number = r.number; place = r.place; answer = x })
    passed_with e = record {
      number = h.number;
      place = h.place;
      answer_is = rw (zero_not_given f (sym h.number ∙ z)) e;
    }
