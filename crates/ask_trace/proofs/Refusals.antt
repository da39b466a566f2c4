-- What each refusal of the code is by definition: the check's, then the room's, then the trace's. Assumes nothing.
use mathlib.Core.Path.{◌≡◌, refl, sym, subst}
use mathlib.Core.Bool.{Bool, true, false, cond}
use mathlib.Core.List.{List}
use Prim.Native.Nat.{ℕ, ◌≤◌, ◌<◌}
use Rattle.plan_format.specs.Sizes.{state_size}
use Rattle.plan_format.specs.Refusal.{Refusal, refusal, given, or_refusal}
use Rattle.plan_format.specs.Stored.{Tells}
use Rattle.plan_format.specs.Meaning.{Refuses}
use Rattle.plan_format.specs.declared.Told.{Told}
use Rattle.plan_format.proofs.Judged.{zero_not_given, other_given}
use Rattle.plan_trace.specs.Trace.{trace_formed}
use Rattle.plan_trace.specs.Question.{own_refusal}
use Rattle.plan_trace.proofs.QuestionMeaning.{formed_gives, not_formed, short_is, ill_is, none_is}
use Rattle.ask_trace.specs.Answer.{first_refusal}

-- nothing to answer
no_answer : (b : Bool) → ◌≡◌ {A = ℕ} 0 (cond b 0 0)
no_answer true = refl
no_answer false = refl

tells_of : (f : Refusal) (n i : ℕ) (r : Told) → Refuses f n i → r ≡ record { number = n; place = i; answer = 0 } →
    Tells f 0 r
tells_of f n i r w e =
    subst (Tells f 0) (sym e) (record { number = sym w.0; place = sym w.1; answer_is = no_answer (given f) })

module _ (c : Told) (ts : List ℕ) (s : ℕ) where
  pub check_first : (c.number ≡ 0 → ⊥) → first_refusal c ts s ≡ refusal c.number c.place
  unfolding first_refusal or_refusal refusal
  check_first h = rw (other_given (refusal c.number c.place) h)

  pub then_own : c.number ≡ 0 → first_refusal c ts s ≡ own_refusal ts s
  unfolding first_refusal or_refusal refusal
  then_own z = rw (zero_not_given (refusal c.number c.place) z)

  pub check_tells : (c.number ≡ 0 → ⊥) → Tells (first_refusal c ts s) 0
      (record { number = c.number; place = c.place; answer = 0 })
  unfolding refusal
  check_tells h = rw (check_first h) (tells_of (refusal c.number c.place) c.number c.place _ (refl, refl)
      refl)

  module _ (z : c.number ≡ 0) where
    pub short_tells : (r : Told) → s < state_size → r ≡ record { number = 9; place = state_size; answer = 0 } →
        Tells (first_refusal c ts s) 0 r
    short_tells r l e = rw (then_own z) (tells_of (own_refusal ts s) 9 state_size r (short_is ts s l) e)

    module _ (room : state_size ≤ s) where
      pub ill_tells : (r : Told) → trace_formed ts ≡ false → r ≡ record { number = 22; place = 0; answer = 0 } →
          Tells (first_refusal c ts s) 0 r
      ill_tells r f e =
          rw (then_own z) (tells_of (own_refusal ts s) 22 0 r (ill_is ts s room (not_formed ts f)) e)

      pub none_tells : (r : Told) → trace_formed ts ≡ true → r ≡ record { number = 0; place = 0; answer = 0 } →
          Tells (first_refusal c ts s) 0 r
      none_tells r t e = rw (then_own z) (tells_of (own_refusal ts s) 0 0 r (none_is ts s room (formed_gives ts t)) e)
