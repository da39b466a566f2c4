-- What is told and stored of an advice is read as it was handed back. Assumes nothing.
use mathlib.Core.Path.{◌≡◌, refl, sym, ap, ap₂, ◌∙◌, subst}
use mathlib.Core.List.{List, [], ◌∷◌}
use Prim.Native.Nat.{ℕ}
use native.Mathlib.Omega.{arith}
use Rattle.plan_format.specs.declared.Told.{Told}
use Rattle.plan_suggest.specs.declared.Advice.{Advice}
use Rattle.plan_suggest.specs.declared.Advice.TheVariants.{NoneNeeded, Wait, NoneWouldHelp}
use Rattle.plan_suggest.specs.Numbers.{number_of, semaphore_of, value_of, wait_numbers}
use Rattle.plan_suggest.specs.Promise.{SuggestRight}
use Rattle.c_told.specs.Told.{told_of}
use Rattle.c_suggest.specs.Handed.{SuggestHanded}

-- an advice with number 1 is a wait, and any other has no numbers but 0
a_wait : (a : Advice) → number_of a ≡ 1 → (s v : ℕ) × (a ≡ Wait s v) × (wait_numbers a ≡ s ∷ v ∷ [])
unfolding number_of semaphore_of value_of wait_numbers
a_wait NoneNeeded e = absurd (omega arith)
a_wait (Wait s v) e = (s, v, refl, refl)
a_wait NoneWouldHelp e = absurd (omega arith)

no_wait : (a : Advice) → (number_of a ≡ 1 → ⊥) → wait_numbers a ≡ 0 ∷ 0 ∷ []
unfolding number_of semaphore_of value_of wait_numbers
no_wait NoneNeeded h = refl
no_wait (Wait s v) h = absurd (h refl)
no_wait NoneWouldHelp h = refl

module _ (bs : List ℕ) (q b : ℕ) (told t tx l lx : List ℕ) (n i x s v : ℕ) (a : Advice) where
  abbrev answer : (x : ℕ) → Told
  answer x = record { number = n; place = i; answer = x }

  pub handed : SuggestRight bs q b (answer (number_of a)) a t tx l lx → told_of told ≡ answer x → x ≡ number_of a →
      s ≡ semaphore_of a → v ≡ value_of a → SuggestHanded bs q b told (s ∷ v ∷ []) t tx l lx
  unfolding wait_numbers
  handed right e f g h =
      let stored : s ∷ v ∷ [] ≡ wait_numbers a = ap₂ (λ (y z : ℕ). y ∷ z ∷ []) g h in
      let number : (told_of told).answer ≡ number_of a = ap (λ (z : Told). z.answer) e ∙ f in
      record {
        advice = a;
        right = subst (λ (z : Told). SuggestRight bs q b z a t tx l lx) (sym (e ∙ ap answer f)) right;
        wait_is = stored;
        given = λ one. let w = a_wait a (sym number ∙ one) in (w.0, w.1, w.2, stored ∙ w.3);
        zeros = λ other. stored ∙ no_wait a (λ one. other (number ∙ one));
      }
