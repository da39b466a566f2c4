-- What is advised, and when no signal frees: each case by the table of verdicts and the first signal. Assumes nothing.
use mathlib.Core.Path.{◌≡◌, refl, sym, ap, ◌∙◌, subst₂}
use mathlib.Core.Logic.{inl, inr}
use mathlib.Core.Option.{Option, none, some}
use Prim.Native.Nat.{ℕ}
use native.Mathlib.Omega.{arith}
use Rattle.base_lists.proofs.Tests.{either}
use Rattle.plan_format.specs.Refusal.{Refusal, refusal, none_given}
use Rattle.plan_format.specs.Plan.{Point, Plan}
use Rattle.plan_order.specs.Reuse.{verdict, number_of as verdict_number}
use Rattle.plan_order.specs.Meaning.{When}
use Rattle.plan_order.specs.declared.Verdict.{Verdict}
use Rattle.plan_order.specs.declared.Verdict.TheVariants.{Fresh, Reusable, Held, NotOrdered}
use Rattle.plan_order.proofs.VerdictMeaning.{verdict_means}
use Rattle.plan_suggest.specs.declared.Advice.{Advice}
use Rattle.plan_suggest.specs.declared.Advice.TheVariants.{NoneNeeded, Wait, NoneWouldHelp}
use Rattle.plan_suggest.specs.Numbers.{number_of, semaphore_of, value_of}
use Rattle.plan_suggest.specs.Suggest.{wait_for, first_freeing, advice_by, advice, nineteen}
use Rattle.plan_suggest.specs.Meaning.{FirstFreeing, NoneFrees, AdviceMeans}
use Rattle.plan_suggest.proofs.FirstFreeing.{first_gives, first_has, none_gives, none_has}

-- ---- no two advices have one number, and no two verdicts
other_advice : {A : Type 0} (a c : Advice) → a ≡ c → (number_of a ≡ number_of c → ⊥) → A
other_advice a c e h = absurd (h (ap number_of e))

module _ (p : Plan) (q b : ℕ) where
  other_verdict : {A : Type 0} (u v : Verdict) → verdict p q b ≡ u → When p q b v →
      (verdict_number u ≡ verdict_number v → ⊥) → A
  other_verdict u v e w h = absurd (h (ap verdict_number (sym e ∙ (verdict_means p q b v).1 w)))

  -- ---- refusal 19
  pub data SignalCase (f : Refusal) : Type 0 where
    none_case : When p q b NotOrdered → NoneFrees p q b → f ≡ refusal 19 b → SignalCase f
    other_case : (When p q b NotOrdered → NoneFrees p q b → ⊥) → f ≡ none_given → SignalCase f

  pub signal_case : SignalCase (nineteen (verdict p q b) (first_freeing p q b) b)
  unfolding nineteen verdict_number
  signal_case = of (verdict p q b) (first_freeing p q b) refl refl
    where
      of : (v : Verdict) (k : Option ℕ) → verdict p q b ≡ v → first_freeing p q b ≡ k → SignalCase (nineteen v k b)
      of Fresh k e f = other_case (λ w n. other_verdict Fresh NotOrdered e w (λ z. omega arith)) refl
      of Reusable k e f = other_case (λ w n. other_verdict Reusable NotOrdered e w (λ z. omega arith)) refl
      of Held k e f = other_case (λ w n. other_verdict Held NotOrdered e w (λ z. omega arith)) refl
      of NotOrdered none e f = none_case ((verdict_means p q b NotOrdered).0 e) (none_gives p q b f) refl
      of NotOrdered (some k) e f =
          other_case (λ w n. absurd (let z : some k ≡ none = sym f ∙ none_has p q b n in
          let y : ◌≡◌ {A = ℕ} 0 1 = cc in omega arith)) refl

  -- ---- each case of an advice that is given
  pub advice_means : (nineteen (verdict p q b) (first_freeing p q b) b).number ≡ 0 → AdviceMeans p q b (advice p q b)
  unfolding advice nineteen advice_by verdict_number number_of semaphore_of value_of refusal
  advice_means = of (verdict p q b) (first_freeing p q b) refl refl
    where
      of : (v : Verdict) (k : Option ℕ) → verdict p q b ≡ v → first_freeing p q b ≡ k → (nineteen v k b).number ≡ 0 →
          AdviceMeans p q b (advice_by p v k)
      of Fresh k e f z = record {
        none_needed = ((λ a. inl ((verdict_means p q b Fresh).0 e)), (λ w. refl));
        wait = λ s v. (
          (λ a. other_advice NoneNeeded (Wait s v) a (λ z. omega arith)),
          (λ w. other_verdict Fresh NotOrdered e w.0 (λ z. omega arith)),
        );
        none_would_help = (
          (λ a. other_advice NoneNeeded NoneWouldHelp a (λ z. omega arith)),
          (λ w. other_verdict Fresh Held e w (λ z. omega arith)),
        );
      }
      of Reusable k e f z = record {
        none_needed = ((λ a. inr ((verdict_means p q b Reusable).0 e)), (λ w. refl));
        wait = λ s v. (
          (λ a. other_advice NoneNeeded (Wait s v) a (λ z. omega arith)),
          (λ w. other_verdict Reusable NotOrdered e w.0 (λ z. omega arith)),
        );
        none_would_help = (
          (λ a. other_advice NoneNeeded NoneWouldHelp a (λ z. omega arith)),
          (λ w. other_verdict Reusable Held e w (λ z. omega arith)),
        );
      }
      of Held k e f z = record {
        none_needed = (
          (λ a. other_advice NoneWouldHelp NoneNeeded a (λ z. omega arith)),
          (λ w. either w (λ u. other_verdict Held Fresh e u (λ z. omega arith))
              (λ u. other_verdict Held Reusable e u (λ z. omega arith))),
        );
        wait = λ s v. (
          (λ a. other_advice NoneWouldHelp (Wait s v) a (λ z. omega arith)),
          (λ w. other_verdict Held NotOrdered e w.0 (λ z. omega arith)),
        );
        none_would_help = ((λ a. (verdict_means p q b Held).0 e), (λ w. refl));
      }
      of NotOrdered none e f z = absurd (omega arith)
      of NotOrdered (some k) e f z =
          let x = wait_for p k in
          let here = Wait x.semaphore x.value in
          record {
            none_needed = (
              (λ a. other_advice here NoneNeeded a (λ z. omega arith)),
              (λ w. either w (λ u. other_verdict NotOrdered Fresh e u (λ z. omega arith))
                  (λ u. other_verdict NotOrdered Reusable e u (λ z. omega arith))),
            );
            wait = λ s v. (
              (λ a. (
                (verdict_means p q b NotOrdered).0 e,
                subst₂ (λ (y z : ℕ). FirstFreeing p q b y z)
                    (ap semaphore_of a) (ap value_of a) (first_gives p q b k f),
              )),
              (λ w. let g = first_has p q b s v w.1 in
                  let same : k ≡ g.0 = let z : some k ≡ some g.0 = sym f ∙ g.1 in cc in
                  let point : x ≡ record { semaphore = s; value = v } = ap (wait_for p) same ∙ g.2 in
                  ap (λ (y : Point). Wait y.semaphore y.value) point),
            );
            none_would_help = (
              (λ a. other_advice here NoneWouldHelp a (λ z. omega arith)),
              (λ w. other_verdict NotOrdered Held e w (λ z. omega arith)),
            );
          }
