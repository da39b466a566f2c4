-- Refusals 7 and 8 by quantifiers: each is given exactly if its signal or wait is the first that breaks a rule. Assumes
-- nothing.
use mathlib.Core.Path.{◌≡◌, refl, sym, ap, ◌∙◌, subst}
use mathlib.Core.Logic.{inl, inr, ◌↔◌}
use mathlib.Core.List.{[], ◌∷◌}
use Prim.Native.Nat.{ℕ}
use native.Mathlib.Omega.{arith}
use lib.Dec.{ltb}
use borrow.Author.Tests.{ltb-true, ltb-false}
use Rattle.base_lists.specs.Lists.{member}
use Rattle.base_lists.proofs.Tests.{by_cases}
use Rattle.plan_format.specs.Refusal.{Refusal, refusal, none_given, or_refusal}
use Rattle.plan_format.specs.RefusalNumbers.{NoneOr, rule_numbers}
use Rattle.plan_format.specs.Plan.{Plan}
use Rattle.plan_format.specs.Sound.{signals_refusal, waits_refusal, rules_refusal, WaitsAboveZero}
use Rattle.plan_format.specs.Meaning.{Refuses, Earlier, NotRising, SignalsGood, TooHigh}
use Rattle.plan_format.specs.Meaning.{UnmetWait, RulesMean}
use Rattle.plan_format.proofs.Judged.{or_else_first, or_else_second, refusal_given}
use Rattle.plan_format.proofs.RefusalNumbers.{one_is}
use Rattle.plan_format.proofs.RulesFirst.{SignalsSay, signals_good, signals_seven, WaitsSay}
use Rattle.plan_format.proofs.RulesFirst.{waits_good, waits_eight, plan_signals_say, plan_waits_say}

-- a refusal by its number and place
refuses : (f : Refusal) (n i : ℕ) → f ≡ refusal n i → Refuses f n i
unfolding refusal
refuses f n i e = (ap (λ (z : Refusal). z.number) e, ap (λ (z : Refusal). z.place) e)

module _ (p : Plan) where
  -- ---- at most one signal is the first that does not rise
  not_earlier : (j l i k : ℕ) → NotRising p j l → NotRising p i k → Earlier j l i k → ⊥
  not_earlier j l i k a b e = a.not_rising (b.first j l a.signal e)

  first_one : (j l i k : ℕ) → NotRising p j l → NotRising p i k → (j ≡ i) × (l ≡ k)
  first_one j l i k a b =
      by_cases (ltb j i) (λ t. absurd (not_earlier j l i k a b (inl (ltb-true j i t))))
      (λ f. by_cases (ltb i j) (λ t. absurd (not_earlier i k j l b a (inl (ltb-true i j t))))
      (λ g. let same : j ≡ i = omega (arith, ltb-false j i f, ltb-false i j g) in
      by_cases (ltb l k) (λ t. absurd (not_earlier j l i k a b (inr (same, ltb-true l k t))))
      (λ u. by_cases (ltb k l) (λ t. absurd (not_earlier i k j l b a (inr (sym same, ltb-true k l t))))
      (λ v. (same, omega (arith, ltb-false l k u, ltb-false k l v))))))

  unmet_one : (j i : ℕ) → UnmetWait p j → UnmetWait p i → j ≡ i
  unmet_one j i a b =
      by_cases (ltb j i) (λ t. absurd (b.lowest j a.too_high.0 (ltb-true j i t) a.too_high.1))
      (λ f. by_cases (ltb i j) (λ t. absurd (a.lowest i b.too_high.0 (ltb-true i j t) b.too_high.1))
      (λ g. omega (arith, ltb-false j i f, ltb-false i j g)))

  -- ---- what is given, and why
  data RulesSay (f : Refusal) : Type 0 where
    say_seven : (i k : ℕ) → Refuses f 7 i → NotRising p i k → RulesSay f
    say_eight : (i : ℕ) → Refuses f 8 i → UnmetWait p i → RulesSay f
    say_none : Refuses f 0 0 → SignalsGood p → ((i k : ℕ) → TooHigh p i k → ⊥) → RulesSay f

  either_say : (a b : Refusal) → SignalsSay p a → WaitsSay p b → RulesSay (or_refusal a b)
  unfolding none_given
  either_say a b (signals_seven i k e w) s =
      say_seven i k (refuses (or_refusal a b) 7 i (or_else_first a b (rw e (refusal_given 7 i (λ z. omega arith))) ∙
      e)) w
  either_say a b (signals_good e g) (waits_eight i k d t low) =
      say_eight i (refuses (or_refusal a b) 8 i (or_else_second a b (ap (λ (z : Refusal). z.number) e) ∙ d))
      (record { signals_good = g; too_high = (k, t); lowest = low })
  either_say a b (signals_good e g) (waits_good d low) =
      let same = or_else_second a b (ap (λ (z : Refusal). z.number) e) ∙ d in
      say_none (ap (λ (z : Refusal). z.number) same, ap (λ (z : Refusal). z.place) same) g low

  rules_say : WaitsAboveZero p → RulesSay (rules_refusal p)
  unfolding rules_refusal
  rules_say above =
      either_say (signals_refusal 0 [] p.operations) (waits_refusal 0 p p.operations) (plan_signals_say p)
      (plan_waits_say p above)

  -- ---- exactly if
  module _ (f : Refusal) where
    seven : RulesSay f → (i : ℕ) → Refuses f 7 i ↔ ((k : ℕ) × NotRising p i k)
    seven (say_seven j l r w) i = (
      (λ s. (l, subst (λ (z : ℕ). NotRising p z l) (sym r.1 ∙ s.1) w)),
      (λ v. (r.0, r.1 ∙ (first_one j l i v.0 w v.1).0)),
    )
    seven (say_eight j r w) i = (
      (λ s. absurd (omega (arith, r.0, s.0))),
      (λ v. absurd (v.1.not_rising (w.signals_good i v.0 v.1.signal))),
    )
    seven (say_none r g low) i =
        ((λ s. absurd (omega (arith, r.0, s.0))), (λ v. absurd (v.1.not_rising (g i v.0 v.1.signal))))

    eight : RulesSay f → (i : ℕ) → Refuses f 8 i ↔ UnmetWait p i
    eight (say_seven j l r w) i = (
      (λ s. absurd (omega (arith, r.0, s.0))),
      (λ v. absurd (w.not_rising (v.signals_good j l w.signal))),
    )
    eight (say_eight j r w) i =
        ((λ s. subst (UnmetWait p) (sym r.1 ∙ s.1) w), (λ v. (r.0, r.1 ∙ unmet_one j i w v)))
    eight (say_none r g low) i =
        ((λ s. absurd (omega (arith, r.0, s.0))), (λ v. absurd (low i v.too_high.0 v.too_high.1)))

    none : RulesSay f → Refuses f 0 0 ↔ (SignalsGood p × ((i k : ℕ) → TooHigh p i k → ⊥))
    none (say_seven j l r w) =
        ((λ s. absurd (omega (arith, r.0, s.0))), (λ v. absurd (w.not_rising (v.0 j l w.signal))))
    none (say_eight j r w) =
        ((λ s. absurd (omega (arith, r.0, s.0))), (λ v. absurd (v.1 j w.too_high.0 w.too_high.1)))
    none (say_none r g low) = ((λ s. (g, low)), (λ v. r))

    only : RulesSay f → NoneOr rule_numbers f.number
    only (say_seven j l r w) = one_is (0 ∷ rule_numbers) r.0 (unfold member in refl)
    only (say_eight j r w) = one_is (0 ∷ rule_numbers) r.0 (unfold member in refl)
    only (say_none r g low) = one_is (0 ∷ rule_numbers) r.0 (unfold member in refl)

  pub rules_mean : WaitsAboveZero p → RulesMean p (rules_refusal p)
  rules_mean above =
      let f = rules_refusal p in
      let says = rules_say above in
      record {
        seven = seven f says;
        eight = eight f says;
        none = none f says;
        only = only f says;
      }
