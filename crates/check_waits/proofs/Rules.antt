-- Refusals 7 and 8 of a plan: 7 where it is given, else 8. Assumes nothing.
use mathlib.Core.Path.{◌≡◌}
use mathlib.Core.List.{[]}
use Rattle.plan_format.specs.Plan.{Plan}
use Rattle.plan_format.specs.Sound.{signals_refusal, waits_refusal, rules_refusal}
use Rattle.plan_format.proofs.Judged.{other_given, or_else_first, or_else_second}

module _ (p : Plan) where
  pub seven_first : ((signals_refusal 0 [] p.operations).number ≡ 0 → ⊥) →
      rules_refusal p ≡ signals_refusal 0 [] p.operations
  unfolding rules_refusal
  seven_first h =
      let f = signals_refusal 0 [] p.operations in
      or_else_first f (waits_refusal 0 p p.operations) (other_given f h)

  pub then_eight : (signals_refusal 0 [] p.operations).number ≡ 0 →
      rules_refusal p ≡ waits_refusal 0 p p.operations
  unfolding rules_refusal
  then_eight z = or_else_second (signals_refusal 0 [] p.operations) (waits_refusal 0 p p.operations) z
