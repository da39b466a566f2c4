-- The outcome of the check, case by case. Assumes nothing.
use mathlib.Core.Path.{◌≡◌}
use mathlib.Core.Bool.{true}
use mathlib.Core.List.{List}
use mathlib.Core.Option.{Option, none, some}
use Prim.Native.Nat.{ℕ}
use native.Mathlib.Omega.{arith}
use Rattle.plan_format.specs.Plan.{count}
use Rattle.plan_format.specs.Refusal.{refusal, none_given, given}
use Rattle.plan_format.specs.Sound.{rules_refusal}
use Rattle.plan_format.specs.Stored.{scanned, plan_in, plan_refusal}
use Rattle.plan_format.proofs.Judged.{zero_not_given, refusal_given, or_else_second}
use Rattle.plan_order.specs.Check.{room_refusal, refused_at, order_refusal, untouched, zeros, rows_and_run}
use Rattle.plan_order.specs.Check.{outcome, or_then, check_outcome, plan_outcome}
use Rattle.plan_order.specs.Holdings.{broken}
use Rattle.plan_order.specs.Handovers.{disordered}
use Rattle.plan_order.specs.Runs.{missing}

-- ---- the outcome, case by case
module _ (bs : List ℕ) (t l : ℕ) where
  pub plan_refused : given (plan_refusal bs) ≡ true → check_outcome bs t l ≡ outcome (plan_refusal bs) untouched
  unfolding check_outcome or_then outcome
  plan_refused h = rw h

  module _ (plan_good : (plan_refusal bs).number ≡ 0) where
    pub room_refused : given (room_refusal (count (plan_in bs)) t l) ≡ true →
        check_outcome bs t l ≡ outcome (room_refusal (count (plan_in bs)) t l) untouched
    unfolding check_outcome or_then outcome
    room_refused h = rw (zero_not_given (plan_refusal bs) plan_good, h)

    module _ (room_good : (room_refusal (count (plan_in bs)) t l).number ≡ 0) where
      order_refused_is : (i n : ℕ) → (n ≡ 0 → ⊥) → order_refusal (plan_in bs) ≡ refusal n i →
          check_outcome bs t l ≡ outcome (refusal n i) zeros
      unfolding check_outcome or_then outcome
      order_refused_is i n ne e =
          rw (
            zero_not_given (plan_refusal bs) plan_good,
            zero_not_given (room_refusal (count (plan_in bs)) t l) room_good,
            e,
            refusal_given n i ne,
          )

      pub stuck_outcome : (i : ℕ) → missing (plan_in bs) ≡ some i → check_outcome bs t l ≡ outcome (refusal 10 i) zeros
      stuck_outcome i e = order_refused_is i 10 (λ z. omega arith) (unfold order_refusal refused_at in (rw e))

      pub disordered_outcome : (i : ℕ) → ◌≡◌ {A = Option ℕ} (missing (plan_in bs)) none →
          disordered (plan_in bs) ≡ some i → check_outcome bs t l ≡ outcome (refusal 17 i) zeros
      disordered_outcome i n e =
          order_refused_is i 17 (λ z. omega arith) (unfold order_refusal refused_at in (rw (n, e)))

      pub broken_outcome : (i : ℕ) → ◌≡◌ {A = Option ℕ} (missing (plan_in bs)) none →
          ◌≡◌ {A = Option ℕ} (disordered (plan_in bs)) none → broken (plan_in bs) ≡ some i →
          check_outcome bs t l ≡ outcome (refusal 11 i) zeros
      broken_outcome i n d e =
          order_refused_is i 11 (λ z. omega arith) (unfold order_refusal refused_at in (rw (n, d, e)))

      pub passed_outcome : ◌≡◌ {A = Option ℕ} (missing (plan_in bs)) none →
          ◌≡◌ {A = Option ℕ} (disordered (plan_in bs)) none → ◌≡◌ {A = Option ℕ} (broken (plan_in bs)) none →
          check_outcome bs t l ≡ outcome none_given rows_and_run
      unfolding check_outcome or_then outcome order_refusal refused_at given none_given
      passed_outcome n d m =
          rw (
            zero_not_given (plan_refusal bs) plan_good,
            zero_not_given (room_refusal (count (plan_in bs)) t l) room_good,
            n,
            d,
            m,
          )

-- of bytes that the reader takes, the plan alone decides
pub outcome_of_plan : (bs : List ℕ) (t l : ℕ) → (scanned bs).fault.number ≡ 0 →
    check_outcome bs t l ≡ plan_outcome (plan_in bs) t l
unfolding check_outcome plan_outcome plan_refusal
outcome_of_plan bs t l clean = rw (or_else_second (scanned bs).fault (rules_refusal (plan_in bs)) clean)
