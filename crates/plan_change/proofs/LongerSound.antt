-- One operation more at the end, in range, without signals, and with no wait that is for 0 or too high: a sound plan
-- stays sound. Assumes nothing.
use mathlib.Core.Path.{◌≡◌, refl, sym, ap, ◌∙◌, subst}
use mathlib.Core.Bool.{false}
use mathlib.Core.List.{List, [], ◌∷◌, ◌++◌}
use Prim.Native.Nat.{ℕ, suc, ◌<◌}
use native.Mathlib.Omega.{arith}
use lib.Dec.{ltb}
use lib.ListN.{length, get_or}
use borrow.Author.Tests.{ltb-true, ltb-false}
use Rattle.base_lists.proofs.Tests.{by_cases}
use Rattle.plan_format.specs.Sizes.{most_operations}
use Rattle.plan_format.specs.Refusal.{Refusal, refusal, none_given}
use Rattle.plan_format.specs.Plan.{Point, Operation, Plan, count, op, queues}
use Rattle.plan_format.specs.Sound.{highest_in, highest, signals_number, signals_refusal, too_high, any_too_high}
use Rattle.plan_format.specs.Sound.{waits_refusal, rules_refusal, InRange, Sound}
use Rattle.plan_format.proofs.Judged.{or_else_second}
use Rattle.plan_format.proofs.RulesFirst.{wait_inside}
use Rattle.plan_order.proofs.Demand3.{rules_good}
use Rattle.plan_change.specs.Longer.{with_last}
use Rattle.plan_change.proofs.Longer.{last_count, last_same, last_op}

module _ (p : Plan) (o : Operation) (silent : o.signals ≡ []) where
  abbrev grown : Plan
  grown = with_last p o

  -- ---- refusal 7
  signals_same : (i : ℕ) (bs os : List Operation) → signals_refusal i bs (os ++ (o ∷ [])) ≡ signals_refusal i bs os
  unfolding signals_refusal signals_number
  signals_same i bs [] = rw silent
  signals_same i bs (x ∷ xs) = rw (signals_same (suc i) (bs ++ (x ∷ [])) xs)

  -- ---- refusal 8
  highest_stays : (s : ℕ) (os : List Operation) → highest s (os ++ (o ∷ [])) ≡ highest s os
  unfolding highest highest_in
  highest_stays s [] = rw silent
  highest_stays s (x ∷ xs) = rw (highest_stays s xs)

  any_same : (ws : List Point) → any_too_high grown ws ≡ any_too_high p ws
  unfolding any_too_high too_high with_last
  any_same [] = refl
  any_same (w ∷ ws) = rw (highest_stays w.semaphore p.operations, any_same ws)

  module _ (low : any_too_high p o.waits ≡ false) where
    waits_low : (i : ℕ) (os : List Operation) → (waits_refusal i p os).number ≡ 0 →
        (waits_refusal i grown (os ++ (o ∷ []))).number ≡ 0
    unfolding waits_refusal refusal none_given
    waits_low i [] e = rw (any_same o.waits, low)
    waits_low i (x ∷ xs) e =
        by_cases (any_too_high p x.waits) (λ t. absurd (let z : 8 ≡ 0 = rw t at e in omega arith))
        (λ f. rw (any_same x.waits, f) (waits_low (suc i) xs (rw f at e)))

    -- ---- sound
    rules_none : Sound p → (rules_refusal grown).number ≡ 0
    unfolding rules_refusal with_last
    rules_none sound =
        let good = rules_good p sound in
        let first : (signals_refusal 0 [] grown.operations).number ≡ 0 =
        ap (λ (f : Refusal). f.number) (signals_same 0 [] p.operations) ∙ good.0 in
        ap (λ (f : Refusal). f.number) (or_else_second _ _ first) ∙ waits_low 0 p.operations good.1

    in_longer : (x : Operation) → InRange p x → InRange grown x
    unfolding with_last queues
    in_longer x h =
        record { queue = h.queue; waits = h.waits; signals = h.signals; marks = h.marks; kinds = h.kinds }

    -- what holds of each operation and of the new one
    each_operation : (P : Operation → Type 0) → ((i : ℕ) → i < count p → P (op p i)) → P o →
        (i : ℕ) → i < count grown → P (op grown i)
    each_operation P old new i l =
        by_cases (ltb i (count p))
        (λ t. let inside = ltb-true i (count p) t in subst P (sym (last_same p o i inside)) (old i inside))
        (λ f. let last : count p ≡ i = omega (arith, l, last_count p o, ltb-false i (count p) f) in
        subst (λ (n : ℕ). P (op grown n)) last (subst P (sym (last_op p o)) new))

    abbrev pub AboveZero : Operation → Type 0
    AboveZero x = (k : ℕ) → k < length x.waits → 0 < (get_or x.waits k (record { semaphore = 0; value = 0 })).value

    pub last_sound : Sound p → count p < most_operations → InRange p o → AboveZero o → Sound grown
    unfolding with_last queues
    last_sound sound few known above = record {
      few_queues = sound.few_queues;
      few_operations = omega (arith, last_count p o);
      axes_distinct = sound.axes_distinct;
      in_range = each_operation (InRange grown) (λ i l. in_longer (op p i) (sound.in_range i l)) (in_longer o known);
      waits_above_zero = λ i k h.
          each_operation AboveZero (λ j l. sound.waits_above_zero j) above i (wait_inside grown i k h) k h;
      rules = rules_none sound;
    }
