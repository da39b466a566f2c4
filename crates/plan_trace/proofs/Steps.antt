-- The form of a stored trace, and its steps by its bytes. Assumes nothing.
use mathlib.Core.Path.{◌≡◌, refl, ap, ◌∙◌}
use mathlib.Core.List.{List, [], ◌∷◌, map}
use Prim.Native.Nat.{ℕ, zero, suc, ◌<◌}
use native.Mathlib.Nat.{zero-add}
use native.Mathlib.Omega.{arith}
use lib.ListN.{length, get_or, take, drop}
use Rattle.base_lists.proofs.Tables.{tabulate_length, tabulate_at}
use Rattle.plan_format.specs.Grammar.{value}
use Rattle.plan_format.specs.Refusal.{refusal, none_given}
use Rattle.plan_trace.specs.Trace.{step_count, step_place, step_at, trace_steps, trace_formed, trace_refusal}
use Rattle.plan_trace.specs.Meaning.{two_bytes, StepsMeans}

-- no byte, one byte, a count with no step, a byte too many, a count alone
formed_traces : map trace_refusal ([] ∷ (0 ∷ []) ∷ (1 ∷ 0 ∷ []) ∷ (0 ∷ 0 ∷ 0 ∷ []) ∷ (0 ∷ 0 ∷ []) ∷ []) ≡
    refusal 22 0 ∷ refusal 22 0 ∷ refusal 22 0 ∷ refusal 22 0 ∷ none_given ∷ []
unfolding trace_refusal trace_formed step_count value refusal none_given
formed_traces = refl

pub two_bytes_are : (bs : List ℕ) (at : ℕ) → value (take 2 (drop at bs)) ≡ two_bytes bs at
unfolding value
two_bytes_are [] zero = refl
two_bytes_are [] (suc at) = refl
two_bytes_are (b ∷ []) zero = refl
two_bytes_are (b ∷ c ∷ bs) zero = omega arith
two_bytes_are (b ∷ bs) (suc at) = two_bytes_are bs at

module _ (ts : List ℕ) where
  pub count_is : step_count ts ≡ two_bytes ts 0
  unfolding step_count
  count_is = two_bytes_are ts 0

  pub step_is : (k : ℕ) → step_at ts k ≡ two_bytes ts (step_place k)
  unfolding step_at
  step_is k = two_bytes_are ts (step_place k)

  pub steps_many : length (trace_steps ts) ≡ step_count ts
  unfolding trace_steps
  steps_many = tabulate_length (λ k. step_at ts k) (step_count ts) 0

  pub steps_each : (k : ℕ) → k < step_count ts → get_or (trace_steps ts) k 0 ≡ step_at ts k
  unfolding trace_steps
  steps_each k l = tabulate_at (λ k. step_at ts k) (step_count ts) 0 k 0 l ∙ ap (λ (z : ℕ). step_at ts z) (zero-add k)

  pub steps_means : StepsMeans ts (trace_steps ts)
  steps_means = record {
    counted = count_is;
    many = steps_many;
    each = λ k l. steps_each k (omega (arith, steps_many)) ∙ step_is k;
  }
