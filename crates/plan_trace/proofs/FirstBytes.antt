-- One byte more than the longest trace has decides what is answered: a trace that is longer is badly formed, whatever
-- follows. Assumes nothing.
use mathlib.Core.Path.{◌≡◌, sym, ap, ◌∙◌}
use mathlib.Core.Bool.{true, false, ◌&&◌}
use mathlib.Core.List.{List, [], ◌∷◌}
use Prim.Native.Nat.{ℕ, zero, suc, ◌<◌}
use native.Mathlib.Omega.{arith}
use lib.Dec.{ltb, leb, eqb}
use lib.ListN.{length, get_or}
use lib.Seq.{ext_get_or}
use borrow.Author.Tests.{ltb-true, leb-true, leb-false, eqb-true}
use Rattle.base_lists.specs.Lists.{all}
use Rattle.base_lists.proofs.Tests.{by_cases, is_false, and_left, and_right}
use Rattle.plan_format.specs.Sizes.{step_bytes, most_steps, trace_bytes}
use Rattle.plan_format.specs.Refusal.{refusal}
use Rattle.plan_format.specs.Stored.{all_bytes}
use Rattle.plan_trace.specs.Trace.{step_count, step_place, step_at, trace_steps, trace_formed, trace_refusal}
use Rattle.plan_trace.specs.Promise.{TracedAlike, deciding_bytes, SameTrace, FirstTraceBytes}
use Rattle.plan_trace.proofs.Steps.{count_is, step_is, steps_many, steps_each}
use Rattle.plan_trace.proofs.Alike.{same_at, same_long, same_short}

bytes_low : (bs : List ℕ) → all_bytes bs ≡ true → (i : ℕ) → get_or bs i 0 < 256
unfolding all_bytes all
bytes_low [] h i = omega arith
bytes_low (b ∷ bs) h zero = ltb-true b 256 (and_left (ltb b 256) (all (λ b. ltb b 256) bs) h)
bytes_low (b ∷ bs) h (suc i) = bytes_low bs (and_right (ltb b 256) (all (λ b. ltb b 256) bs) h) i

-- a trace with more bytes than any count asks for
long_ill : (ts : List ℕ) → step_count ts < suc most_steps → trace_bytes < length ts → trace_refusal ts ≡ refusal 22 0
unfolding trace_refusal trace_formed
long_ill ts few long =
    let formed = leb step_bytes (length ts) && eqb (length ts) (step_place (step_count ts)) in
    let bad : formed ≡ false = is_false formed (λ t.
    omega (
      arith,
      eqb-true (length ts) (step_place (step_count ts))
          (and_right (leb step_bytes (length ts)) (eqb (length ts) (step_place (step_count ts))) t),
    )) in
    rw bad

module _ (ts us : List ℕ) (bytes : all_bytes ts ≡ true) (same : SameTrace ts us) where
  counts_alike : step_count ts ≡ step_count us
  counts_alike = count_is ts
      ∙ omega (
        arith,
        same_at deciding_bytes ts us same 0 (omega arith),
        same_at deciding_bytes ts us same 1 (omega arith),
      )
      ∙ sym (count_is us)

  few_steps : step_count ts < suc most_steps
  few_steps = omega (arith, count_is ts, bytes_low ts bytes 0, bytes_low ts bytes 1)

  step_alike : (k : ℕ) → k < step_count ts → step_at ts k ≡ step_at us k
  step_alike k l =
      step_is ts k
      ∙ omega (
        arith,
        same_at deciding_bytes ts us same (step_place k) (omega (arith, few_steps)),
        same_at deciding_bytes ts us same (suc (step_place k)) (omega (arith, few_steps)),
      )
      ∙ sym (step_is us k)

  steps_alike : trace_steps ts ≡ trace_steps us
  steps_alike =
      ext_get_or 0 (trace_steps ts) (trace_steps us) (steps_many ts ∙ counts_alike ∙ sym (steps_many us)) (λ k l.
      let inside : k < step_count ts = omega (arith, steps_many ts) in
      steps_each ts k inside ∙ step_alike k inside ∙ sym (steps_each us k (omega (arith, counts_alike))))

  refusal_alike : trace_refusal ts ≡ trace_refusal us
  refusal_alike =
      by_cases (leb (length ts) trace_bytes)
      (λ t. ap trace_refusal (same_short deciding_bytes ts us same (omega (arith, leb-true (length ts) trace_bytes t))))
      (λ f. let l = leb-false (length ts) trace_bytes f in
      long_ill ts few_steps l
      ∙ sym (long_ill us (omega (arith, counts_alike, few_steps))
      (same_long deciding_bytes ts us same deciding_bytes (omega arith) (omega arith))))

  pub trace_alike : TracedAlike ts us
  trace_alike = record { refusal = refusal_alike; steps = steps_alike }

pub first_trace_bytes : FirstTraceBytes
unfolding FirstTraceBytes
first_trace_bytes = trace_alike
