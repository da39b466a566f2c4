-- The longer plan with the wait that is advised: it is sound, has a full run and passes, and the queue may take the
-- buffer anew. Assumes nothing.
use mathlib.Core.Path.{◌≡◌, sym, ap, ◌∙◌, subst}
use mathlib.Core.Bool.{true, false}
use mathlib.Core.Logic.{inr}
use mathlib.Core.List.Memᴰ
use mathlib.Core.List.{List, [], ◌∷◌, ◌++◌, Memᴰ}
use Prim.Native.Nat.{ℕ, zero, suc, ◌<◌}
use native.Mathlib.Nat.{not-suc-le-zero}
use native.Mathlib.Omega.{arith}
use lib.ListN.{length, get_or}
use borrow.Author.Tests.{le-ltb}
use Rattle.base_lists.proofs.Tests.{either}
use Rattle.plan_format.specs.Sizes.{most_operations}
use Rattle.plan_format.specs.Plan.{Point, Operation, Plan, count, op, queues}
use Rattle.plan_format.specs.Sound.{highest, too_high, any_too_high, InRange, Sound}
use Rattle.plan_format.specs.Meaning.{signal_at, IsSignal}
use Rattle.plan_format.proofs.RulesFirst.{signal_inside}
use Rattle.plan_order.specs.Precedence.{resolve}
use Rattle.plan_order.specs.Runs.{wait_met, is_full}
use Rattle.plan_order.specs.Check.{order_refusal, plan_outcome}
use Rattle.plan_order.specs.Meaning.{AllInTurn, AllForced, LastOn, When}
use Rattle.plan_order.specs.declared.Verdict.TheVariants.{Reusable, NotOrdered}
use Rattle.plan_order.proofs.Signals.{highest_over}
use Rattle.plan_order.proofs.Standard.{full_has}
use Rattle.plan_order.proofs.RunMeaning.{rested_on, full_means}
use Rattle.plan_order.proofs.VerdictMeaning.{verdict_means}
use Rattle.plan_order.proofs.Outcomes.{outcome_of_plan}
use Rattle.plan_order.proofs.Demand3.{demand_3}
use Rattle.plan_change.specs.Longer.{with_last, waiting, longer}
use Rattle.plan_change.proofs.Longer.{last_count, last_op, waiting_silent, waiting_unmarked}
use Rattle.plan_change.proofs.LongerRuns.{last_full}
use Rattle.plan_change.proofs.LongerSound.{last_sound}
use Rattle.plan_change.proofs.LongerPasses.{runs_and_keeps, sound_passes, last_in_turn, last_forced}
use Rattle.plan_suggest.specs.Meaning.{WaitFrees, FirstFreeing, Freed}
use Rattle.plan_suggest.proofs.Freeing.{same_marks, value_there, signal_above, rests_there}

module _ (p : Plan) (sound : Sound p) (q : ℕ) (known : q < queues p) (i k : ℕ) (signal : IsSignal p i k) where
  abbrev wait : Point
  wait = signal_at p i k

  abbrev new : Operation
  new = waiting q wait

  abbrev there : Plan
  there = longer p q wait

  -- ---- sound
  wait_low : any_too_high p new.waits ≡ false
  unfolding any_too_high too_high waiting op
  wait_low =
      let top = highest wait.semaphore p.operations in
      let under = highest_over wait.semaphore wait.value p.operations i (value_there p sound i k signal) in
      rw (le-ltb top wait.value under)

  wait_known : (n : ℕ) → n < length (wait ∷ []) →
      (get_or (wait ∷ []) n (record { semaphore = 0; value = 0 })).semaphore < length p.owners
  wait_known zero l = (sound.in_range i (signal_inside p i k signal)).signals k signal
  wait_known (suc n) l = absurd (omega arith)

  new_known : InRange p new
  unfolding waiting
  new_known = record {
    queue = known;
    waits = wait_known;
    signals = λ n l. absurd (not-suc-le-zero l);
    marks = λ n l. absurd (not-suc-le-zero l);
    kinds = λ n l. absurd (not-suc-le-zero l);
  }

  wait_above : (n : ℕ) → n < length (wait ∷ []) →
      0 < (get_or (wait ∷ []) n (record { semaphore = 0; value = 0 })).value
  wait_above zero l = signal_above p sound i k signal
  wait_above (suc n) l = absurd (omega arith)

  there_sound : count p < most_operations → Sound there
  unfolding waiting
  there_sound few = last_sound p new (waiting_silent q wait) wait_low sound few new_known wait_above

  -- ---- a full run
  module _ (r : List ℕ) (full : is_full p r ≡ true) where
    met_there : (w : Point) → Memᴰ w new.waits → wait_met p r w ≡ true
    unfolding waiting wait_met
    met_there w m =
        either (Memᴰ.cases_cons m)
        (λ e. subst (λ (z : Point). wait_met p r z ≡ true) (sym e)
        (rested_on p r (resolve p wait) i (rests_there p sound i k signal)
        (full_has p r full i (signal_inside p i k signal))))
        (λ u. absurd (Memᴰ.not-nil u))

    there_full : is_full there (r ++ (count p ∷ [])) ≡ true
    there_full = last_full p new (waiting_silent q wait) r full met_there

  -- ---- reusable
  last_there : LastOn there q (count p)
  unfolding waiting
  last_there = record {
    operation = omega (arith, last_count p new);
    own = ap (λ (o : Operation). o.queue) (last_op p new);
    last = λ j l u e. absurd (omega (arith, last_count p new));
  }

  reusable_there : (b : ℕ) → When p q b NotOrdered → WaitFrees p q b wait → When there q b Reusable
  unfolding When
  reusable_there b w frees =
      let last = w.1 in
      (w.0, (last.0, same_marks p q b wait ∙ last.1), w.2, λ j marked. (count p, last_there, inr (frees j marked)))

  module _ (r : List ℕ) (full : is_full p r ≡ true) (in_turn : AllInTurn p) (forced : AllForced p)
      (few : count p < most_operations) where
    there_passes : (order_refusal there).number ≡ 0
    unfolding with_last
    there_passes =
        runs_and_keeps there (there_sound few) (r ++ (count p ∷ [])) (there_full r full)
        (last_in_turn p new (waiting_silent q wait) (waiting_unmarked q wait) in_turn)
        (last_forced p new (waiting_silent q wait) (waiting_unmarked q wait) forced)

    there_freed : (b : ℕ) → When p q b NotOrdered → WaitFrees p q b wait → Freed there q b
    there_freed b w frees = let passed = sound_passes there (there_sound few) there_passes in record {
      sound = there_sound few;
      runs = (r ++ (count p ∷ []), (full_means there (r ++ (count p ∷ []))).0 (there_full r full));
      passes = passed;
      stored_passes = λ bs clean e t l a c. outcome_of_plan bs t l clean
          ∙ ap (λ (z : Plan). plan_outcome z t l) e ∙ passed t l a c;
      safe = (demand_3 there (there_sound few)).exactly.0 there_passes;
      verdict = (verdict_means there q b Reusable).1 (reusable_there b w frees);
      reusable = reusable_there b w frees;
    }

-- ---- by the first signal that frees
pub freed : (p : Plan) → Sound p → (r : List ℕ) → is_full p r ≡ true → AllInTurn p → AllForced p →
    count p < most_operations →
    (q b s v : ℕ) → q < queues p → When p q b NotOrdered → FirstFreeing p q b s v →
    Freed (longer p q (record { semaphore = s; value = v })) q b
freed p sound r full in_turn forced few q b s v known w first =
    subst (λ (z : Point). Freed (longer p q z) q b) first.point
    (there_freed p sound q known first.operation first.place first.signal r full in_turn forced few b w
    first.frees)
