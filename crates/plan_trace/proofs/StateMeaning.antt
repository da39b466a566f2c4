-- How far a plan had come: counts by queue and highest values by semaphore, and 0 where the plan has none. Assumes
-- nothing.
use mathlib.Core.Path.{◌≡◌, refl, sym, ap, ◌∙◌, subst}
use mathlib.Core.Bool.{false, ◌&&◌}
use mathlib.Core.Logic.{◌↔◌}
use mathlib.Core.List.{List, [], ◌∷◌, ◌++◌}
use Prim.Native.Nat.{ℕ, suc, ◌+◌, ◌-◌, ◌≤◌, ◌<◌}
use native.Mathlib.Nat.{zero-add}
use native.Mathlib.Omega.{arith}
use lib.Dec.{ltb, eqb}
use lib.ListN.{length, get_or, replicate, length-append, get_or-append, get_or-eq_default}
use lib.Seq.{get_or-append-add}
use borrow.Author.Tests.{ltb-true, ltb-false, eqb-true, eq-eqb, ne_eqb}
use Rattle.base_lists.specs.Lists.{member, tally, tabulate_from}
use Rattle.base_lists.specs.Places.{Counts}
use Rattle.base_lists.proofs.Tests.{by_cases, and_left, and_right, and_both}
use Rattle.base_lists.proofs.Tallies.{tally_ends}
use Rattle.base_lists.proofs.Places.{member_place, place_member, tally_counts}
use Rattle.base_lists.proofs.Tables.{tabulate_length, tabulate_at}
use Rattle.plan_format.specs.Sizes.{most_queues, most_semaphores, state_size}
use Rattle.plan_format.specs.Plan.{Point, Plan, empty_operation, count, op, queues}
use Rattle.plan_format.specs.Sound.{highest_in, Sound}
use Rattle.plan_order.specs.Runs.{reached}
use Rattle.plan_order.specs.Meaning.{HighestSignalled}
use Rattle.plan_order.proofs.Readiness.{reached_under}
use Rattle.plan_order.proofs.RunMeaning.{reached_means}
use Rattle.plan_trace.specs.State.{queue_count, queue_counts, semaphore_values, state_of}
use Rattle.plan_trace.specs.Meaning.{RunOn, StateMeans, UnusedMeans}
use Rattle.plan_trace.proofs.Cases.{chain}

-- after its first operation
chain_counts : queue_counts chain (0 ∷ []) ≡ 1 ∷ replicate (most_queues - 1) 0
unfolding chain queue_counts queue_count tabulate_from tally member count op
chain_counts = refl

module _ (p : Plan) (r : List ℕ) where
  -- ---- queues
  pub count_means : (q many : ℕ) → (queue_count p r q ≡ many) ↔ Counts (RunOn p r q) many
  unfolding queue_count
  count_means q many =
      tally_counts (count p) (λ i. eqb (op p i).queue q && member i r) (RunOn p r q) (λ i. (
        (λ w. (
          w.0,
          and_both (eqb (op p i).queue q) (member i r) (eq-eqb (op p i).queue q w.1)
              (place_member r i w.2),
        )),
        (λ w. (
          w.0,
          eqb-true (op p i).queue q (and_left (eqb (op p i).queue q) (member i r) w.1),
          member_place r i (and_right (eqb (op p i).queue q) (member i r) w.1),
        )),
      )) many

  pub counts_at : (q : ℕ) → q < most_queues → get_or (queue_counts p r) q 0 ≡ queue_count p r q
  unfolding queue_counts
  counts_at q l = tabulate_at (λ q. queue_count p r q) most_queues 0 q 0 l ∙
      ap (λ (z : ℕ). queue_count p r z) (zero-add q)

  pub counts_long : length (queue_counts p r) ≡ most_queues
  unfolding queue_counts
  counts_long = tabulate_length (λ q. queue_count p r q) most_queues 0

  -- ---- semaphores
  values_at : (s : ℕ) → s < most_semaphores → get_or (semaphore_values p r) s 0 ≡ reached p s r
  unfolding semaphore_values
  values_at s l = tabulate_at (λ s. reached p s r) most_semaphores 0 s 0 l ∙ ap (λ (z : ℕ). reached p z r) (zero-add s)

  values_long : length (semaphore_values p r) ≡ most_semaphores
  unfolding semaphore_values
  values_long = tabulate_length (λ s. reached p s r) most_semaphores 0

  -- ---- the state
  pub state_long : length (state_of p r) ≡ state_size
  unfolding state_of
  state_long = length-append (queue_counts p r) (semaphore_values p r) ∙ omega (arith, counts_long, values_long)

  pub state_count : (q : ℕ) → q < most_queues → get_or (state_of p r) q 0 ≡ queue_count p r q
  unfolding state_of
  state_count q l = get_or-append (queue_counts p r) (semaphore_values p r) 0 q (omega (arith, counts_long)) ∙
      counts_at q l

  pub state_highest : (s : ℕ) → s < most_semaphores → get_or (state_of p r) (most_queues + s) 0 ≡ reached p s r
  unfolding state_of
  state_highest s l =
      ap (λ (z : ℕ). get_or (queue_counts p r ++ semaphore_values p r) (z + s) 0) (sym counts_long)
      ∙ get_or-append-add (queue_counts p r) (semaphore_values p r) s 0
      ∙ values_at s l

  pub state_means : StateMeans p r (state_of p r)
  state_means = record {
    long = state_long;
    counts = λ q l. subst (λ (z : ℕ). Counts (RunOn p r q) z) (sym (state_count q l))
        ((count_means q (queue_count p r q)).0 refl);
    highest = λ s l. subst (λ (z : ℕ). HighestSignalled p s r z) (sym (state_highest s l))
        ((reached_means p s r (reached p s r)).0 refl);
  }

-- ---- places that a plan does not use
-- no signal of these is on a semaphore past a bound
none_signalled : (s b : ℕ) (xs : List Point) → b ≤ s →
    ((k : ℕ) → k < length xs → (get_or xs k (record { semaphore = 0; value = 0 })).semaphore < b) → highest_in s xs ≤ 0
unfolding highest_in
none_signalled s b [] l h = omega arith
none_signalled s b (x ∷ xs) l h =
    let other : eqb x.semaphore s ≡ false = ne_eqb x.semaphore s (λ e. omega (arith, h 0 (omega arith))) in
    rw other (omega (arith, none_signalled s b xs l (λ k a. h (suc k) (omega arith))))

module _ (p : Plan) (r : List ℕ) (sound : Sound p) where
  no_operation_on : (q : ℕ) → queues p ≤ q → queue_count p r q ≤ 0
  unfolding queue_count tally
  no_operation_on q l =
      tally_ends 0 (count p) (λ i. eqb (op p i).queue q && member i r) (λ i a b.
      let other : eqb (op p i).queue q ≡ false = ne_eqb (op p i).queue q
      (λ e. omega (arith, (sound.in_range i b).queue)) in rw other)

  no_signal_on : (s : ℕ) → length p.owners ≤ s → reached p s r ≤ 0
  no_signal_on s l =
      reached_under p s r 0 (λ i m.
      by_cases (ltb i (count p))
      (λ t. none_signalled s (length p.owners) (op p i).signals l
      (sound.in_range i (ltb-true i (count p) t)).signals)
      (λ f. past_none i (ltb-false i (count p) f)))
    where
      past_none : (i : ℕ) → count p ≤ i → highest_in s (op p i).signals ≤ 0
      past_none i h = unfold op count highest_in in
          (rw (get_or-eq_default p.operations empty_operation {n = i} h) (omega arith))

  pub unused_means : UnusedMeans p (state_of p r)
  unused_means = record {
    queue = λ q a b. state_count p r q b ∙ omega (arith, no_operation_on q a);
    semaphore = λ s a b. state_highest p r s b ∙ omega (arith, no_signal_on s a);
  }
