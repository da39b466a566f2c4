-- The standard run is a run, takes the lowest ready queue at each step, and has every operation that is in any run.
-- Assumes nothing.
use mathlib.Core.Path.{◌≡◌, refl}
use mathlib.Core.Bool.{true, false, ◌&&◌, not}
use mathlib.Core.List.{List}
use mathlib.Core.Option.{Option, none, some}
use Prim.Native.Nat.{ℕ, ◌≤◌, ◌<◌, zero-le}
use native.Mathlib.Omega.{arith}
use lib.Dec.{leb, eqb}
use lib.ListN.{length, get_or, take}
use borrow.Author.Tests.{leb-true, leb-false, eqb-true, eq-eqb, not-true, not-false}
use Rattle.base_lists.specs.Lists.{member}
use Rattle.base_lists.proofs.Tests.{by_cases, clash, is_false, and_left, and_right, and_both}
use Rattle.base_lists.proofs.Distinct.{sized_le, sized_full}
use Rattle.base_lists.proofs.Searches.{first_some, first_none, lowest_some, lowest_none}
use Rattle.order.proofs.Runs.{can_below, run_sized, full_all, in_no_run, never_stuck}
use Rattle.order.proofs.Greedy.{greedy_runs, greedy_stuck, greedy_steps}
use Rattle.plan_format.specs.Plan.{Plan, count, op, queues}
use Rattle.plan_order.specs.Runs.{enabled, ready, is_run, is_full, ready_on, next, standard, missing}
use Rattle.plan_order.proofs.Readiness.{grows}

module _ (p : Plan) where
  pub ready_on_gives : (r : List ℕ) (q j : ℕ) → ready_on p r q ≡ some j → ((op p j).queue ≡ q) × (ready p r j ≡ true)
  unfolding ready_on
  ready_on_gives r q j e =
      let t = (lowest_some (count p) (λ j. eqb (op p j).queue q && ready p r j) j e).passes in (
        eqb-true (op p j).queue q (and_left (eqb (op p j).queue q) (ready p r j) t),
        and_right (eqb (op p j).queue q) (ready p r j) t,
      )

  pub ready_below : (r : List ℕ) (j : ℕ) → ready p r j ≡ true → j < count p
  unfolding ready
  ready_below r j h = can_below (count p) (enabled p) r j h

  pub ready_on_none : (r : List ℕ) (q : ℕ) → ◌≡◌ {A = Option ℕ} (ready_on p r q) none → (j : ℕ) → (op p j).queue ≡ q →
      ready p r j ≡ false
  unfolding ready_on
  ready_on_none r q e j o =
      is_false (ready p r j)
      (λ t. clash (eqb (op p j).queue q && ready p r j)
      (and_both (eqb (op p j).queue q) (ready p r j) (eq-eqb (op p j).queue q o) t)
      (lowest_none (count p) (λ j. eqb (op p j).queue q && ready p r j) e j (ready_below r j t)))

  pub next_ready : (r : List ℕ) (j : ℕ) → next p r ≡ some j → ready p r j ≡ true
  unfolding next
  next_ready r j e =
      let w = first_some (λ q. ready_on p r q) (queues p) 0 j e in
      (ready_on_gives r w.0 j w.3).1

  -- R27: the lowest ready queue
  pub next_lowest : (r : List ℕ) (j : ℕ) → next p r ≡ some j → (k : ℕ) → ready p r k ≡ true →
      (op p j).queue ≤ (op p k).queue
  unfolding next
  next_lowest r j e k h =
      let w = first_some (λ q. ready_on p r q) (queues p) 0 j e in
      by_cases (leb (op p j).queue (op p k).queue) (λ t. leb-true (op p j).queue (op p k).queue t)
      (λ f. clash (ready p r k) h (ready_on_none r (op p k).queue
      (w.4 (op p k).queue zero-le
      (omega (arith, leb-false (op p j).queue (op p k).queue f, (ready_on_gives r w.0 j w.3).0))) k refl))

  module _ (in_range : (j : ℕ) → j < count p → (op p j).queue < queues p) where
    pub next_none : (r : List ℕ) → ◌≡◌ {A = Option ℕ} (next p r) none → (j : ℕ) → ready p r j ≡ false
    unfolding next
    next_none r e j =
        by_cases (ready p r j)
        (λ t. ready_on_none r (op p j).queue
        (first_none (λ q. ready_on p r q) (queues p) 0 e (op p j).queue zero-le
        (omega (arith, in_range j (ready_below r j t)))) j refl)
        (λ f. f)

    pub standard_runs : is_run p (standard p) ≡ true
    unfolding is_run standard ready
    standard_runs = greedy_runs (count p) (enabled p) (next p) next_ready next_none

    pub standard_stuck : (j : ℕ) → ready p (standard p) j ≡ false
    unfolding standard ready
    standard_stuck j = greedy_stuck (count p) (enabled p) (next p) next_ready next_none j

    -- what it lacks is in no run
    pub standard_lacks : (i : ℕ) → member i (standard p) ≡ false → (r : List ℕ) → is_run p r ≡ true → member i r ≡ false
    unfolding is_run ready
    standard_lacks i m r h = in_no_run (count p) (enabled p) (grows p) (standard p) standard_stuck i m r h

    -- where it is full, something is ready after each run that is not
    pub goes_on : count p ≤ length (standard p) → (r : List ℕ) → is_run p r ≡ true → length r < count p →
        (j : ℕ) × (ready p r j ≡ true)
    unfolding is_run ready
    goes_on l r h short = never_stuck (count p) (enabled p) (grows p) (standard p) standard_runs l r h short

    pub standard_full : count p ≤ length (standard p) → is_full p (standard p) ≡ true
    unfolding is_full is_run
    standard_full l =
        let s = run_sized (count p) (enabled p) (standard p) standard_runs in
        and_both (is_run p (standard p)) (eqb (length (standard p)) (count p)) standard_runs
        (eq-eqb (length (standard p)) (count p) (omega (arith, sized_le (count p) (standard p) s)))

    -- the lowest that is missing, if one is
    pub missing_some : (j : ℕ) → missing p ≡ some j →
        (j < count p) × (member j (standard p) ≡ false) × ((k : ℕ) → k < j → member k (standard p) ≡ true)
    unfolding missing
    missing_some j e =
        let w = lowest_some (count p) (λ j. not (member j (standard p))) j e in (
          w.inside,
          not-true (member j (standard p)) w.passes,
          λ k l. not-false (member k (standard p)) (w.lower k l),
        )

    pub missing_none : ◌≡◌ {A = Option ℕ} (missing p) none → count p ≤ length (standard p)
    unfolding missing is_run
    missing_none e =
        let h = lowest_none (count p) (λ j. not (member j (standard p))) e in
        let n = sized_full (count p) (standard p) (run_sized (count p) (enabled p) (standard p) standard_runs)
        (λ i l. not-false (member i (standard p)) (h i l)) in
        omega arith

  pub standard_steps : (k : ℕ) → k < length (standard p) → next p (take k (standard p)) ≡ some (get_or (standard p) k 0)
  unfolding standard
  standard_steps k l = greedy_steps (next p) (count p) k l

  -- ---- full runs
  pub full_run : (r : List ℕ) → is_full p r ≡ true → (is_run p r ≡ true) × (length r ≡ count p)
  unfolding is_full
  full_run r h = (
    and_left (is_run p r) (eqb (length r) (count p)) h,
    eqb-true (length r) (count p) (and_right (is_run p r) (eqb (length r) (count p)) h),
  )

  pub run_full : (r : List ℕ) → is_run p r ≡ true → length r ≡ count p → is_full p r ≡ true
  unfolding is_full
  run_full r h l = and_both (is_run p r) (eqb (length r) (count p)) h (eq-eqb (length r) (count p) l)

  pub full_has : (r : List ℕ) → is_full p r ≡ true → (i : ℕ) → i < count p → member i r ≡ true
  full_has r h i l = let f = full_run r h in
      full_all (count p) (enabled p) r (unfold is_run in f.0) (omega (arith, f.1)) i l
