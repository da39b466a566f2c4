-- What a run, a full run and readiness are, by quantifiers. Assumes nothing.
use mathlib.Core.Path.{◌≡◌, refl, sym, ◌∙◌, subst, subst₂}
use mathlib.Core.Bool.{true, false≢true}
use mathlib.Core.Logic.{◌↔◌}
use mathlib.Core.List.{List, [], ◌∷◌, ◌++◌}
use Prim.Native.Nat.{ℕ, ◌≤◌, ◌<◌}
use native.Mathlib.Nat.{le_refl, le_trans}
use native.Mathlib.Omega.{arith}
use lib.Dec.{ltb}
use lib.ListN.{length, get_or, take}
use borrow.Author.Tests.{ltb-true, ltb-false, eqb-true, eq-eqb}
use Rattle.base_lists.specs.Lists.{member}
use Rattle.base_lists.specs.Places.{Among}
use Rattle.base_lists.proofs.Tests.{by_cases, clash, is_false}
use Rattle.base_lists.proofs.Distinct.{sized_full}
use Rattle.base_lists.proofs.Places.{member_place, member_at, place_member, take_place, place_take}
use Rattle.order.specs.Runs.{step_of}
use Rattle.order.proofs.Runs.{can_below, can_fresh, can_enabled, can_by, runs_snoc, run_sized}
use Rattle.order.proofs.Turns.{run_turns, turns_run, run_last, step_is}
use Rattle.plan_format.specs.Plan.{Point, Plan, count, op}
use Rattle.plan_order.specs.Precedence.{Resolution, on, never, resolve, rests_on}
use Rattle.plan_order.specs.Runs.{reached, rested, wait_met, enabled, ready, is_run, is_full}
use Rattle.plan_order.specs.Meaning.{Signals, Resolves, HighestSignalled, Met, RunStep, RunMeans, FullMeans}
use Rattle.plan_order.specs.Meaning.{ReadyMeans}
use Rattle.plan_order.proofs.Signals.{signals_value, value_under}
use Rattle.plan_order.proofs.Readiness.{reached_has, reached_gives, enabled_gives, enabled_by, predecessors_run}
use Rattle.plan_order.proofs.Readiness.{WaitsGood, predecessors_suffice}
use Rattle.plan_order.proofs.OrderMeaning.{signals_means, rests_means, direct_means}
use Rattle.plan_order.proofs.Standard.{full_run, run_full, full_has}

module _ (p : Plan) where
  -- ---- the value that a semaphore has reached is the highest signalled
  signals_at : (s v i u : ℕ) (r : List ℕ) → Among r (length r) i → signals_value s u (op p i).signals ≡ true → u ≡ v →
      (k : ℕ) × (k < length r) × Signals p (get_or r k 0) s v
  signals_at s v i u r w h e =
      (w.0, w.1, subst₂ (λ (y z : ℕ). Signals p y s z) (sym w.2) e ((signals_means p i s u).0 h))

  reached_highest : (s : ℕ) (r : List ℕ) → HighestSignalled p s r (reached p s r)
  reached_highest s r = record {
    highest = λ k u l w.
        le_trans (value_under s u (op p (get_or r k 0)).signals ((signals_means p (get_or r k 0) s u).1 w))
        (reached_has p s r (get_or r k 0) (member_at r k l));
    signalled = λ pos. let g = reached_gives p s (reached p s r) r pos (le_refl (reached p s r)) in
        let under : g.1 ≤ reached p s r =
        le_trans (value_under s g.1 (op p g.0).signals g.4) (reached_has p s r g.0 g.2) in
        signals_at s (reached p s r) g.0 g.1 r (member_place r g.0 g.2) g.4 (omega (arith, g.3));
  }

  highest_one : (s : ℕ) (r : List ℕ) (u v : ℕ) → HighestSignalled p s r u → HighestSignalled p s r v → u ≤ v
  highest_one s r u v a b =
      by_cases (ltb 0 u) (λ t. let w = a.signalled (ltb-true 0 u t) in b.highest w.0 u w.1 w.2)
      (λ f. omega (arith, ltb-false 0 u f))

  pub reached_means : (s : ℕ) (r : List ℕ) (v : ℕ) → (reached p s r ≡ v) ↔ HighestSignalled p s r v
  reached_means s r v = (
    (λ e. subst (λ (z : ℕ). HighestSignalled p s r z) e (reached_highest s r)),
    (λ h. let a = highest_one s r (reached p s r) v (reached_highest s r) h in
        let b = highest_one s r v (reached p s r) h (reached_highest s r) in omega arith),
  )

  -- ---- waits that are met
  rested_gives : (has : ℕ → Type 0) (r : List ℕ) (w : Point) → ((i : ℕ) → member i r ≡ true → has i) →
      (z : Resolution) → rested r z ≡ true → ((i : ℕ) → rests_on z i ≡ true → Resolves p w i) → Met p has w
  unfolding rested rests_on
  rested_gives has r w of (on x) m h =
      (x.operation, h x.operation (eq-eqb x.operation x.operation refl), of x.operation m)
  rested_gives has r w of never m h = absurd (false≢true m)

  pub rested_on : (r : List ℕ) (z : Resolution) (i : ℕ) → rests_on z i ≡ true → member i r ≡ true → rested r z ≡ true
  unfolding rested rests_on
  rested_on r (on x) i t m = subst (λ (k : ℕ). member k r ≡ true) (sym (eqb-true x.operation i t)) m
  rested_on r never i t m = absurd (false≢true t)

  -- after a run, of which `has` tells what is in it
  pub wait_met_means : (has : ℕ → Type 0) (r : List ℕ) → ((i : ℕ) → (member i r ≡ true) ↔ has i) → (w : Point) →
      (wait_met p r w ≡ true) ↔ Met p has w
  unfolding wait_met
  wait_met_means has r of w = (
    (λ m. rested_gives has r w (λ i. (of i).0) (resolve p w) m (λ i. (rests_means p w i).0)),
    (λ g. rested_on r (resolve p w) g.0 ((rests_means p w g.0).1 g.1) ((of g.0).1 g.2)),
  )

  -- ---- runs
  in_front : (r : List ℕ) (k : ℕ) → k ≤ length r → (i : ℕ) → (member i (take k r) ≡ true) ↔ Among r k i
  in_front r k l i = (take_place r k i l, place_take r k i l)

  step_gives : (r : List ℕ) (k : ℕ) → k < length r → ready p (take k r) (get_or r k 0) ≡ true → RunStep p r k
  unfolding ready
  step_gives r k l c =
      let j = get_or r k 0 in
      let short : k ≤ length r = omega arith in
      let e = enabled_gives p (take k r) j (can_enabled (count p) (enabled p) (take k r) j c) in
      record {
        operation = can_below (count p) (enabled p) (take k r) j c;
        distinct = λ w. clash (member j (take k r)) (place_take r k j short w)
            (can_fresh (count p) (enabled p) (take k r) j c);
        earlier = λ i b q. take_place r k i short (e.earlier i b q);
        waits = λ w m. (wait_met_means (Among r k) (take k r) (in_front r k short) w).0 (e.waits w m);
      }

  gives_step : (r : List ℕ) (k : ℕ) → k < length r → RunStep p r k → ready p (take k r) (get_or r k 0) ≡ true
  unfolding ready
  gives_step r k l h =
      let j = get_or r k 0 in
      let short : k ≤ length r = omega arith in
      can_by (count p) (enabled p) (take k r) j h.operation
      (is_false (member j (take k r)) (λ t. h.distinct (take_place r k j short t)))
      (enabled_by p (take k r) j (record {
        earlier = λ i b q. place_take r k i short (h.earlier i b q);
        waits = λ w m. (wait_met_means (Among r k) (take k r) (in_front r k short) w).1 (h.waits w m);
      }))

  pub run_means : (r : List ℕ) → (is_run p r ≡ true) ↔ RunMeans p r
  unfolding is_run ready
  run_means r = (
    (λ h k l. step_gives r k l (run_turns (count p) (enabled p) r h k l)),
    (λ h. turns_run (count p) (enabled p) r (λ k l. gives_step r k l (h k l))),
  )

  -- the step of an operation is its place in the run
  pub step_place : (r : List ℕ) → is_run p r ≡ true → (k : ℕ) → k < length r → step_of 0 r (get_or r k 0) ≡ k
  step_place r h k l = step_is r (get_or r k 0) k l refl ((run_means r).0 h k l).distinct

  pub full_means : (r : List ℕ) → (is_full p r ≡ true) ↔ FullMeans p r
  unfolding is_run
  full_means r = (
    (λ h. record { run = (run_means r).0 (full_run p r h).0; every = λ i l. member_place r i (full_has p r h i l) }),
    (λ h. let t = (run_means r).1 h.run in
        run_full p r t
        (sized_full (count p) r (run_sized (count p) (enabled p) r t) (λ i l. place_member r i (h.every i l)))),
  )

  -- ---- ready: adding it gives a run
  pub ready_adds : (r : List ℕ) (j : ℕ) → is_run p r ≡ true → ready p r j ≡ is_run p (r ++ (j ∷ []))
  unfolding is_run ready
  ready_adds r j h =
      by_cases (ready p r j)
      (λ t. t ∙ sym (runs_snoc (count p) (enabled p) r j h t))
      (λ f. f
      ∙ sym (is_false (is_run p (r ++ (j ∷ []))) (λ t. clash (ready p r j) (run_last (count p) (enabled p) r j t) f)))

  -- without refusals 8 and 16: what is directly before it has run
  pub ready_means : WaitsGood p →
      (r : List ℕ) (j : ℕ) → is_run p r ≡ true → (ready p r j ≡ true) ↔ ReadyMeans p r j
  unfolding is_run ready
  ready_means waits_good r j h = (
    (λ c. record {
      operation = can_below (count p) (enabled p) r j c;
      not_run = λ w. clash (member j r) (place_member r j w) (can_fresh (count p) (enabled p) r j c);
      before =
          λ i d. member_place r i (predecessors_run p r i j h (can_enabled (count p) (enabled p) r j c)
          ((direct_means p i j).1 d));
    }),
    (λ m. can_by (count p) (enabled p) r j m.operation (is_false (member j r) (λ t. m.not_run (member_place r j t)))
        (predecessors_suffice p waits_good r j m.operation
        (λ i d. place_member r i (m.before i ((direct_means p i j).0 d))))),
  )
