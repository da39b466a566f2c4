-- One operation more at the end, which signals nothing: a full run, and then the new operation, is a full run. Assumes
-- nothing.
use mathlib.Core.Path.{◌≡◌, sym, ap, ◌∙◌, subst}
use mathlib.Core.Bool.{true}
use mathlib.Core.List.{List, [], ◌∷◌, ◌++◌, Memᴰ}
use Prim.Native.Nat.{ℕ, ◌<◌}
use native.Mathlib.Omega.{arith}
use lib.ListN.{get_or, take, length-append}
use Rattle.base_lists.specs.Lists.{member}
use Rattle.base_lists.proofs.Tests.{is_false}
use Rattle.order.specs.Runs.{runs}
use Rattle.order.proofs.Runs.{can_below, can_fresh, can_enabled, can_by, run_below, runs_snoc}
use Rattle.order.proofs.Turns.{run_turns, turns_run}
use Rattle.plan_format.specs.Plan.{Point, Operation, Plan, count}
use Rattle.plan_order.specs.Precedence.{Resolution}
use Rattle.plan_order.specs.Runs.{rested, wait_met, enabled, is_run, is_full}
use Rattle.plan_order.proofs.Readiness.{enabled_gives, enabled_by}
use Rattle.plan_order.proofs.Standard.{full_run, full_has, run_full}
use Rattle.plan_change.specs.Longer.{with_last}
use Rattle.plan_change.proofs.Longer.{last_count, last_same, last_op, last_resolves}

module _ (p : Plan) (o : Operation) (silent : o.signals ≡ []) where
  abbrev grown : Plan
  grown = with_last p o

  -- the same waits are met
  met_same : (r : List ℕ) (w : Point) → wait_met grown r w ≡ wait_met p r w
  unfolding wait_met
  met_same r w = ap (λ (z : Resolution). rested r z) (last_resolves p o silent w)

  enabled_same : (r : List ℕ) (j : ℕ) → j < count p → enabled p r j ≡ true → enabled grown r j ≡ true
  enabled_same r j l e =
      let was = enabled_gives p r j e in
      let same = last_same p o j l in
      enabled_by grown r j (record {
        earlier = λ k b q. was.earlier k b
            (ap (λ (z : Operation). z.queue) (sym (last_same p o k (omega arith))) ∙ q ∙
            ap (λ (z : Operation). z.queue) same);
        waits = λ w m. met_same r w ∙ was.waits w (subst (λ (z : Operation). Memᴰ w z.waits) same m);
      })

  -- a run of the shorter plan is one of the longer plan
  old_run : (r : List ℕ) → runs (count p) (enabled p) [] r ≡ true → runs (count grown) (enabled grown) [] r ≡ true
  old_run r h =
      turns_run (count grown) (enabled grown) r (λ k l.
      let can = run_turns (count p) (enabled p) r h k l in
      let x = get_or r k 0 in
      let inside = can_below (count p) (enabled p) (take k r) x can in
      can_by (count grown) (enabled grown) (take k r) x (omega (arith, last_count p o))
      (can_fresh (count p) (enabled p) (take k r) x can)
      (enabled_same (take k r) x inside (can_enabled (count p) (enabled p) (take k r) x can)))

  -- R24: a full run of the shorter plan that meets the waits, and then the new operation
  pub last_full : (r : List ℕ) → is_full p r ≡ true →
      ((w : Point) → Memᴰ w o.waits → wait_met p r w ≡ true) →
      is_full grown (r ++ (count p ∷ [])) ≡ true
  unfolding is_run
  last_full r full met =
      let f = full_run p r full in
      let below = run_below (count p) (enabled p) r f.0 in
      let new : enabled grown r (count p) ≡ true =
      enabled_by grown r (count p) (record {
        earlier = λ k l q. full_has p r full k l;
        waits = λ w m. met_same r w ∙ met w (subst (λ (z : Operation). Memᴰ w z.waits) (last_op p o) m);
      }) in
      run_full grown (r ++ (count p ∷ []))
      (runs_snoc (count grown) (enabled grown) r (count p) (old_run r f.0)
      (can_by (count grown) (enabled grown) r (count p) (omega (arith, last_count p o))
      (is_false (member (count p) r) (λ m. absurd (omega (arith, below (count p) m)))) new))
      (length-append r (count p ∷ []) ∙ omega (arith, last_count p o, f.1))
