-- The statements over stored plans, each under its own name. Assumes nothing.
use mathlib.Core.Path.{◌≡◌, sym, ap, ◌∙◌, subst}
use mathlib.Core.Bool.{true, false, true≢false}
use mathlib.Core.Logic.{inl, ◌↔◌}
use mathlib.Core.List.{List}
use Prim.Native.Nat.{ℕ, ◌<◌}
use lib.Dec.{eqb}
use borrow.Author.Tests.{eqb-true}
use Rattle.base_lists.proofs.Tests.{by_cases, and_left, and_right}
use Rattle.order.specs.Runs.{step_of}
use Rattle.order.proofs.Turns.{run_last}
use Rattle.plan_format.specs.Plan.{Plan, count}
use Rattle.plan_format.specs.Refusal.{Refusal, none_given, given}
use Rattle.plan_format.specs.Sound.{Sound}
use Rattle.plan_format.specs.Stored.{all_bytes, plan_in, plan_refusal}
use Rattle.plan_format.proofs.Plans.{sound_in}
use Rattle.plan_format.proofs.Taking.{takes_plans}
use Rattle.plan_order.specs.Check.{room_refusal, order_refusal, zeros, rows_and_run, outcome, or_then}
use Rattle.plan_order.specs.Check.{check_outcome}
use Rattle.plan_order.specs.Promise.{Safe, Demand3, unrefused, Demand3Stored, BeforeRight, BeforeForces}
use Rattle.plan_order.specs.Promise.{StandardRight, good, passed, PassedKeeps, PassedRuns, NeverStuck, Raises}
use Rattle.plan_order.specs.Promise.{StuckTruly, DisorderedTruly, BrokenTruly, NoneItself, Demand3OfPlans}
use Rattle.plan_order.specs.Precedence.{Before}
use Rattle.plan_order.specs.Runs.{enabled, ready, is_run, is_full}
use Rattle.plan_order.proofs.Demand2.{before_forces, standard_right}
use Rattle.plan_order.proofs.Demand3.{demand_3}
use Rattle.plan_order.proofs.Precedence.{before_chain, chain_before, not_itself}

-- ---- what the tests of stored plans say
pub good_sound : (bs : List ℕ) → good bs ≡ true → Sound (plan_in bs)
unfolding good
good_sound bs g =
    sound_in bs (eqb-true (plan_refusal bs).number 0 (and_right (all_bytes bs) (eqb (plan_refusal bs).number 0) g))

passed_good : (bs : List ℕ) → passed bs ≡ true → (good bs ≡ true) × ((order_refusal (plan_in bs)).number ≡ 0)
unfolding passed
passed_good bs h = (
  and_left (good bs) (eqb (order_refusal (plan_in bs)).number 0) h,
  eqb-true (order_refusal (plan_in bs)).number 0 (and_right (good bs) (eqb (order_refusal (plan_in bs)).number 0) h),
)

of_good : (bs : List ℕ) → good bs ≡ true →
    Demand3 (plan_in bs) (order_refusal (plan_in bs)).number (order_refusal (plan_in bs)).place
of_good bs g = demand_3 (plan_in bs) (good_sound bs g)

safe_passed : (bs : List ℕ) → passed bs ≡ true → Safe (plan_in bs)
safe_passed bs h = let g = passed_good bs h in (of_good bs g.0).exactly.0 g.1

-- ---- the statements over stored plans
pub passed_keeps : PassedKeeps
unfolding PassedKeeps
passed_keeps bs r b h f = (safe_passed bs h).kept r b f

pub passed_runs : PassedRuns
unfolding PassedRuns
passed_runs bs h = let s = safe_passed bs h in (s.run, s.full)

pub never_stuck_stored : NeverStuck
unfolding NeverStuck ready is_run
never_stuck_stored bs r h f l =
    let g = passed_good bs h in
    let w = (of_good bs g.0).never_stuck g.1 r f l in
    (w.0, run_last (count (plan_in bs)) (enabled (plan_in bs)) r w.0 w.1)

pub raises_stored : Raises
unfolding Raises
raises_stored bs r h f = let g = passed_good bs h in (of_good bs g.0).raises (inl g.1) r f

pub stuck_truly : StuckTruly
unfolding StuckTruly
stuck_truly bs g e = (of_good bs g).stuck e

pub disordered_truly : DisorderedTruly
unfolding DisorderedTruly
disordered_truly bs g e = (of_good bs g).disordered e

pub broken_truly : BrokenTruly
unfolding BrokenTruly
broken_truly bs g e = (of_good bs g).broken e

pub before_right : BeforeRight
unfolding BeforeRight
before_right bs i j = ((λ h. before_chain (plan_in bs) i j h), (λ c. chain_before (plan_in bs) i j c))

pub none_itself_stored : NoneItself
unfolding NoneItself
none_itself_stored bs j h = let s = safe_passed bs h in not_itself (plan_in bs) s.run s.full j

pub before_forces_stored : (bs : List ℕ) → passed bs ≡ true → (i j : ℕ) → i < count (plan_in bs) →
    j < count (plan_in bs) →
    Before (plan_in bs) i j ↔ ((r : List ℕ) → is_full (plan_in bs) r ≡ true → step_of 0 r i < step_of 0 r j)
unfolding BeforeForces
before_forces_stored bs h =
    let s = safe_passed bs h in before_forces (plan_in bs) (good_sound bs (passed_good bs h).0) s.run s.full

pub standard_right_stored : (bs : List ℕ) → good bs ≡ true → StandardRight (plan_in bs)
standard_right_stored bs g = standard_right (plan_in bs) (good_sound bs g)

-- ---- demand 3 of what the check hands back
pub demand_3_stored : (bs : List ℕ) (t l : ℕ) →
    Demand3Stored bs t l (check_outcome bs t l).refusal.number (check_outcome bs t l).refusal.place
unfolding Demand3Stored unrefused check_outcome or_then outcome given none_given
demand_3_stored bs t l h =
    let a = plan_refusal bs in
    let b = room_refusal (count (plan_in bs)) t l in
    by_cases (eqb a.number 0)
    (λ x. by_cases (eqb b.number 0)
    (λ y. rw (x, y)
    (either_way (order_refusal (plan_in bs)) (demand_3 (plan_in bs) (sound_in bs (eqb-true a.number 0 x)))))
    (λ y. absurd (true≢false (sym (let z : false ≡ true = rw (x, y) at h in z)))))
    (λ x. absurd (true≢false (sym (let z : false ≡ true = rw x at h in z))))
  where
    either_way : (f : Refusal) → Demand3 (plan_in bs) f.number f.place →
        Demand3 (plan_in bs) (or_then (outcome f zeros) (outcome none_given rows_and_run)).refusal.number
        (or_then (outcome f zeros) (outcome none_given rows_and_run)).refusal.place
    either_way f d =
        by_cases (eqb f.number 0)
        (λ z. rw z (subst (λ (k : ℕ). Demand3 (plan_in bs) 0 k) (d.passed_place (eqb-true f.number 0 z))
        (subst (λ (k : ℕ). Demand3 (plan_in bs) k f.place) (eqb-true f.number 0 z) d)))
        (λ z. rw z d)

-- and of every plan that can be stored, in whichever form
pub demand_3_of_plans : (bs : List ℕ) (t l n i : ℕ) → Demand3Stored bs t l n i → Demand3OfPlans bs t l n i
unfolding Demand3OfPlans Demand3Stored
demand_3_of_plans bs t l n i d p w is h =
    subst (λ (z : Plan). Demand3 z n i) (ap plan_in is ∙ (takes_plans.every p w).plan_read) (d h)
