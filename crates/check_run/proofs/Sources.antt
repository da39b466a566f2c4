-- The source column and what is directly before an operation by a wait; what holds an operation, by its three sources.
-- Assumes nothing.
use mathlib.Core.Path.{◌≡◌, sym, ap, ◌∙◌, subst}
use mathlib.Core.Bool.{true}
use mathlib.Core.Logic.{◌⊎◌, inl, inr}
use mathlib.Core.List.{List, Memᴰ}
use Prim.Native.Nat.{ℕ, zero, suc, ◌+◌, ◌*◌, ◌≤◌, ◌<◌}
use native.Mathlib.Nat.{le_refl}
use native.Mathlib.Omega.{arith}
use lib.Dec.{ltb, eqb}
use lib.ListN.{length, get_or}
use borrow.Author.Tests.{ltb-true, ltb-false, eqb-true, eqb-false}
use Rattle.base_lists.proofs.Tests.{by_cases, either}
use Rattle.base_lists.proofs.Elements.{element_at, element_place}
use Rattle.plan_format.specs.Sizes.{no_operation}
use Rattle.plan_format.specs.Plan.{Point, Plan, count, op}
use Rattle.plan_order.specs.Precedence.{Signal, Resolution, on, resolve, rests_on}
use Rattle.plan_order.proofs.Resolution.{Rests, rests_it}
use Rattle.plan_order.proofs.Readiness.{own_rests}
use Rattle.plan_order.proofs.Demand3.{waits_good}
use Rattle.check_columns.specs.Columns.{no_point, wait_at}
use Rattle.check_run.specs.Queues.{held_by, blocker_of}
use Rattle.check_run.specs.Run.{RunGiven}
use Rattle.check_run.proofs.Looks.{held_yes, held_no}

-- ---- what a place of the column shows
pub data Rest (p : Plan) (j : ℕ) : ℕ → Type 0 where
  on_nothing : Rest p j no_operation
  on_operation : (i : ℕ) → i < count p → (w : Point) → Memᴰ w (op p j).waits →
      rests_on (resolve p w) i ≡ true → Rest p j i

module _ (p : Plan) (n : ℕ) (queue source : List ℕ) (shown : RunGiven p n queue source) where
  -- what a wait at a place rests on
  wait_in : (j k : ℕ) → k < length (op p j).waits → Memᴰ (wait_at p j k) (op p j).waits
  unfolding wait_at
  wait_in j k b = element_at no_point (op p j).waits k b

  rest_at : (j k : ℕ) → j < count p → k < length (op p j).waits →
      (x : Signal) × Rests p (wait_at p j k) x × (resolve p (wait_at p j k) ≡ on x)
  rest_at j k l b = own_rests p (waits_good p shown.sound) j l (wait_at p j k) (wait_in j k b)

  pub source_is : (j k : ℕ) → j < count p → k < 3 → Rest p j (get_or source (3 * j + k) 0)
  source_is j k l b =
      let many = length (op p j).waits in
      by_cases (ltb k many)
      (λ t. let there = ltb-true k many t in
      let (x, rests, e) = rest_at j k l there in
      subst (λ (i : ℕ). Rest p j i) (sym (shown.sources.rests j k x l there e))
      (on_operation x.operation rests.inside (wait_at p j k) (wait_in j k there)
      (rests_it p (wait_at p j k) x e)))
      (λ f. subst (λ (i : ℕ). Rest p j i) (sym (shown.sources.absent j k l (ltb-false k many f) b)) on_nothing)

  -- what a wait of j rests on is at one of its three places
  pub source_has : (j : ℕ) → j < count p → (w : Point) → Memᴰ w (op p j).waits → (i : ℕ) →
      rests_on (resolve p w) i ≡ true → (k : ℕ) × (k < 3) × (get_or source (3 * j + k) 0 ≡ i)
  unfolding wait_at rests_on
  source_has j l w m i t =
      let g = element_place no_point (op p j).waits w m in
      let few : g.0 < 3 = omega (arith, g.1, shown.few_waits j l) in
      let (x, rests, e) = rest_at j g.0 l g.1 in
      let here : rests_on (on x) i ≡ true =
      subst (λ (r : Resolution). rests_on r i ≡ true) e
      (subst (λ (v : Point). rests_on (resolve p v) i ≡ true) (sym g.2) t) in (
        g.0,
        few,
        shown.sources.rests j g.0 x l g.1 e ∙ eqb-true x.operation i here,
      )

  pub source_small : (j k : ℕ) → j < count p → k < 3 → get_or source (3 * j + k) 0 ≤ no_operation
  source_small j k l b = small (get_or source (3 * j + k) 0) (source_is j k l b)
    where
      small : (x : ℕ) → Rest p j x → x ≤ no_operation
      small x on_nothing = le_refl no_operation
      small x (on_operation _ u w m t) = omega (arith, shown.sound.few_operations)

-- ---- what holds an operation
three : (P : ℕ → Type 0) → P 0 → P 1 → P 2 → (k : ℕ) → k < 3 → P k
three P a b c zero l = a
three P a b c (suc zero) l = b
three P a b c (suc (suc zero)) l = c
three P a b c (suc (suc (suc k))) l = absurd (omega arith)

module _ (ran : List ℕ) (a b : ℕ) where
  held_none : (get_or ran no_operation 0 ≡ 0 → ⊥) → held_by ran a b ≡ no_operation → (get_or ran a 0 ≡ 0 → ⊥)
      × (b ≡ no_operation)
  held_none stays e =
      let ran_it : get_or ran a 0 ≡ 0 → ⊥ =
      λ z. stays (ap (λ (x : ℕ). get_or ran x 0) (sym (sym (held_yes ran a b z) ∙ e)) ∙ z) in
      (ran_it, sym (held_no ran a b ran_it) ∙ e)

  held_where : (x : ℕ) → held_by ran a b ≡ x → ((a ≡ x) × (get_or ran x 0 ≡ 0)) ⊎ (b ≡ x)
  held_where x e =
      by_cases (eqb (get_or ran a 0) 0)
      (λ t. let z = eqb-true (get_or ran a 0) 0 t in
      let ax : a ≡ x = sym (held_yes ran a b z) ∙ e in inl (ax, ap (λ (y : ℕ). get_or ran y 0) (sym ax) ∙ z))
      (λ f. inr (sym (held_no ran a b (eqb-false (get_or ran a 0) 0 f)) ∙ e))

module _ (source ran : List ℕ) (j : ℕ) where
  first_place : get_or source (3 * j) 0 ≡ get_or source (3 * j + 0) 0
  first_place = ap (λ (x : ℕ). get_or source x 0) (let e : 3 * j ≡ 3 * j + 0 = omega arith in e)

  pub blocker_none : ((k : ℕ) → k < 3 → get_or ran (get_or source (3 * j + k) 0) 0 ≡ 0 → ⊥) →
      blocker_of source ran j ≡ no_operation
  unfolding blocker_of
  blocker_none h =
      rw first_place (held_no ran (get_or source (3 * j + 0) 0) _ (h 0 (omega arith))
      ∙ held_no ran (get_or source (3 * j + 1) 0) _ (h 1 (omega arith))
      ∙ held_no ran (get_or source (3 * j + 2) 0) no_operation (h 2 (omega arith)))

  pub no_blocker_gives : (get_or ran no_operation 0 ≡ 0 → ⊥) → blocker_of source ran j ≡ no_operation → (k : ℕ) →
      k < 3 →
      get_or ran (get_or source (3 * j + k) 0) 0 ≡ 0 → ⊥
  unfolding blocker_of
  no_blocker_gives stays e =
      let a = held_none ran (get_or source (3 * j) 0)
      (held_by ran (get_or source (3 * j + 1) 0) (held_by ran (get_or source (3 * j + 2) 0) no_operation)) stays e in
      let b = held_none ran (get_or source (3 * j + 1) 0) (held_by ran (get_or source (3 * j + 2) 0) no_operation) stays
      a.1 in
      let c = held_none ran (get_or source (3 * j + 2) 0) no_operation stays b.1 in
      three (λ k. get_or ran (get_or source (3 * j + k) 0) 0 ≡ 0 → ⊥)
      (subst (λ (x : ℕ). get_or ran x 0 ≡ 0 → ⊥) first_place a.0) b.0 c.0

  pub blocker_where : (x : ℕ) → blocker_of source ran j ≡ x → (x ≡ no_operation → ⊥) → (k : ℕ) × (k < 3)
      × (get_or source (3 * j + k) 0 ≡ x) × (get_or ran x 0 ≡ 0)
  unfolding blocker_of
  blocker_where x e ne =
      either (held_where ran (get_or source (3 * j) 0)
      (held_by ran (get_or source (3 * j + 1) 0) (held_by ran (get_or source (3 * j + 2) 0) no_operation)) x e)
      (λ w. (0, omega arith, sym first_place ∙ w.0, w.1))
      (λ u. either (held_where ran (get_or source (3 * j + 1) 0)
      (held_by ran (get_or source (3 * j + 2) 0) no_operation) x u)
      (λ w. (1, omega arith, w.0, w.1))
      (λ v. either (held_where ran (get_or source (3 * j + 2) 0) no_operation x v) (λ w. (2, omega arith, w.0, w.1))
      (λ z. absurd (ne (sym z)))))
