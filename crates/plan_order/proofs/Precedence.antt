-- Before: worked out as by chains, forced in every full run, and nothing else is forced. Assumes nothing.
use mathlib.Core.Path.{◌≡◌, sym, ◌∙◌, subst}
use mathlib.Core.Bool.{true, false}
use mathlib.Core.Logic.{◌⊎◌, inl, inr, ◌↔◌}
use mathlib.Core.List.{List}
use Prim.Native.Nat.{ℕ, ◌<◌}
use native.Mathlib.Nat.{lt_irrefl}
use native.Mathlib.Omega.{arith}
use lib.Dec.{eqb}
use borrow.Author.Tests.{eqb-true, eq-eqb}
use Rattle.base_lists.proofs.Tests.{clash, is_false, or_cases, or_left, or_right, either}
use Rattle.order.specs.Runs.{step_of}
use Rattle.order.specs.Closure.{once, more}
use Rattle.order.proofs.Closure.{chain_from, worked_chain, chain_worked}
use Rattle.order.proofs.Extensions.{chain_steps, either_first}
use Rattle.plan_format.specs.Plan.{Plan, count}
use Rattle.plan_order.specs.Precedence.{direct, Before, all_before, before, at_or_before}
use Rattle.plan_order.specs.Runs.{enabled, is_run, is_full}
use Rattle.plan_order.proofs.Readiness.{direct_below, predecessors_run, WaitsGood, predecessors_suffice}
use Rattle.plan_order.proofs.Standard.{full_run, run_full, full_has}

module _ (p : Plan) where
  pub before_chain : (i j : ℕ) → before p i j ≡ true → Before p i j
  unfolding before all_before
  before_chain i j h = worked_chain (direct p) j (count p) i h

  pub chain_before : (i j : ℕ) → Before p i j → before p i j ≡ true
  unfolding before all_before
  chain_before i j c = chain_worked (direct p) j (count p) (λ i k e. (direct_below p i k e).0) i c

  -- both ends of a chain are operations
  pub chain_below : (i j : ℕ) → Before p i j → (i < count p) × (j < count p)
  chain_below i j (once _ _ e) = direct_below p i j e
  chain_below i j (more _ k _ c e) = ((chain_below i k c).0, (direct_below p k j e).1)

  -- what is directly before what is before
  pub before_down : (i k j : ℕ) → direct p i k ≡ true → before p k j ≡ true → before p i j ≡ true
  before_down i k j e b = chain_before i j (chain_from (direct p) i k j e (before_chain k j b))

  pub before_join : (i m k : ℕ) → Before p i m → before p m k ≡ true → before p i k ≡ true
  before_join i m k (once _ _ d) b = before_down i m k d b
  before_join i m k (more _ h _ c d) b = before_join i h k c (before_down h m k d b)

  -- at or before, by chains
  abbrev pub At : (i j : ℕ) → Type 0
  At i j = (i ≡ j) ⊎ Before p i j

  pub at_join : (i j k : ℕ) → At i j → At j k → At i k
  at_join i j k (inl e) b = subst (λ (z : ℕ). At z k) (sym e) b
  at_join i j k (inr a) (inl e) = inr (subst (λ (z : ℕ). Before p i z) e a)
  at_join i j k (inr a) (inr b) = inr (before_chain i k (before_join i j k a (chain_before j k b)))

  pub at_or_down : (i k j : ℕ) → at_or_before p k j ≡ true → direct p i k ≡ true → at_or_before p i j ≡ true
  unfolding at_or_before
  at_or_down i k j t e =
      or_right (eqb i j) (before p i j)
      (either (or_cases (eqb k j) (before p k j) t)
      (λ q. chain_before i j (once i j (subst (λ (z : ℕ). direct p i z ≡ true) (eqb-true k j q) e)))
      (λ b. before_down i k j e b))

  pub at_or_means : (i j : ℕ) → (at_or_before p i j ≡ true) ↔ At i j
  unfolding at_or_before
  at_or_means i j = (
    (λ t. either (or_cases (eqb i j) (before p i j) t) (λ q. inl (eqb-true i j q)) (λ b. inr (before_chain i j b))),
    (λ w. either w (λ q. or_left (eqb i j) (before p i j) (eq-eqb i j q))
        (λ c. or_right (eqb i j) (before p i j) (chain_before i j c))),
  )

  -- before, so at an earlier step of every run that has the later one
  pub before_steps : (r : List ℕ) → is_full p r ≡ true → (i j : ℕ) → before p i j ≡ true → step_of 0 r i < step_of 0 r j
  unfolding is_run
  before_steps r h i j e =
      let c = before_chain i j e in
      (chain_steps (count p) (enabled p) (direct p) (predecessors_run p) r i j (full_run p r h).0
      (full_has p r h j (chain_below i j c).1) c).1

  pub not_itself : (r : List ℕ) → is_full p r ≡ true → (j : ℕ) → before p j j ≡ false
  not_itself r h j = is_false (before p j j) (λ t. lt_irrefl (step_of 0 r j) (before_steps r h j j t))

  module _ (waits_good : WaitsGood p) where
    -- not before, and another: some full run has it the other way
    pub unordered : (f : List ℕ) → is_full p f ≡ true → (i j : ℕ) → j < count p → (i ≡ j → ⊥) → before p i j ≡ false →
        (g : List ℕ) × (is_full p g ≡ true) × (step_of 0 g j < step_of 0 g i)
    unfolding is_run
    unordered f h i j b ne n =
        let r = full_run p f h in
        let w = either_first (count p) (enabled p) (direct p) (predecessors_run p) (predecessors_suffice p waits_good)
        (λ i k e. (direct_below p i k e).0) f r.0 (omega (arith, r.1)) i j b ne
        (λ c. clash (before p i j) (chain_before i j c) n) in
        (w.0, run_full p w.0 w.1 (w.2 ∙ r.1), w.3)
