-- The highest value signalled on a semaphore by what has run, by one pass over the plan's signals. Assumes nothing.
use mathlib.Core.Path.{◌≡◌, refl, ap, ap₂, ◌∙◌}
use mathlib.Core.Bool.{Bool, true, ◌&&◌, cond, and-false, and-true}
use mathlib.Core.List.{List, [], ◌∷◌, ◌++◌}
use Prim.Native.Nat.{ℕ, zero, suc, ◌+◌, ◌≤◌, ◌<◌, zero-le, max}
use native.Mathlib.Omega.{arith}
use lib.Dec.{eqb}
use lib.ListN.{length, get_or}
use Rattle.base_lists.specs.Lists.{member}
use Rattle.base_lists.proofs.Tests.{by_cases}
use Rattle.order.proofs.Runs.{run_below}
use Rattle.plan_format.specs.Plan.{Point, Operation, Plan, empty_operation, count, op}
use Rattle.plan_format.specs.Sound.{highest_in}
use Rattle.plan_order.specs.Precedence.{Signal, signals_of, signals_from, plan_signals}
use Rattle.plan_order.specs.Runs.{reached, enabled, is_run}
use Rattle.plan_order.proofs.Readiness.{reached_has, reached_under}

-- the highest value on a semaphore of the signals whose operations pass a test
unfoldable pub top : (s : ℕ) → (ℕ → Bool) → List Signal → ℕ
top s f [] = 0
top s f (x ∷ xs) = max (cond (eqb x.semaphore s && f x.operation) x.value 0) (top s f xs)

module _ (s : ℕ) (f : ℕ → Bool) where
  top_append : (xs ys : List Signal) → top s f (xs ++ ys) ≡ max (top s f xs) (top s f ys)
  unfolding top
  top_append [] ys = omega arith
  top_append (x ∷ xs) ys = omega (arith, top_append xs ys)

  top_of : (i k : ℕ) (xs : List Point) → top s f (signals_of i k xs) ≡ cond (f i) (highest_in s xs) 0
  unfolding top signals_of highest_in
  top_of i k [] = by_cases (f i) (λ t. rw t) (λ g. rw g)
  top_of i k (x ∷ xs) =
      by_cases (f i)
      (λ t. rw (top_of i (suc k) xs, t, and-true (eqb x.semaphore s)))
      (λ g. rw (top_of i (suc k) xs, g, and-false (eqb x.semaphore s)))

  most_from : (i : ℕ) → List Operation → ℕ
  most_from i [] = 0
  most_from i (o ∷ os) = max (cond (f i) (highest_in s o.signals) 0) (most_from (suc i) os)

  top_from : (i : ℕ) (os : List Operation) → top s f (signals_from i os) ≡ most_from i os
  unfolding top signals_from most_from
  top_from i [] = refl
  top_from i (o ∷ os) =
      top_append (signals_of i 0 o.signals) (signals_from (suc i) os) ∙
      ap₂ (λ (a b : ℕ). max a b) (top_of i 0 o.signals) (top_from (suc i) os)

  most_has : (i : ℕ) (os : List Operation) (k : ℕ) → k < length os → f (i + k) ≡ true →
      highest_in s (get_or os k empty_operation).signals ≤ most_from i os
  unfolding most_from
  most_has i [] k l t = absurd (omega arith)
  most_has i (o ∷ os) zero l t = let t' : f i ≡ true = ap f (let e : i ≡ i + 0 = omega arith in e) ∙ t in
      rw t' (omega arith)
  most_has i (o ∷ os) (suc k) l t = omega (
    arith,
    most_has (suc i) os k (omega arith) (ap f (let e : suc i + k ≡ i + suc k = omega arith in e) ∙ t),
  )

  most_under : (i : ℕ) (os : List Operation) (b : ℕ) →
      ((k : ℕ) → k < length os → f (i + k) ≡ true → highest_in s (get_or os k empty_operation).signals ≤ b) →
      most_from i os ≤ b
  unfolding most_from
  most_under i [] b h = zero-le
  most_under i (o ∷ os) b h =
      let rest = most_under (suc i) os b (λ k l t. h (suc k) (omega arith)
      (ap f (let e : i + suc k ≡ suc i + k = omega arith in e) ∙ t)) in
      by_cases (f i)
      (λ t. rw t (omega (arith, h 0 (omega arith) (ap f (let e : i + 0 ≡ i = omega arith in e) ∙ t))))
      (λ g. rw g (omega arith))

pub top_reached : (p : Plan) (s : ℕ) (r : List ℕ) → is_run p r ≡ true →
    top s (λ i. member i r) (plan_signals p) ≡ reached p s r
unfolding plan_signals is_run
top_reached p s r a_run =
    let f : ℕ → Bool = λ i. member i r in
    let up = most_under s f 0 p.operations (reached p s r)
    (λ k l t. unfold op in (reached_has p s r k (ap f (let e : k ≡ 0 + k = omega arith in e) ∙ t))) in
    let down = reached_under p s r (most_from s f 0 p.operations) (λ i m.
    unfold op in (most_has s f 0 p.operations i
    (unfold count in (run_below (count p) (λ r j. enabled p r j) r a_run i m))
    (ap f (let e : 0 + i ≡ i = omega arith in e) ∙ m))) in
    top_from s f 0 p.operations ∙ omega arith
