-- Signals of operations: the highest of a semaphore, and what refusals 7 and 8 rule out. Assumes nothing.
use mathlib.Core.Path.{◌≡◌, refl, subst}
use mathlib.Core.Bool.{Bool, true, false, ◌&&◌, ◌||◌, true≢false, false≢true}
use mathlib.Core.Logic.{◌⊎◌, inl, inr}
use mathlib.Core.List.{List, [], ◌∷◌, ◌++◌, append_assoc, append-nil}
use Prim.Native.Nat.{ℕ, zero, suc, ◌≤◌, ◌<◌, max}
use native.Mathlib.Nat.{le_of_suc-le-suc, not-suc-le-zero}
use native.Mathlib.Omega.{arith}
use lib.Dec.{ltb, leb, eqb}
use lib.ListN.{length, get_or, take}
use lib.Seq.{get_or-take}
use borrow.Author.Tests.{ltb-false, leb-true, leb-false, eqb-true, eqb-false, eq-eqb}
use Rattle.base_lists.proofs.Tests.{by_cases, is_false, and_left, and_right, and_both, or_cases}
use Rattle.base_lists.proofs.Tests.{or_left, or_right, either}
use Rattle.plan_format.specs.Refusal.{refusal, none_given}
use Rattle.plan_format.specs.Plan.{Point, Operation, Plan, empty_operation, count, op}
use Rattle.plan_format.specs.Sound.{highest_in, highest, signals_number, signals_refusal, too_high, any_too_high}
use Rattle.plan_format.specs.Sound.{waits_refusal}

-- an operation's list signals s to v
unfoldable pub signals_value : (s v : ℕ) → List Point → Bool
signals_value s v [] = false
signals_value s v (x ∷ xs) = (eqb x.semaphore s && eqb x.value v) || signals_value s v xs

pub value_under : (s v : ℕ) (xs : List Point) → signals_value s v xs ≡ true → v ≤ highest_in s xs
unfolding signals_value highest_in
value_under s v [] h = absurd (false≢true h)
value_under s v (x ∷ xs) h =
    either (or_cases (eqb x.semaphore s && eqb x.value v) (signals_value s v xs) h)
    (λ t. let a = and_left (eqb x.semaphore s) (eqb x.value v) t in
    rw a (omega (arith, eqb-true x.value v (and_right (eqb x.semaphore s) (eqb x.value v) t))))
    (λ t. omega (arith, value_under s v xs t))

pub value_here : (s v : ℕ) (x : Point) (xs : List Point) → x.semaphore ≡ s → x.value ≡ v →
    signals_value s v (x ∷ xs) ≡ true
unfolding signals_value
value_here s v x xs a b =
    or_left (eqb x.semaphore s && eqb x.value v) (signals_value s v xs)
    (and_both (eqb x.semaphore s) (eqb x.value v) (eq-eqb x.semaphore s a) (eq-eqb x.value v b))

pub value_there : (s v : ℕ) (x : Point) (xs : List Point) → signals_value s v xs ≡ true →
    signals_value s v (x ∷ xs) ≡ true
unfolding signals_value
value_there s v x xs h = or_right (eqb x.semaphore s && eqb x.value v) (signals_value s v xs) h

pub value_cons : (s v : ℕ) (x : Point) (xs : List Point) → signals_value s v (x ∷ xs) ≡ true →
    ((x.semaphore ≡ s) × (x.value ≡ v)) ⊎ (signals_value s v xs ≡ true)
unfolding signals_value
value_cons s v x xs h =
    either (or_cases (eqb x.semaphore s && eqb x.value v) (signals_value s v xs) h)
    (λ t. inl (
      eqb-true x.semaphore s (and_left (eqb x.semaphore s) (eqb x.value v) t),
      eqb-true x.value v (and_right (eqb x.semaphore s) (eqb x.value v) t),
    ))
    (λ t. inr t)

pub high_gives : (s v : ℕ) (xs : List Point) → 0 < v → v ≤ highest_in s xs →
    (y : ℕ) × (v ≤ y) × (signals_value s y xs ≡ true)
unfolding highest_in
high_gives s v [] a h = absurd (omega arith)
high_gives s v (x ∷ xs) a h =
    by_cases (leb v (highest_in s xs))
    (λ t. let w = high_gives s v xs a (leb-true v (highest_in s xs) t) in
    (w.0, w.1, value_there s w.0 x xs w.2))
    (λ f. by_cases (eqb x.semaphore s)
    (λ t. let h' : v ≤ max x.value (highest_in s xs) = rw t at h in (
      x.value,
      omega (arith, leb-false v (highest_in s xs) f),
      value_here s x.value x xs (eqb-true x.semaphore s t) refl,
    ))
    (λ g. let h' : v ≤ max 0 (highest_in s xs) = rw g at h in absurd (omega (arith, leb-false v (highest_in s xs) f))))

-- ---- over operations
pub highest_gives : (s v : ℕ) (os : List Operation) → 0 < v → v ≤ highest s os →
    (i : ℕ) × (y : ℕ) × (v ≤ y) × (signals_value s y (get_or os i empty_operation).signals ≡ true)
unfolding highest
highest_gives s v [] a h = absurd (omega arith)
highest_gives s v (o ∷ os) a h =
    by_cases (leb v (highest s os))
    (λ t. let w = highest_gives s v os a (leb-true v (highest s os) t) in (suc w.0, w.1, w.2, w.3))
    (λ f. let w = high_gives s v o.signals a (omega (arith, leb-false v (highest s os) f)) in (0, w.0, w.1, w.2))

pub highest_over : (s v : ℕ) (os : List Operation) (i : ℕ) →
    signals_value s v (get_or os i empty_operation).signals ≡ true → v ≤ highest s os
unfolding highest signals_value
highest_over s v [] i h = absurd (false≢true h)
highest_over s v (o ∷ os) zero h = omega (arith, value_under s v o.signals h)
highest_over s v (o ∷ os) (suc i) h = omega (arith, highest_over s v os i h)

-- ---- refusals 7 and 8, none given
-- a signal is above all signals before its operation
number_none : (bs : List Operation) (own xs : List Point) → signals_number bs own xs ≡ 0 →
    (s v : ℕ) → signals_value s v xs ≡ true → highest s bs < v
unfolding signals_number signals_value
number_none bs own [] e s v h = absurd (false≢true h)
number_none bs own (x ∷ xs) e s v h =
    let top = max (highest x.semaphore bs) (highest_in x.semaphore own) in
    by_cases (leb x.value top)
    (λ u. absurd (let z : 7 ≡ 0 = rw u at e in omega arith))
    (λ u. either (value_cons s v x xs h)
    (λ d. subst (λ (z : ℕ). highest z bs < v) d.0 (omega (arith, d.1, leb-false x.value top u)))
    (λ d. number_none bs (x ∷ own) xs (rw u at e) s v d))

refusal_head : (i : ℕ) (bs : List Operation) (o : Operation) (os : List Operation) →
    (signals_refusal i bs (o ∷ os)).number ≡ 0 →
    (signals_number bs [] o.signals ≡ 0) × ((signals_refusal (suc i) (bs ++ (o ∷ [])) os).number ≡ 0)
unfolding signals_refusal refusal none_given
refusal_head i bs o os e =
    by_cases (eqb (signals_number bs [] o.signals) 0)
    (λ t. (eqb-true (signals_number bs [] o.signals) 0 t, rw t at e))
    (λ f. absurd (eqb-false (signals_number bs [] o.signals) 0 f (rw f at e)))

pub refusal_none : (i : ℕ) (bs os : List Operation) → (signals_refusal i bs os).number ≡ 0 → (k : ℕ) → k < length os →
    signals_number (bs ++ take k os) [] (get_or os k empty_operation).signals ≡ 0
refusal_none i bs [] e k l = absurd (not-suc-le-zero l)
refusal_none i bs (o ∷ os) e zero l = rw append-nil (refusal_head i bs o os e).0
refusal_none i bs (o ∷ os) e (suc k) l =
    rw append_assoc
    at (refusal_none (suc i) (bs ++ (o ∷ [])) os (refusal_head i bs o os e).1 k (le_of_suc-le-suc l))

-- a wait is not above all signals
pub too_high_none : (p : Plan) (w : Point) (ws : List Point) → any_too_high p (w ∷ ws) ≡ false →
    (w.value ≤ highest w.semaphore p.operations) × (any_too_high p ws ≡ false)
unfolding any_too_high too_high
too_high_none p w ws e =
    by_cases (ltb (highest w.semaphore p.operations) w.value)
    (λ t. absurd (let z : true ≡ false = rw t at e in true≢false z))
    (λ f. (ltb-false (highest w.semaphore p.operations) w.value f, rw f at e))

pub waits_none : (i : ℕ) (p : Plan) (os : List Operation) → (waits_refusal i p os).number ≡ 0 → (k : ℕ) →
    k < length os →
    any_too_high p (get_or os k empty_operation).waits ≡ false
unfolding waits_refusal refusal none_given
waits_none i p [] e k l = absurd (not-suc-le-zero l)
waits_none i p (o ∷ os) e zero l = is_false (any_too_high p o.waits) (λ t. let z : 8 ≡ 0 = rw t at e in omega arith)
waits_none i p (o ∷ os) e (suc k) l =
    by_cases (any_too_high p o.waits) (λ t. absurd (let z : 8 ≡ 0 = rw t at e in omega arith))
    (λ f. waits_none (suc i) p os (rw f at e) k (le_of_suc-le-suc l))

-- what signals is an operation of the list
pub value_inside : (s v : ℕ) (os : List Operation) (k : ℕ) →
    signals_value s v (get_or os k empty_operation).signals ≡ true → k < length os
unfolding signals_value
value_inside s v [] k e = absurd (false≢true e)
value_inside s v (o ∷ os) zero e = omega arith
value_inside s v (o ∷ os) (suc k) e = omega (arith, value_inside s v os k e)

-- ---- rising values, for a whole plan
module _ (p : Plan) (signals_good : (signals_refusal 0 [] p.operations).number ≡ 0) where
  pub signal_above : (k s v : ℕ) → k < count p → signals_value s v (op p k).signals ≡ true →
      highest s (take k p.operations) < v
  unfolding op count
  signal_above k s v l h =
      number_none (take k p.operations) [] (op p k).signals
      (refusal_none 0 [] p.operations signals_good k l) s v h

  -- a later operation signals higher
  pub rises : (i k s v w : ℕ) → i < k → k < count p → signals_value s v (op p i).signals ≡ true →
      signals_value s w (op p k).signals ≡ true → v < w
  unfolding op
  rises i k s v w a b h g =
      let under : v ≤ highest s (take k p.operations) =
      highest_over s v (take k p.operations) i (rw (get_or-take k p.operations i empty_operation a) h) in
      omega (arith, signal_above k s w b g)
