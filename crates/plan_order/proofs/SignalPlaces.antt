-- The signals of a plan in one list: each is where it says, every signal of every operation is there, and they are in
-- plan order and then in list order. Assumes nothing.
use mathlib.Core.Path.{◌≡◌, sym, ap, ◌∙◌, subst, subst₂}
use mathlib.Core.Logic.{inl, inr}
use mathlib.Core.List.Memᴰ
use mathlib.Core.List.{List, [], ◌∷◌, Memᴰ}
use Prim.Native.Nat.{ℕ, zero, suc, ◌+◌, ◌≤◌, ◌<◌}
use native.Mathlib.Nat.{not-suc-le-zero, le_of_suc-le-suc, zero-add}
use native.Mathlib.Omega.{arith}
use lib.ListN.{length, get_or}
use Rattle.base_lists.proofs.Tests.{either}
use Rattle.base_lists.proofs.Pairwise.{Pairwise, pairwise_nil, pairwise_cons, pairwise_append}
use Rattle.plan_format.specs.Plan.{Point, Operation, Plan, empty_operation, op}
use Rattle.plan_format.specs.Meaning.{signal_at, IsSignal, Earlier}
use Rattle.plan_order.specs.Precedence.{Signal, no_signal, signals_of, signals_from, plan_signals}

abbrev no_point : Point
no_point = record { semaphore = 0; value = 0 }

-- the signal at a place of an operation's list
unfoldable pub signal : (i k : ℕ) → Point → Signal
signal i k w = record { operation = i; position = k; semaphore = w.semaphore; value = w.value }

-- ---- each is where it says
of_only : (i n : ℕ) (xs : List Point) (y : Signal) → Memᴰ y (signals_of i n xs) →
    (k : ℕ) × (k < length xs) × (y ≡ signal i (n + k) (get_or xs k no_point))
unfolding signals_of signal
of_only i n [] y m = absurd (Memᴰ.not-nil m)
of_only i n (x ∷ xs) y m =
    either (Memᴰ.cases_cons m)
    (λ e. (0, omega arith, e ∙ ap (λ (z : ℕ). signal i z x) (let q : n ≡ n + 0 = omega arith in q)))
    (λ t. let w = of_only i (suc n) xs y t in (
      suc w.0,
      omega (arith, w.1),
      w.2 ∙ ap (λ (z : ℕ). signal i z (get_or xs w.0 no_point))
          (let q : suc n + w.0 ≡ n + suc w.0 = omega arith in q),
    ))

from_only : (i : ℕ) (os : List Operation) (y : Signal) → Memᴰ y (signals_from i os) →
    (j k : ℕ) × (k < length (get_or os j empty_operation).signals) ×
    (y ≡ signal (i + j) k (get_or (get_or os j empty_operation).signals k no_point))
unfolding signals_from
from_only i [] y m = absurd (Memᴰ.not-nil m)
from_only i (o ∷ os) y m =
    either (Memᴰ.append_cases (signals_of i 0 o.signals) m)
    (λ t. let w = of_only i 0 o.signals y t in
    (0, w.0, w.1, w.2 ∙ same i w.0 (get_or o.signals w.0 no_point)))
    (λ t. let w = from_only (suc i) os y t in (
      suc w.0,
      w.1,
      w.2,
      w.3 ∙ ap (λ (z : ℕ). signal z w.1 (get_or (get_or os w.0 empty_operation).signals w.1 no_point))
          (let q : suc i + w.0 ≡ i + suc w.0 = omega arith in q),
    ))
  where
    same : (i k : ℕ) (x : Point) → signal i (0 + k) x ≡ signal (i + 0) k x
    same i k x =
        ap (λ (z : ℕ). signal i z x) (zero-add k) ∙ ap (λ (z : ℕ). signal z k x) (let q : i ≡ i + 0 = omega arith in q)

-- ---- every signal is there
of_every : (i n k : ℕ) (xs : List Point) → k < length xs →
    Memᴰ (signal i (n + k) (get_or xs k no_point)) (signals_of i n xs)
unfolding signals_of signal
of_every i n k [] l = absurd (not-suc-le-zero l)
of_every i n zero (x ∷ xs) l =
    Memᴰ.head (ap (λ (z : ℕ). signal i z x) (let q : n + 0 ≡ n = omega arith in q))
of_every i n (suc k) (x ∷ xs) l =
    Memᴰ.tail (subst (λ (z : ℕ). Memᴰ (signal i z (get_or xs k no_point)) (signals_of i (suc n) xs))
    (let q : suc n + k ≡ n + suc k = omega arith in q) (of_every i (suc n) k xs (le_of_suc-le-suc l)))

from_every : (i j k : ℕ) (os : List Operation) → k < length (get_or os j empty_operation).signals →
    Memᴰ (signal (i + j) k (get_or (get_or os j empty_operation).signals k no_point)) (signals_from i os)
unfolding signals_from
from_every i j k [] l = absurd (not-suc-le-zero l)
from_every i zero k (o ∷ os) l =
    Memᴰ.append_left (signals_from (suc i) os)
    (subst₂ (λ (y z : ℕ). Memᴰ (signal y z (get_or o.signals k no_point)) (signals_of i 0 o.signals))
    (let q : i ≡ i + 0 = omega arith in q) (zero-add k) (of_every i 0 k o.signals l))
from_every i (suc j) k (o ∷ os) l =
    let x = get_or (get_or os j empty_operation).signals k no_point in
    Memᴰ.append_right (signals_of i 0 o.signals)
    (subst (λ (z : ℕ). Memᴰ (signal z k x) (signals_from (suc i) os))
    (let q : suc i + j ≡ i + suc j = omega arith in q) (from_every (suc i) j k os l))

-- ---- in order
abbrev pub Sooner : (x y : Signal) → Type 0
Sooner x y = Earlier x.operation x.position y.operation y.position

of_rising : (i n : ℕ) (xs : List Point) → Pairwise Sooner no_signal (signals_of i n xs)
unfolding signals_of signal
of_rising i n [] = pairwise_nil Sooner no_signal
of_rising i n (x ∷ xs) =
    pairwise_cons Sooner no_signal (signal i n x) (signals_of i (suc n) xs)
    (λ y t. let w = of_only i (suc n) xs y t in
    inr (sym (ap (λ (z : Signal). z.operation) w.2), omega (arith, ap (λ (z : Signal). z.position) w.2)))
    (of_rising i (suc n) xs)

from_rising : (i : ℕ) (os : List Operation) → Pairwise Sooner no_signal (signals_from i os)
unfolding signals_from signal
from_rising i [] = pairwise_nil Sooner no_signal
from_rising i (o ∷ os) =
    pairwise_append Sooner no_signal (signals_of i 0 o.signals) (signals_from (suc i) os)
    (λ x y t u.
    let v = of_only i 0 o.signals x t in
    let w = from_only (suc i) os y u in
    inl (omega (arith, ap (λ (z : Signal). z.operation) v.2, ap (λ (z : Signal). z.operation) w.3)))
    (of_rising i 0 o.signals) (from_rising (suc i) os)

-- ---- no two are sooner than each other
pub sooner_low : (x y : Signal) → Sooner x y → x.operation ≤ y.operation
sooner_low x y (inl l) = omega arith
sooner_low x y (inr w) = omega (arith, w.0)

pub sooner_once : (x y : Signal) → Sooner x y → Sooner y x → ⊥
sooner_once x y (inl l) (inl m) = omega arith
sooner_once x y (inl l) (inr w) = omega (arith, w.0)
sooner_once x y (inr w) (inl l) = omega (arith, w.0)
sooner_once x y (inr w) (inr v) = omega (arith, w.1, v.1)

-- ---- of a plan
module _ (p : Plan) where
  -- the signal of a plan at a place of an operation's list
  abbrev pub plan_signal : (i k : ℕ) → Signal
  plan_signal i k = signal i k (signal_at p i k)

  pub signal_there : (y : Signal) → Memᴰ y (plan_signals p) →
      IsSignal p y.operation y.position × (y ≡ plan_signal y.operation y.position)
  unfolding plan_signals op signal
  signal_there y m =
      let w = from_only 0 p.operations y m in
      let i : w.0 ≡ y.operation = sym (zero-add w.0) ∙ sym (ap (λ (z : Signal). z.operation) w.3) in
      let k : w.1 ≡ y.position = sym (ap (λ (z : Signal). z.position) w.3) in (
        subst₂ (λ (a b : ℕ). IsSignal p a b) i k w.2,
        subst₂ (λ (a b : ℕ). y ≡ plan_signal a b) i k
            (w.3 ∙ ap (λ (z : ℕ). signal z w.1 (signal_at p w.0 w.1)) (zero-add w.0)),
      )

  pub signal_in : (i k : ℕ) → IsSignal p i k → Memᴰ (plan_signal i k) (plan_signals p)
  unfolding plan_signals op signal
  signal_in i k l =
      subst (λ (z : ℕ). Memᴰ (signal z k (signal_at p i k)) (plan_signals p)) (zero-add i)
      (from_every 0 i k p.operations l)

  pub plan_rising : Pairwise Sooner no_signal (plan_signals p)
  unfolding plan_signals
  plan_rising = from_rising 0 p.operations
