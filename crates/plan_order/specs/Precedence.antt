-- What waits resolve to, and what is before what: the happens-before order of a plan. Assumes nothing: these are
-- definitions.
use Rattle.std.specs.Prelude.{Bool, false, ◌&&◌, ◌||◌, cond, List, [], ◌∷◌, ◌++◌, ℕ, suc, ltb, leb, eqb}
use Rattle.std.proofs.Math.Option.{Option, none, some}
use Rattle.base_lists.specs.Lists.{member}
use Rattle.order.specs.Closure.{Chain, predecessors}
use Rattle.plan_format.specs.Plan.{Point, Operation, Plan, count, op}

-- a signal of a plan: its operation, its position in that operation's list, its semaphore and value
pub record Signal : Type 0 where
  pub operation : ℕ
  pub position : ℕ
  pub semaphore : ℕ
  pub value : ℕ

-- what is read past the last signal of a list
abbrev pub no_signal : Signal
no_signal = record { operation = 0; position = 0; semaphore = 0; value = 0 }

unfoldable pub signals_of : (i k : ℕ) → List Point → List Signal
signals_of i k [] = []
signals_of i k (x ∷ xs) =
    record { operation = i; position = k; semaphore = x.semaphore; value = x.value } ∷ signals_of i (suc k) xs

unfoldable pub signals_from : (i : ℕ) → List Operation → List Signal
signals_from i [] = []
signals_from i (o ∷ os) = signals_of i 0 o.signals ++ signals_from (suc i) os

-- all signals, in plan order and list order
unfoldable pub plan_signals : Plan → List Signal
plan_signals p = signals_from 0 p.operations

-- R17: the signal is on the semaphore and has at least the value that is waited for
unfoldable pub reaches : Point → Signal → Bool
reaches w x = eqb x.semaphore w.semaphore && leb w.value x.value

-- R17: the one with the least value, the first of equal ones
unfoldable pub nearer : Signal → Option Signal → Signal
nearer x none = x
nearer x (some y) = cond (ltb y.value x.value) y x

unfoldable pub nearest : Point → List Signal → Option Signal
nearest w [] = none
nearest w (x ∷ xs) = cond (reaches w x) (some (nearer x (nearest w xs))) (nearest w xs)

-- R17, resolution: a wait rests on the signal with the least value that reaches it, or never ends, which is refusal 8
pub data Resolution : Type 0 where
  on : Signal → Resolution
  never : Resolution

unfoldable pub resolution_of : Option Signal → Resolution
resolution_of none = never
resolution_of (some x) = on x

unfoldable pub resolve : Plan → (wait : Point) → Resolution
resolve p w = resolution_of (nearest w (plan_signals p))

unfoldable pub rests_on : Resolution → (i : ℕ) → Bool
rests_on (on x) i = eqb x.operation i
rests_on never i = false

unfoldable pub any_rests_on : Plan → (i : ℕ) → (waits : List Point) → Bool
any_rests_on p i [] = false
any_rests_on p i (w ∷ ws) = rests_on (resolve p w) i || any_rests_on p i ws

unfoldable pub same_queue : Plan → (i j : ℕ) → Bool
same_queue p i j = eqb (op p i).queue (op p j).queue

-- R19, the steps of before: i is earlier on the queue of j, or a wait of j rests on i
unfoldable pub direct : Plan → (i j : ℕ) → Bool
direct p i j =
    (ltb i (count p) && ltb j (count p)) && ((ltb i j && same_queue p i j) || any_rests_on p i (op p j).waits)

-- R19, before: the transitive closure of these
abbrev pub Before : Plan → (i j : ℕ) → Type 0
Before p i j = Chain (λ i j. direct p i j) i j

-- the same, worked out
unfoldable pub all_before : Plan → (j : ℕ) → List ℕ
all_before p j = predecessors (count p) (λ i j. direct p i j) j

unfoldable pub before : Plan → (i j : ℕ) → Bool
before p i j = member i (all_before p j)

unfoldable pub at_or_before : Plan → (i j : ℕ) → Bool
at_or_before p i j = eqb i j || before p i j
