-- Refusals 7 and 8, and sound plans: those with neither, every position in range and every wait above 0. Assumes
-- nothing: these are definitions.
use Rattle.std.specs.Prelude.{◌≡◌, Bool, false, ◌||◌, cond, List, [], ◌∷◌, ◌++◌, ℕ, suc, ◌≤◌, ◌<◌, max, ltb, leb, eqb}
use Rattle.std.specs.Prelude.{length, get_or}
use Rattle.plan_format.specs.Sizes.{most_queues, most_operations}
use Rattle.plan_format.specs.Refusal.{Refusal, refusal, none_given, or_refusal}
use Rattle.plan_format.specs.Plan.{Point, Operation, Plan, count, op, queues}

-- R16: the highest value signalled on a semaphore, which begins at 0
unfoldable pub highest_in : (s : ℕ) → List Point → ℕ
highest_in s [] = 0
highest_in s (x ∷ xs) = max (cond (eqb x.semaphore s) x.value 0) (highest_in s xs)

unfoldable pub highest : (s : ℕ) → List Operation → ℕ
highest s [] = 0
highest s (o ∷ os) = max (highest_in s o.signals) (highest s os)

-- R44 and R54: signal by signal; R15: whichever queue signals; `own` are the operation's signals before these
unfoldable pub signals_number : (before : List Operation) → (own rest : List Point) → ℕ
signals_number bs own [] = 0
signals_number bs own (x ∷ xs) =
    cond (leb x.value (max (highest x.semaphore bs) (highest_in x.semaphore own))) 7
    (signals_number bs (x ∷ own) xs)

unfoldable pub signals_refusal : (i : ℕ) → (before rest : List Operation) → Refusal
signals_refusal i bs [] = none_given
signals_refusal i bs (o ∷ os) =
    let n = signals_number bs [] o.signals in
    cond (eqb n 0) (signals_refusal (suc i) (bs ++ (o ∷ [])) os) (refusal n i)

-- R45, refusal 8: a wait for a value that no signal of its semaphore reaches
unfoldable pub too_high : Plan → Point → Bool
too_high p w = ltb (highest w.semaphore p.operations) w.value

unfoldable pub any_too_high : Plan → List Point → Bool
any_too_high p [] = false
any_too_high p (w ∷ ws) = too_high p w || any_too_high p ws

unfoldable pub waits_refusal : (i : ℕ) → Plan → List Operation → Refusal
waits_refusal i p [] = none_given
waits_refusal i p (o ∷ os) = cond (any_too_high p o.waits) (refusal 8 i) (waits_refusal (suc i) p os)

-- R54: 7 over all operations, then 8
unfoldable pub rules_refusal : Plan → Refusal
rules_refusal p = or_refusal (signals_refusal 0 [] p.operations) (waits_refusal 0 p p.operations)

-- R4: every position that an operation names is in its list
pub record InRange (p : Plan) (o : Operation) : Type 0 where
  pub queue : o.queue < queues p
  pub waits : (k : ℕ) → k < length o.waits →
      (get_or o.waits k (record { semaphore = 0; value = 0 })).semaphore < length p.owners
  pub signals : (k : ℕ) → k < length o.signals →
      (get_or o.signals k (record { semaphore = 0; value = 0 })).semaphore < length p.owners
  pub marks : (k : ℕ) → k < length o.marks →
      (get_or o.marks k (record { buffer = 0; kind = 0 })).buffer < length p.sizes
  pub kinds : (k : ℕ) → k < length o.marks → (get_or o.marks k (record { buffer = 0; kind = 0 })).kind < 2

-- R18: every wait is for a value above 0
abbrev pub WaitsAboveZero : Plan → Type 0
WaitsAboveZero p =
    (i k : ℕ) → k < length (op p i).waits → 0 < (get_or (op p i).waits k (record { semaphore = 0; value = 0 })).value

-- what the theorems on plans need of one that gets none of refusals 1 to 8 and 16
pub record Sound (p : Plan) : Type 0 where
  pub few_queues : queues p ≤ most_queues
  pub few_operations : count p ≤ most_operations
  pub axes_distinct : (i k : ℕ) → i < k → k < queues p → get_or p.axes i 0 ≡ get_or p.axes k 0 → ⊥
  pub in_range : (i : ℕ) → i < count p → InRange p (op p i)
  pub waits_above_zero : WaitsAboveZero p
  pub rules : (rules_refusal p).number ≡ 0
