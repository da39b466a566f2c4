-- R45: what the pass over the waits is given and what it answers, and refusal 8 as a walk over the wait places. Assumes
-- nothing: these are definitions.
use Rattle.std.specs.Prelude.{◌≡◌, Bool, true, false, ◌&&◌, cond, ◌⊎◌, List, [], ℕ, zero, suc, ◌*◌, ◌/◌, ◌%◌, ◌≤◌}
use Rattle.std.specs.Prelude.{◌<◌, ltb, leb, length, get_or}
use Rattle.plan_format.specs.Sizes.{most_semaphores, most_operations, most_waits, signal_places, no_operation}
use Rattle.plan_format.specs.Sizes.{no_wait}
use Rattle.plan_format.specs.Refusal.{Refusal, refusal, none_given}
use Rattle.plan_format.specs.Plan.{Plan, count, op}
use Rattle.plan_format.specs.Sound.{signals_refusal, waits_refusal, InRange, WaitsAboveZero}
use Rattle.plan_format.specs.Stored.{Tells}
use Rattle.plan_format.specs.declared.Told.{Told}
use Rattle.check_columns.specs.Columns.{WaitColumns, SignalColumns, SourceColumn}
use Rattle.check_signals.specs.Walks.{HighestColumn, held_in}

-- the columns show a plan with no refusal 7, and the highest value of each semaphore
pub record WaitsGiven (p : Plan) (n semaphores signals : ℕ) (ssem sval sop wsem wval last : List ℕ) : Type 0 where
  pub operations : count p ≡ n
  pub few : n ≤ most_operations
  pub own_semaphores : length p.owners ≡ semaphores
  pub few_semaphores : semaphores ≤ most_semaphores
  pub in_range : (i : ℕ) → i < count p → InRange p (op p i)
  pub above_zero : WaitsAboveZero p
  pub rules : (signals_refusal 0 [] p.operations).number ≡ 0
  pub signals_shown : SignalColumns p signals ssem sval sop
  pub waits_shown : WaitColumns p wsem wval
  pub highest_shown : HighestColumn p last

-- 8 as the rules give it; where it is not given the column shows what the waits rest on
pub record Resolved (p : Plan) (r : Told) (source : List ℕ) : Type 0 where
  pub number : r.number ≡ (waits_refusal 0 p p.operations).number
  pub place : r.place ≡ (waits_refusal 0 p p.operations).place
  pub sources_shown : r.number ≡ 0 → SourceColumn p source

-- 8 at the first of the wait places from k on, three to an operation, that is above the last of its semaphore, one of
-- those that a plan can have
unfoldable pub waits_walk : (wsem wval last : List ℕ) → (left k : ℕ) → Refusal
waits_walk wsem wval last zero k = none_given
waits_walk wsem wval last (suc left) k =
    cond (ltb (get_or last (get_or wsem k 0 % most_semaphores) 0) (get_or wval k 0)) (refusal 8 (k / most_waits))
    (waits_walk wsem wval last left (suc k))

-- the columns have places for so many operations, semaphores and signals
unfoldable pub has_places : (n semaphores signals : ℕ) → (ssem sval sop wval : List ℕ) → Bool
has_places n semaphores signals ssem sval sop wval =
    leb n most_operations && (leb semaphores most_semaphores &&
    (leb signals (held_in signal_places (length ssem) (length sval) (length sop)) &&
    leb (most_waits * n) (length wval)))

-- the same, by what it gives
pub record HasRoom (n semaphores signals : ℕ) (ssem sval sop wval : List ℕ) : Type 0 where
  pub few : n ≤ most_operations
  pub few_semaphores : semaphores ≤ most_semaphores
  pub few_signals : signals ≤ signal_places
  pub semaphore_room : signals ≤ length ssem
  pub value_room : signals ≤ length sval
  pub operation_room : signals ≤ length sop
  pub wait_room : most_waits * n ≤ length wval

-- 8 by the wait places of n operations; none where the columns have no places for them, the semaphores or the signals
unfoldable pub waits_found : (n semaphores signals : ℕ) → (ssem sval sop wsem wval last : List ℕ) → Refusal
waits_found n semaphores signals ssem sval sop wsem wval last =
    cond (has_places n semaphores signals ssem sval sop wval) (waits_walk wsem wval last (most_waits * n) 0) none_given

-- signal j is of semaphore s and reaches the value v of a wait: none before it does, and all from it on do
pub record RestsOnSignal (ssem sval : List ℕ) (signals s v j : ℕ) : Type 0 where
  pub inside : j < signals
  pub above : no_wait < v
  pub own : get_or ssem j 0 ≡ s
  pub earlier : (i : ℕ) → i < j → get_or ssem i 0 ≡ s → get_or sval i 0 < v
  pub later : (i : ℕ) → j ≤ i → i < signals → get_or ssem i 0 ≡ s → v ≤ get_or sval i 0

-- what a wait rests on is none or a signal's operation
abbrev pub RestsWithin : (signals : ℕ) → (sop : List ℕ) → (r : ℕ) → Type 0
RestsWithin signals sop r = (r ≡ no_operation) ⊎ ((j : ℕ) × (j < signals) × (r ≡ get_or sop j 0))

-- a place with semaphore s and value v rests on r
pub record Rests (semaphores signals : ℕ) (ssem sval sop : List ℕ) (s v r : ℕ) : Type 0 where
  pub absent : v ≡ no_wait → r ≡ no_operation
  pub unsignalled : ((j : ℕ) → j < signals → get_or ssem j 0 ≡ s → ⊥) → r ≡ no_operation
  pub lacking : semaphores ≤ s → r ≡ no_operation
  pub within : RestsWithin signals sop r
  pub found : s < semaphores → (j : ℕ) → RestsOnSignal ssem sval signals s v j → r ≡ get_or sop j 0

-- the column of the waits afterwards, whatever the columns show: as long as before; past the places of n operations as
-- before, and all of it where the columns have no places for the plan. Where nothing is refused a place without a wait
-- rests on nothing, and so does a wait of a semaphore that has no signal or that the plan lacks; any other rests on
-- nothing or on the operation of a signal, and on the first signal of its semaphore that reaches it if those after it
-- do
pub record Sources (n semaphores signals number : ℕ) (ssem sval sop wsem wval source : List ℕ) : Type 0 where
  pub long : length source ≡ length wsem
  pub past : (k : ℕ) → most_waits * n ≤ k → get_or source k 0 ≡ get_or wsem k 0
  pub no_places : has_places n semaphores signals ssem sval sop wval ≡ false → source ≡ wsem
  pub rests : has_places n semaphores signals ssem sval sop wval ≡ true → number ≡ 0 → (k : ℕ) →
      k < most_waits * n →
      Rests semaphores signals ssem sval sop (get_or wsem k 0 % most_semaphores) (get_or wval k 0) (get_or source k 0)

-- all of it: 8 or none, the column of the waits, and what that is by the columns of a plan
pub record WaitsAnswered (n semaphores signals : ℕ) (ssem sval sop wsem wval last : List ℕ) (r : Told)
    (source : List ℕ) : Type 0 where
  pub told : Tells (waits_found n semaphores signals ssem sval sop wsem wval last) 0 r
  pub left : Sources n semaphores signals r.number ssem sval sop wsem wval source
  pub of_plans : (p : Plan) → WaitsGiven p n semaphores signals ssem sval sop wsem wval last → Resolved p r source
