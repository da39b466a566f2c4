-- What is promised of plans: demands 2 and 3, for any sound plan and for stored plans. Each statement is proved in
-- proofs/. Assumes nothing: these are definitions.
use Rattle.std.specs.Prelude.{◌≡◌, Bool, true, false, ◌&&◌, not, cond, ◌⊎◌, ◌↔◌, ℕ, ◌+◌, ◌*◌, ◌≤◌, ◌<◌, max, eqb}
use Rattle.std.specs.Prelude.{length, get_or, take}
use mathlib.Core.List.{List, [], ◌∷◌, ◌++◌, Memᴰ}
use Rattle.std.proofs.Math.Option.{some}
use Rattle.base_lists.specs.Lists.{member}
use Rattle.base_lists.specs.Places.{Counts}
use Rattle.order.specs.Runs.{step_of}
use Rattle.plan_format.specs.Sizes.{row_width, plan_bytes, most_input}
use Rattle.plan_format.specs.Refusal.{given}
use Rattle.plan_format.specs.RefusalNumbers.{NoneOr, order_numbers}
use Rattle.plan_format.specs.Plan.{Plan, count, op}
use Rattle.plan_format.specs.Sound.{Sound, waits_refusal}
use Rattle.plan_format.specs.Limits.{Within, bytes_of}
use Rattle.plan_format.specs.Stored.{scanned, all_bytes, plan_in, too_long, plan_refusal}
use Rattle.plan_order.specs.Precedence.{direct, Before, before, at_or_before}
use Rattle.plan_order.specs.Rows.{epoch, row, rows}
use Rattle.plan_order.specs.Runs.{is_run, is_full, ahead, ready, raises_in_order, next, standard, run_list}
use Rattle.plan_order.specs.Holdings.{Ask, asks, asked_of, met, keeps, marks_buffer}
use Rattle.plan_order.specs.Handovers.{handovers}
use Rattle.plan_order.specs.OnlyOwners.{OnlyOwners, ByOwners}
use Rattle.plan_format.specs.declared.Told.{Told}
use Rattle.plan_order.specs.Meaning.{Signals, InColumn, ReadyMeans, AllInTurn, CheckMeans, LeftMeans}
use Rattle.plan_order.specs.Check.{room_refusal, order_refusal, Outcome, check_outcome, CheckSays}
use Rattle.plan_order.specs.Reuse.{verdict, reuse_outcome}
use Rattle.plan_order.specs.AsBefore.{ChecksAsBefore}

-- ---- DEMAND 3
-- R47, refusal 10: no run is full, no run has operation i, and each lower one is in some run
pub record StuckAt (p : Plan) (i : ℕ) : Type 0 where
  pub inside : i < count p
  pub in_none : (r : List ℕ) → is_run p r ≡ true → member i r ≡ false
  pub no_full : (r : List ℕ) → is_full p r ≡ false
  pub lower : (k : ℕ) → k < i → (r : List ℕ) × (is_run p r ≡ true) × (member k r ≡ true)

-- R48, refusal 11: some full run breaks what keeping asks of a mark of operation i, and every full run has what is
-- asked of the marks of lower operations
pub record BrokenAt (p : Plan) (i : ℕ) : Type 0 where
  pub inside : i < count p
  pub run : List ℕ
  pub buffer : ℕ
  pub ask : Ask
  pub full : is_full p run ≡ true
  pub breaks : keeps p run buffer ≡ false
  pub marks : marks_buffer p i buffer ≡ true
  pub among : Memᴰ ask (asks p buffer)
  pub own : asked_of ask ≡ i
  pub unmet : met (λ i j. ahead run i j) ask ≡ false
  pub lower :
      (b : ℕ) (a : Ask) → Memᴰ a (asks p b) → asked_of a < i → (r : List ℕ) → is_full p r ≡ true →
      met (λ i j. ahead r i j) a ≡ true

-- R94, refusal 17: some full run does not raise a semaphore in order that operation i signals: it has i at an earlier
-- step than an operation with a lower signal on that semaphore; and every full run has the handovers of lower
-- operations
pub record DisorderedAt (p : Plan) (i : ℕ) : Type 0 where
  pub inside : i < count p
  pub run : List ℕ
  pub full : is_full p run ≡ true
  pub unraised : raises_in_order p run ≡ false
  pub semaphore : ℕ
  pub value : ℕ
  pub signals : Signals p i semaphore value
  pub other : ℕ
  pub lower_value : ℕ
  pub other_signals : Signals p other semaphore lower_value
  pub falls : lower_value < value
  pub too_soon : ahead run i other ≡ true
  pub ask : Ask
  pub among : Memᴰ ask (handovers p)
  pub own : ask.then ≡ i
  pub unmet : met (λ i j. ahead run i j) ask ≡ false
  pub lower :
      (a : Ask) → Memᴰ a (handovers p) → a.then < i → (r : List ℕ) → is_full p r ≡ true →
      met (λ i j. ahead r i j) a ≡ true

-- demand 3: there is a full run, and all full runs raise all semaphores in order and keep all buffers
pub record Safe (p : Plan) : Type 0 where
  pub run : List ℕ
  pub full : is_full p run ≡ true
  pub raised : (r : List ℕ) → is_full p r ≡ true → raises_in_order p r ≡ true
  pub kept : (r : List ℕ) (b : ℕ) → is_full p r ≡ true → keeps p r b ≡ true

-- the number and place handed back for a plan with none of refusals 1 to 9 and 16
pub record Demand3 (p : Plan) (number place : ℕ) : Type 0 where
  pub only : NoneOr order_numbers number
  pub exactly : (number ≡ 0) ↔ Safe p
  pub passed_place : number ≡ 0 → place ≡ 0
  pub never_stuck :
      number ≡ 0 → (r : List ℕ) → is_run p r ≡ true → length r < count p → (j : ℕ) × (is_run p (r ++ (j ∷ [])) ≡ true)
  -- full or not, and also where only a mark is broken
  pub raises : (number ≡ 0) ⊎ (number ≡ 11) → (r : List ℕ) → is_run p r ≡ true → raises_in_order p r ≡ true
  -- and in a stuck plan whose signals are in turn
  pub in_turn_raises : AllInTurn p → (r : List ℕ) → is_run p r ≡ true → raises_in_order p r ≡ true
  pub stuck : number ≡ 10 → StuckAt p place
  pub disordered : number ≡ 17 → DisorderedAt p place
  pub broken : number ≡ 11 → BrokenAt p place

-- none of refusals 1 to 9 and 16
unfoldable pub unrefused : (bytes : List ℕ) → (table list : ℕ) → Bool
unrefused bs t l = not (given (plan_refusal bs)) && not (given (room_refusal (count (plan_in bs)) t l))

unfoldable pub Demand3Stored : (bytes : List ℕ) → (table list number place : ℕ) → Type 0
Demand3Stored bs t l n i = unrefused bs t l ≡ true → Demand3 (plan_in bs) n i

-- R8: of every plan within the limits whose bytes these are, in whichever form it is stored
unfoldable pub Demand3OfPlans : (bytes : List ℕ) → (table list number place : ℕ) → Type 0
Demand3OfPlans bs t l n i = (p : Plan) → Within p → bs ≡ bytes_of p → unrefused bs t l ≡ true → Demand3 p n i

-- ---- DEMAND 2
-- R20: an entry of the table is the number of the queue's operations that are j or before j, by chains
unfoldable pub Demand2 : Plan → (table : List ℕ) → Type 0
Demand2 p t = (j q : ℕ) → j < count p → q < row_width → Counts (InColumn p j q) (get_or t (row_width * j + q) 0)

-- R19: the closure that is computed is the one by chains
unfoldable pub BeforeRight : Type 0
BeforeRight = (bs : List ℕ) (i j : ℕ) → (before (plan_in bs) i j ≡ true) ↔ Before (plan_in bs) i j

-- in a sound plan with a full run, i is before j exactly if every full run has i at an earlier step
unfoldable pub BeforeForces : Plan → Type 0
BeforeForces p =
    Sound p → (f : List ℕ) → is_full p f ≡ true → (i j : ℕ) → i < count p → j < count p →
    Before p i j ↔ ((r : List ℕ) → is_full p r ≡ true → step_of 0 r i < step_of 0 r j)

-- a row's entry reaches an operation's epoch exactly if that operation is it or before it
unfoldable pub RowEpoch : Plan → Type 0
RowEpoch p =
    (i j : ℕ) → i < count p → (op p i).queue < row_width →
    ((i ≡ j) ⊎ Before p i j) ↔ (epoch p i ≤ get_or (row p j) (op p i).queue 0)

-- the largest entry of some rows in a column
unfoldable pub most_of : Plan → (q : ℕ) → List ℕ → ℕ
most_of p q [] = 0
most_of p q (k ∷ ks) = max (get_or (row p k) q 0) (most_of p q ks)

-- a row is merged from rows of direct predecessors that have every other one at or before one of them, and the own
-- epoch
unfoldable pub RowStep : Plan → Type 0
RowStep p =
    (j : ℕ) (ks : List ℕ) → j < count p → ((k : ℕ) → member k ks ≡ true → direct p k j ≡ true) →
    ((i : ℕ) → direct p i j ≡ true → (k : ℕ) × (member k ks ≡ true) × (at_or_before p i k ≡ true)) →
    (q : ℕ) → q < row_width →
    get_or (row p j) q 0 ≡ max (cond (eqb (op p j).queue q) (epoch p j) 0) (most_of p q ks)

-- ---- THE STANDARD RUN
-- R27, of a sound plan: it is a run, has every operation that is in any run, and takes the lowest ready queue at each
-- step
pub record StandardRight (p : Plan) : Type 0 where
  pub a_run : is_run p (standard p) ≡ true
  pub has_all : (r : List ℕ) (j : ℕ) → is_run p r ≡ true → member j r ≡ true → member j (standard p) ≡ true
  pub steps : (k : ℕ) → k < length (standard p) → next p (take k (standard p)) ≡ some (get_or (standard p) k 0)
  pub chosen : (r : List ℕ) (j : ℕ) → next p r ≡ some j → ready p r j ≡ true
  pub lowest : (r : List ℕ) (j k : ℕ) → next p r ≡ some j → ready p r k ≡ true → (op p j).queue ≤ (op p k).queue
  pub ends : (j : ℕ) → ready p (standard p) j ≡ false

-- ---- OVER STORED PLANS
-- a plan that gets none of refusals 1 to 8 and 16
unfoldable pub good : List ℕ → Bool
good bs = all_bytes bs && eqb (plan_refusal bs).number 0

unfoldable pub passed : List ℕ → Bool
passed bs = good bs && eqb (order_refusal (plan_in bs)).number 0

unfoldable pub PassedKeeps : Type 0
PassedKeeps =
    (bs r : List ℕ) (b : ℕ) → passed bs ≡ true → is_full (plan_in bs) r ≡ true → keeps (plan_in bs) r b ≡ true

unfoldable pub PassedRuns : Type 0
PassedRuns = (bs : List ℕ) → passed bs ≡ true → (r : List ℕ) × (is_full (plan_in bs) r ≡ true)

unfoldable pub NeverStuck : Type 0
NeverStuck =
    (bs r : List ℕ) → passed bs ≡ true → is_run (plan_in bs) r ≡ true → length r < count (plan_in bs) →
    (j : ℕ) × (ready (plan_in bs) r j ≡ true)

unfoldable pub Raises : Type 0
Raises = (bs r : List ℕ) → passed bs ≡ true → is_run (plan_in bs) r ≡ true → raises_in_order (plan_in bs) r ≡ true

unfoldable pub StuckTruly : Type 0
StuckTruly =
    (bs : List ℕ) → good bs ≡ true → (order_refusal (plan_in bs)).number ≡ 10 →
    StuckAt (plan_in bs) (order_refusal (plan_in bs)).place

unfoldable pub DisorderedTruly : Type 0
DisorderedTruly =
    (bs : List ℕ) → good bs ≡ true → (order_refusal (plan_in bs)).number ≡ 17 →
    DisorderedAt (plan_in bs) (order_refusal (plan_in bs)).place

unfoldable pub BrokenTruly : Type 0
BrokenTruly =
    (bs : List ℕ) → good bs ≡ true → (order_refusal (plan_in bs)).number ≡ 11 →
    BrokenAt (plan_in bs) (order_refusal (plan_in bs)).place

unfoldable pub NoneItself : Type 0
NoneItself = (bs : List ℕ) (j : ℕ) → passed bs ≡ true → before (plan_in bs) j j ≡ false

-- ---- THE FIRST BYTES
-- two inputs that no call on a stored plan tells apart: each answer is the same
pub record JudgedAlike (bs cs : List ℕ) : Type 0 where
  pub plan : plan_in bs ≡ plan_in cs
  pub refusal : plan_refusal bs ≡ plan_refusal cs
  pub check : (table list : ℕ) → check_outcome bs table list ≡ check_outcome cs table list
  pub reuse : (q b table list : ℕ) → reuse_outcome bs q b table list ≡ reuse_outcome cs q b table list
  pub rows_of : rows (plan_in bs) ≡ rows (plan_in cs)
  pub run_of : run_list (plan_in bs) ≡ run_list (plan_in cs)
  pub verdict_of : (q b : ℕ) → verdict (plan_in bs) q b ≡ verdict (plan_in cs) q b

-- R75, long input: one byte more than the longest plan has decides all that is answered; where the input is not too
-- long, one byte more than the program judges
pub record FirstBytes (bs : List ℕ) : Type 0 where
  pub of_all : JudgedAlike bs (take (plan_bytes + 1) bs)
  pub of_judged : too_long bs ≡ false → JudgedAlike bs (take (most_input + 1) bs)

-- ---- THE CHECK
-- the outcome of a check in lent table and list
abbrev pub check_outcome_in : (bytes table list : List ℕ) → Outcome
check_outcome_in bs t l = check_outcome bs (length t) (length l)

-- what a caller of the check gets: what it hands back and leaves, by its definition, by quantifiers and by index,
-- demands 3 and 2, and what stays where only owners signal
pub record Checked (bytes : List ℕ) (r : Told) (table table_now list list_now : List ℕ) : Type 0 where
  pub says : CheckSays bytes r table table_now list list_now
  -- the number and the place are those of the outcome of which `means` speaks
  pub number : r.number ≡ (check_outcome_in bytes table list).refusal.number
  pub place : r.place ≡ (check_outcome_in bytes table list).refusal.place
  pub means : CheckMeans bytes (length table) (length list) (check_outcome_in bytes table list)
  -- none, or a number of the order, is given only where the plan and the room are not refused
  pub answers : NoneOr order_numbers r.number → unrefused bytes (length table) (length list) ≡ true
  pub demand_3 : Demand3Stored bytes (length table) (length list) r.number r.place
  pub demand_2 : r.number ≡ 0 → Demand2 (plan_in bytes) table_now
  pub left : LeftMeans (plan_in bytes) (check_outcome_in bytes table list).leaves table table_now list list_now
  pub owners : OnlyOwners (plan_in bytes) → ByOwners bytes r table table_now list list_now
  -- R25, ready after a run of a plan that is read and whose waits are all reached: what is directly before it has run
  pub readies : (scanned bytes).fault.number ≡ 0 →
      (waits_refusal 0 (plan_in bytes) (plan_in bytes).operations).number ≡ 0 → (run : List ℕ) (j : ℕ) →
      is_run (plan_in bytes) run ≡ true → (ready (plan_in bytes) run j ≡ true) ↔ ReadyMeans (plan_in bytes) run j
  pub demand_3_of_plans : Demand3OfPlans bytes (length table) (length list) r.number r.place
  pub first_bytes : FirstBytes bytes
  pub as_before : ChecksAsBefore bytes r table table_now list list_now
