-- What the definitions say, by quantifiers over positions, marks, signals and chains. The laws *-means of proofs/ show
-- each the same as its definition. Assumes nothing: these are definitions.
use Rattle.std.specs.Prelude.{◌≡◌, ◌⊎◌, ◌↔◌, ℕ, suc, ◌+◌, ◌*◌, ◌≤◌, ◌<◌, length, get_or, take}
use mathlib.Core.List.{List, [], ◌∷◌, ◌++◌, Memᴰ}
use Rattle.base_lists.specs.Places.{Among, Counts}
use Rattle.order.specs.Runs.{step_of}
use Rattle.plan_format.specs.Sizes.{row_width}
use Rattle.plan_format.specs.Refusal.{Refusal}
use Rattle.plan_format.specs.RefusalNumbers.{OneOf, NoneOr, order_numbers, reuse_numbers, untouched_numbers}
use Rattle.plan_format.specs.RefusalNumbers.{check_gives, reuse_gives}
use Rattle.plan_format.specs.Plan.{Point, Mark, Plan, count, op, queues}
use Rattle.plan_format.specs.Stored.{plan_in, plan_refusal}
use Rattle.plan_format.specs.Meaning.{Refuses, signal_at, IsSignal, Earlier, PlanRefusalMeans}
use Rattle.plan_order.specs.Precedence.{Before}
use Rattle.plan_order.specs.Holdings.{Placed, buffer_marks}
use Rattle.plan_order.specs.Check.{room_refusal, Outcome, Leaves, untouched, zeros, rows_and_run, check_outcome}
use Rattle.plan_order.specs.declared.Verdict.{Verdict}
use Rattle.plan_order.specs.declared.Verdict.TheVariants.{Fresh, Reusable, Held, NotOrdered}

-- ---- order
-- the operation signals the value on the semaphore
abbrev pub Signals : Plan → (i s v : ℕ) → Type 0
Signals p i s v = (x : Point) × Memᴰ x (op p i).signals × (x.semaphore ≡ s) × (x.value ≡ v)

-- R17, resolution: operation i has the signal with the least value that reaches the wait, the first of equal ones
pub record Resolves (p : Plan) (w : Point) (i : ℕ) : Type 0 where
  pub value : ℕ
  pub signalled : Signals p i w.semaphore value
  pub enough : w.value ≤ value
  pub least : (k v : ℕ) → Signals p k w.semaphore v → w.value ≤ v → value ≤ v
  pub first : (k : ℕ) → Signals p k w.semaphore value → i ≤ k

-- R19, the steps of before
pub record Directly (p : Plan) (i j : ℕ) : Type 0 where
  pub operations : (i < count p) × (j < count p)
  pub why : ((i < j) × ((op p i).queue ≡ (op p j).queue)) ⊎ ((w : Point) × Memᴰ w (op p j).waits × Resolves p w i)

-- R14, epoch: operation h is among those that the epoch of i counts
abbrev pub UpTo : Plan → (i h : ℕ) → Type 0
UpTo p i h = (h ≤ i) × ((op p h).queue ≡ (op p i).queue)

-- R20, row: operation i is among those that column q of the row of j counts
abbrev pub InColumn : Plan → (j q i : ℕ) → Type 0
InColumn p j q i = (i < count p) × ((op p i).queue ≡ q) × ((i ≡ j) ⊎ Before p i j)

-- ---- runs
-- R83: v is how far the semaphore has come in the run, 0 without a signal
pub record HighestSignalled (p : Plan) (s : ℕ) (r : List ℕ) (v : ℕ) : Type 0 where
  pub highest : (k u : ℕ) → k < length r → Signals p (get_or r k 0) s u → u ≤ v
  pub signalled : 0 < v → (k : ℕ) × (k < length r) × Signals p (get_or r k 0) s v

-- R22, wait met: what it rests on has run
abbrev pub Met : Plan → (has_run : ℕ → Type 0) → Point → Type 0
Met p has w = (i : ℕ) × Resolves p w i × has i

-- R21, run: the operation at step k is one of the plan, comes there for the first time, after all earlier ones of its
-- queue, and with its waits met (R22)
pub record RunStep (p : Plan) (r : List ℕ) (k : ℕ) : Type 0 where
  pub operation : get_or r k 0 < count p
  pub distinct : Among r k (get_or r k 0) → ⊥
  pub earlier : (i : ℕ) → i < get_or r k 0 → (op p i).queue ≡ (op p (get_or r k 0)).queue → Among r k i
  pub waits : (w : Point) → Memᴰ w (op p (get_or r k 0)).waits → Met p (Among r k) w

abbrev pub RunMeans : Plan → List ℕ → Type 0
RunMeans p r = (k : ℕ) → k < length r → RunStep p r k

-- R24, full run: none is missing
pub record FullMeans (p : Plan) (r : List ℕ) : Type 0 where
  pub run : RunMeans p r
  pub every : (i : ℕ) → i < count p → Among r (length r) i

-- R22, R25, after a run of a plan without refusals 8 and 16: what is directly before the operation has run
pub record ReadyMeans (p : Plan) (r : List ℕ) (j : ℕ) : Type 0 where
  pub operation : j < count p
  pub not_run : Among r (length r) j → ⊥
  pub before : (i : ℕ) → Directly p i j → Among r (length r) i

-- R25, ready queue: the run with one of its operations appended is a run
abbrev pub ReadyQueue : Plan → (run : List ℕ) → (q : ℕ) → Type 0
ReadyQueue p r q = (q < queues p) × ((j : ℕ) × ((op p j).queue ≡ q) × RunMeans p (r ++ (j ∷ [])))

-- R27, standard run: of the ready operations, one of the lowest queue
pub record Takes (p : Plan) (r : List ℕ) (j : ℕ) : Type 0 where
  pub ready : RunMeans p (r ++ (j ∷ []))
  pub lowest : (i : ℕ) → RunMeans p (r ++ (i ∷ [])) → (op p j).queue ≤ (op p i).queue

pub record StandardMeans (p : Plan) (r : List ℕ) : Type 0 where
  pub takes : (k : ℕ) → k < length r → Takes p (take k r) (get_or r k 0)
  pub ends : (j : ℕ) → RunMeans p (r ++ (j ∷ [])) → ⊥

-- R47, refusal 10: the lowest operation that no run has
pub record LowestInNoRun (p : Plan) (j : ℕ) : Type 0 where
  pub operation : j < count p
  pub in_no_run : (r : List ℕ) → RunMeans p r → Among r (length r) j → ⊥
  pub lowest : (i : ℕ) → i < j → (r : List ℕ) × RunMeans p r × Among r (length r) i

-- R26, raising in order: the signals on each semaphore strictly rise from above 0, step by step, then in list order
pub record RaisesMeans (p : Plan) (r : List ℕ) : Type 0 where
  pub above_zero : (k s v : ℕ) → k < length r → Signals p (get_or r k 0) s v → 0 < v
  pub above_earlier_step : (k l s u v : ℕ) → k < l → l < length r → Signals p (get_or r k 0) s u →
      Signals p (get_or r l 0) s v → u < v
  pub above_earlier_in_list : (k m n : ℕ) → k < length r → m < n → n < length (op p (get_or r k 0)).signals →
      (signal_at p (get_or r k 0) m).semaphore ≡ (signal_at p (get_or r k 0) n).semaphore →
      (signal_at p (get_or r k 0) m).value < (signal_at p (get_or r k 0) n).value

-- ---- handovers
-- R93: the signal at place l of operation j is the one before that at place k of operation i on their semaphore
pub record SignalBefore (p : Plan) (j l i k : ℕ) : Type 0 where
  pub earlier_signal : IsSignal p j l
  pub later_signal : IsSignal p i k
  pub one_semaphore : (signal_at p j l).semaphore ≡ (signal_at p i k).semaphore
  pub earlier : Earlier j l i k
  pub last : (h m : ℕ) → IsSignal p h m → (signal_at p h m).semaphore ≡ (signal_at p i k).semaphore → Earlier h m i k →
      Earlier j l h m → ⊥

-- R93, handover: the operation of the signal before it is its own, or before its own
abbrev pub InTurn : Plan → (i k : ℕ) → Type 0
InTurn p i k = (j l : ℕ) → SignalBefore p j l i k → (j ≡ i) ⊎ Before p j i

abbrev pub AllInTurn : Plan → Type 0
AllInTurn p = (i k : ℕ) → IsSignal p i k → InTurn p i k

-- R94, refusal 17: the lowest operation with a signal out of turn
pub record LowestOutOfTurn (p : Plan) (i : ℕ) : Type 0 where
  pub out_of_turn : (k j l : ℕ) × SignalBefore p j l i k × ((j ≡ i) ⊎ Before p j i → ⊥)
  pub lowest : (h k : ℕ) → h < i → IsSignal p h k → InTurn p h k

-- ---- holdings
abbrev pub mark_at : List Placed → (k : ℕ) → Placed
mark_at ms k = get_or ms k (record { by = 0; kind = 0 })

-- the mark at a place of an operation's list
abbrev pub own_mark : Plan → (i n : ℕ) → Mark
own_mark p i n = get_or (op p i).marks n (record { buffer = 0; kind = 0 })

-- R30, marks: those on the buffer and no others, in order; `place` is where each is in its operation's list
pub record MarksMeans (p : Plan) (b : ℕ) (ms : List Placed) : Type 0 where
  pub place : (k : ℕ) → ℕ
  pub inside : (k : ℕ) → k < length ms → place k < length (op p (mark_at ms k).by).marks
  pub on_buffer : (k : ℕ) → k < length ms → (own_mark p (mark_at ms k).by (place k)).buffer ≡ b
  pub same_kind : (k : ℕ) → k < length ms → (own_mark p (mark_at ms k).by (place k)).kind ≡ (mark_at ms k).kind
  pub every : (i n : ℕ) → n < length (op p i).marks → (own_mark p i n).buffer ≡ b →
      (k : ℕ) × (k < length ms) × ((mark_at ms k).by ≡ i) × (place k ≡ n)
  pub in_order : (k l : ℕ) → k < l → l < length ms →
      ((mark_at ms k).by < (mark_at ms l).by) ⊎ (((mark_at ms k).by ≡ (mark_at ms l).by) × (place k < place l))

abbrev pub Frees : List Placed → (k : ℕ) → Type 0
Frees ms k = (mark_at ms k).kind ≡ 1

-- no mark from k up to before l is a free
abbrev pub NoFree : List Placed → (k l : ℕ) → Type 0
NoFree ms k l = (n : ℕ) → k ≤ n → n < l → Frees ms n → ⊥

-- what keeping asks of the mark at k; no-later and earlier are those of a run, or what before forces
pub record Asked (ms : List Placed) (no_later earlier : (i j : ℕ) → Type 0) (k : ℕ) : Type 0 where
  -- R32: a use does not come after the free of its holding
  pub own_free : (l : ℕ) → k < l → l < length ms → NoFree ms k l → Frees ms l →
      no_later (mark_at ms k).by (mark_at ms l).by
  -- R33: a mark comes after the free that ended the holding before its own
  pub free_before : (l : ℕ) → l < k → Frees ms l → NoFree ms (suc l) k → earlier (mark_at ms l).by (mark_at ms k).by

abbrev pub StepsEarlier : List ℕ → (i j : ℕ) → Type 0
StepsEarlier r i j = step_of 0 r i < step_of 0 r j

-- R34, keeps: the run has what keeping asks of each mark on the buffer
abbrev pub KeepsMeans : Plan → (run : List ℕ) → (b : ℕ) → Type 0
KeepsMeans p r b =
    (k : ℕ) → k < length (buffer_marks p b) →
    Asked (buffer_marks p b) (λ i j. (i ≡ j) ⊎ StepsEarlier r i j) (λ i j. StepsEarlier r i j) k

-- R35, R36, a mark that is not broken: before forces what keeping asks of it, or it is a use in the operation that
-- frees
abbrev pub Forced : Plan → (b k : ℕ) → Type 0
Forced p b k = Asked (buffer_marks p b) (λ i j. (i ≡ j) ⊎ Before p i j) (λ i j. Before p i j) k

-- R48, refusal 11: the lowest operation with a broken mark
pub record LowestBroken (p : Plan) (i : ℕ) : Type 0 where
  pub broken : (b k : ℕ) × (b < length p.sizes) × (k < length (buffer_marks p b)) ×
      ((mark_at (buffer_marks p b) k).by ≡ i) × (Forced p b k → ⊥)
  pub lowest : (b k : ℕ) → b < length p.sizes → k < length (buffer_marks p b) →
      (mark_at (buffer_marks p b) k).by < i → Forced p b k

-- ---- the reuse question
pub record LastOn (p : Plan) (q j : ℕ) : Type 0 where
  pub operation : j < count p
  pub own : (op p j).queue ≡ q
  pub last : (k : ℕ) → j < k → k < count p → (op p k).queue ≡ q → ⊥

-- R58, seen by the queue: its last operation, or before that
abbrev pub Seen : Plan → (q i : ℕ) → Type 0
Seen p q i = (j : ℕ) × LastOn p q j × ((i ≡ j) ⊎ Before p i j)

-- the operation has a mark on the buffer
abbrev pub Marked : Plan → (b i : ℕ) → Type 0
Marked p b i = (n : ℕ) × (n < length (op p i).marks) × ((own_mark p i n).buffer ≡ b)

abbrev pub LastMark : Plan → (b : ℕ) → Placed → Type 0
LastMark p b m = (ms : List Placed) × (buffer_marks p b ≡ ms ++ (m ∷ []))

-- R58, the table of verdicts
unfoldable pub When : Plan → (q b : ℕ) → Verdict → Type 0
-- no mark
When p q b Fresh = (i : ℕ) → Marked p b i → ⊥
-- the last mark is a use
When p q b Held = (m : Placed) × LastMark p b m × (m.kind ≡ 1 → ⊥)
-- the last mark is a free, and all operations with a mark are seen
When p q b Reusable = (m : Placed) × LastMark p b m × (m.kind ≡ 1) × ((i : ℕ) → Marked p b i → Seen p q i)
-- the last mark is a free, and some operation with a mark is not seen
When p q b NotOrdered =
    (m : Placed) × LastMark p b m × (m.kind ≡ 1) × ((i : ℕ) × Marked p b i × (Seen p q i → ⊥))

-- the last mark is a free in an operation that is not seen
abbrev pub FreeUnseen : Plan → (q b : ℕ) → Type 0
FreeUnseen p q b = (m : Placed) × LastMark p b m × (m.kind ≡ 1) × (Seen p q m.by → ⊥)

-- R58: each number by its line of the table; n is the number handed back
pub record VerdictTable (p : Plan) (q b n : ℕ) : Type 0 where
  pub fresh : (n ≡ 0) ↔ When p q b Fresh
  pub reusable : (n ≡ 1) ↔ When p q b Reusable
  pub held : (n ≡ 2) ↔ When p q b Held
  pub not_ordered : (n ≡ 3) ↔ When p q b NotOrdered

-- ---- room
-- R46, refusal 9: the table is judged before the run list, each with the length that is enough
pub record RoomMeans (n table list : ℕ) (f : Refusal) : Type 0 where
  pub table_short : table < row_width * n → Refuses f 9 (row_width * n)
  pub list_short : row_width * n ≤ table → list < 2 * n → Refuses f 9 (2 * n)
  pub enough : row_width * n ≤ table → 2 * n ≤ list → Refuses f 0 0

-- ---- the check
-- an outcome by its number, its place and what it leaves
abbrev pub Gives : Outcome → (number place : ℕ) → Leaves → Type 0
Gives o n i l = Refuses o.refusal n i × (o.leaves ≡ l)

-- none of refusals 1 to 9 and 16
abbrev pub Unrefused : (bytes : List ℕ) → (table list : ℕ) → Type 0
Unrefused bs t l = ((plan_refusal bs).number ≡ 0) × ((room_refusal (count (plan_in bs)) t l).number ≡ 0)

-- R56: what is left goes by the number's class: numbers of the plan and of room, those of the order, and none or a
-- question's own
pub record LeavesBy (own : List ℕ) (o : Outcome) : Type 0 where
  pub untouched : (o.leaves ≡ untouched) ↔ OneOf untouched_numbers o.refusal.number
  pub zeros : (o.leaves ≡ zeros) ↔ OneOf order_numbers o.refusal.number
  pub rows_and_run : (o.leaves ≡ rows_and_run) ↔ NoneOr own o.refusal.number

-- some run is full
abbrev pub FullRun : Plan → Type 0
FullRun p = (r : List ℕ) × FullMeans p r

-- no mark is broken
abbrev pub AllForced : Plan → Type 0
AllForced p = (b k : ℕ) → b < length p.sizes → k < length (buffer_marks p b) → Forced p b k

-- R53 to R55: the plan, by what 1 to 8 and 16 mean, then 9, 10, 17 and 11, and no other number
pub record CheckMeans (bytes : List ℕ) (table list : ℕ) (o : Outcome) : Type 0 where
  pub plan : PlanRefusalMeans bytes (plan_refusal bytes)
  pub plan_first : ((plan_refusal bytes).number ≡ 0 → ⊥) → (o.refusal ≡ plan_refusal bytes) × (o.leaves ≡ untouched)
  pub nine :
      (i : ℕ) → Gives o 9 i untouched ↔
      (((plan_refusal bytes).number ≡ 0) × Refuses (room_refusal (count (plan_in bytes)) table list) 9 i)
  pub ten : (j : ℕ) → Gives o 10 j zeros ↔ (Unrefused bytes table list × LowestInNoRun (plan_in bytes) j)
  pub seventeen :
      (i : ℕ) → Gives o 17 i zeros ↔
      (Unrefused bytes table list × FullRun (plan_in bytes) × LowestOutOfTurn (plan_in bytes) i)
  pub eleven :
      (i : ℕ) → Gives o 11 i zeros ↔
      (Unrefused bytes table list × FullRun (plan_in bytes) × AllInTurn (plan_in bytes) ×
      LowestBroken (plan_in bytes) i)
  pub passed :
      Gives o 0 0 rows_and_run ↔
      (Unrefused bytes table list × FullRun (plan_in bytes) × AllInTurn (plan_in bytes) × AllForced (plan_in bytes))
  pub only : NoneOr check_gives o.refusal.number
  pub leaves : LeavesBy [] o

-- ---- the question
-- R57, R49: the check, by what its numbers mean, then 12, then 13; R56: an answer, 12 and 13 leave rows and run
pub record QuestionMeans (bytes : List ℕ) (q b table list : ℕ) (o : Outcome) : Type 0 where
  pub check : CheckMeans bytes table list (check_outcome bytes table list)
  pub plan_first : ((check_outcome bytes table list).refusal.number ≡ 0 → ⊥) → o ≡ check_outcome bytes table list
  pub no_queue : (check_outcome bytes table list).refusal.number ≡ 0 → queues (plan_in bytes) ≤ q →
      Gives o 12 q rows_and_run
  pub no_buffer : (check_outcome bytes table list).refusal.number ≡ 0 → q < queues (plan_in bytes) →
      length (plan_in bytes).sizes ≤ b → Gives o 13 b rows_and_run
  pub answered : (check_outcome bytes table list).refusal.number ≡ 0 → q < queues (plan_in bytes) →
      b < length (plan_in bytes).sizes → Gives o 0 0 rows_and_run
  -- exactly if
  pub twelve : (o.refusal.number ≡ 12) ↔
      (((check_outcome bytes table list).refusal.number ≡ 0) × (queues (plan_in bytes) ≤ q))
  pub thirteen : (o.refusal.number ≡ 13) ↔
      (((check_outcome bytes table list).refusal.number ≡ 0) × (q < queues (plan_in bytes)) ×
      (length (plan_in bytes).sizes ≤ b))
  pub only : NoneOr reuse_gives o.refusal.number
  pub leaves : LeavesBy reuse_numbers o

-- ---- what is left in table and list
-- R56: past the front nothing is written
pub record PastKept (k : ℕ) (old now : List ℕ) : Type 0 where
  pub long : k ≤ length old → length now ≡ length old
  pub past : (i : ℕ) → k ≤ i → get_or now i 0 ≡ get_or old i 0

-- R56: zeros in front
pub record ZerosLeft (k : ℕ) (old now : List ℕ) : Type 0 where
  pub kept : PastKept k old now
  pub zero_at : (i : ℕ) → i < k → get_or now i 0 ≡ 0

-- R56, R20: the rows in front, each entry an exact count
pub record RowsLeft (p : Plan) (old now : List ℕ) : Type 0 where
  pub kept : PastKept (row_width * count p) old now
  pub entry : (j q : ℕ) → j < count p → q < row_width → Counts (InColumn p j q) (get_or now (row_width * j + q) 0)

-- R56, R29: the standard run in front, then the number of ready queues before each of its steps (R28)
pub record RunLeft (p : Plan) (old now : List ℕ) : Type 0 where
  pub kept : PastKept (2 * count p) old now
  pub run : StandardMeans p (take (count p) now)
  pub full : FullMeans p (take (count p) now)
  pub ready : (k : ℕ) → k < count p → Counts (ReadyQueue p (take k now)) (get_or now (count p + k) 0)

-- R56, what is left: v is what the outcome leaves, and LeavesBy tells which numbers leave it
pub record LeftMeans (p : Plan) (v : Leaves) (table table_now list list_now : List ℕ) : Type 0 where
  pub untouched : v ≡ untouched → (table_now ≡ table) × (list_now ≡ list)
  pub zeros : v ≡ zeros → ZerosLeft (row_width * count p) table table_now × ZerosLeft (2 * count p) list list_now
  pub rows_and_run : v ≡ rows_and_run → RowsLeft p table table_now × RunLeft p list list_now
