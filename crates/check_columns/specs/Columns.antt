-- Columns of a plan (R1, R2): flat lists with a place for each operation, wait, signal and mark, in plan order and list
-- order. The passes of the check read these, and say what they answer for every plan that the columns show. Assumes
-- nothing: these are definitions.
use Rattle.std.specs.Prelude.{◌≡◌, List, [], ◌∷◌, ◌++◌, ℕ, suc, ◌+◌, ◌*◌, ◌≤◌, ◌<◌, length, get_or}
use Rattle.plan_format.specs.Sizes.{most_waits, signal_places, row_width, no_operation, no_wait}
use Rattle.plan_format.specs.Plan.{Point, Mark, Operation, Plan, count, op, queues}
use Rattle.plan_order.specs.Precedence.{Signal, no_signal, plan_signals, on, resolve}
use Rattle.plan_order.specs.Rows.{row}

-- the columns of operations, side by side: the queue of each; the semaphore and the value of each wait, three places to
-- an operation; the semaphore, the value and the operation of each signal; the code and the operation of each mark
pub record Columns : Type 0 where
  pub queue : List ℕ
  pub wait_semaphore : List ℕ
  pub wait_value : List ℕ
  pub signal_semaphore : List ℕ
  pub signal_value : List ℕ
  pub signal_operation : List ℕ
  pub mark : List ℕ
  pub mark_operation : List ℕ

abbrev pub columns : (queue wsem wval ssem sval sop mark mop : List ℕ) → Columns
columns queue wsem wval ssem sval sop mark mop = record {
  queue = queue;
  wait_semaphore = wsem;
  wait_value = wval;
  signal_semaphore = ssem;
  signal_value = sval;
  signal_operation = sop;
  mark = mark;
  mark_operation = mop;
}

abbrev pub no_point : Point
no_point = record { semaphore = 0; value = 0 }

-- the numbers before the operations: the count of queues and the axis of each, the count of semaphores and the owner of
-- each, the count of buffers and the size of each, and the count of operations
pub record HeadColumn (p : Plan) (head : List ℕ) : Type 0 where
  pub queues_shown : get_or head 0 0 ≡ queues p
  pub semaphores_shown : get_or head (1 + queues p) 0 ≡ length p.owners
  pub owners_shown : (s : ℕ) → s < length p.owners → get_or head (2 + queues p + s) 0 ≡ get_or p.owners s 0
  pub buffers_shown : get_or head (2 + queues p + length p.owners) 0 ≡ length p.sizes
  pub operations_shown : get_or head (3 + queues p + length p.owners + length p.sizes) 0 ≡ count p
  pub axes_shown : (q : ℕ) → q < queues p → get_or head (1 + q) 0 ≡ get_or p.axes q 0
  pub sizes_shown : (b : ℕ) → b < length p.sizes →
      get_or head (3 + queues p + length p.owners + b) 0 ≡ get_or p.sizes b 0

-- the owner of each semaphore
unfoldable pub OwnerColumn : Plan → (owner : List ℕ) → Type 0
OwnerColumn p owner = (s : ℕ) → s < length p.owners → get_or owner s 0 ≡ get_or p.owners s 0

-- the queue of each operation
unfoldable pub QueueColumn : Plan → (queue : List ℕ) → Type 0
QueueColumn p queue = (i : ℕ) → i < count p → get_or queue i 0 ≡ (op p i).queue

-- the k-th wait of operation i
unfoldable pub wait_at : Plan → (i k : ℕ) → Point
wait_at p i k = get_or (op p i).waits k no_point

-- three places for each operation: so many as it has waits show them, and each of the others that there is no wait;
-- columns with room for all
pub record WaitColumns (p : Plan) (semaphore value : List ℕ) : Type 0 where
  pub semaphore_room : most_waits * count p ≤ length semaphore
  pub value_room : most_waits * count p ≤ length value
  pub few : (i : ℕ) → i < count p → length (op p i).waits ≤ most_waits
  pub semaphores : (i k : ℕ) → i < count p → k < length (op p i).waits →
      get_or semaphore (most_waits * i + k) 0 ≡ (wait_at p i k).semaphore
  pub values : (i k : ℕ) → i < count p → k < length (op p i).waits →
      get_or value (most_waits * i + k) 0 ≡ (wait_at p i k).value
  pub absent : (i k : ℕ) → i < count p → length (op p i).waits ≤ k → k < most_waits →
      get_or value (most_waits * i + k) 0 ≡ no_wait

-- one place for each signal, and how many there are; columns with room for all
pub record SignalColumns (p : Plan) (many : ℕ) (semaphore value operation : List ℕ) : Type 0 where
  pub few : many ≤ signal_places
  pub semaphore_room : many ≤ length semaphore
  pub value_room : many ≤ length value
  pub operation_room : many ≤ length operation
  pub all : many ≡ length (plan_signals p)
  pub semaphores : (k : ℕ) → k < many → get_or semaphore k 0 ≡ (get_or (plan_signals p) k no_signal).semaphore
  pub values : (k : ℕ) → k < many → get_or value k 0 ≡ (get_or (plan_signals p) k no_signal).value
  pub operations : (k : ℕ) → k < many → get_or operation k 0 ≡ (get_or (plan_signals p) k no_signal).operation

-- a mark of a plan with its operation
pub record Marked : Type 0 where
  pub by : ℕ
  pub buffer : ℕ
  pub kind : ℕ

abbrev pub no_mark : Marked
no_mark = record { by = 0; buffer = 0; kind = 0 }

unfoldable pub marked_of : (i : ℕ) → List Mark → List Marked
marked_of i [] = []
marked_of i (m ∷ ms) = record { by = i; buffer = m.buffer; kind = m.kind } ∷ marked_of i ms

unfoldable pub marked_from : (i : ℕ) → List Operation → List Marked
marked_from i [] = []
marked_from i (o ∷ os) = marked_of i o.marks ++ marked_from (suc i) os

unfoldable pub plan_marks : Plan → List Marked
plan_marks p = marked_from 0 p.operations

-- one place for each mark, twice its buffer and one more for a free, and how many there are; columns with room for all
pub record MarkColumns (p : Plan) (many : ℕ) (mark operation : List ℕ) : Type 0 where
  pub room : many ≤ length mark
  pub operation_room : many ≤ length operation
  pub all : many ≡ length (plan_marks p)
  pub marks : (k : ℕ) → k < many →
      get_or mark k 0 ≡ 2 * (get_or (plan_marks p) k no_mark).buffer + (get_or (plan_marks p) k no_mark).kind
  pub operations : (k : ℕ) → k < many → get_or operation k 0 ≡ (get_or (plan_marks p) k no_mark).by

-- the operation that each wait rests on, and no operation where there is no wait
pub record SourceColumn (p : Plan) (source : List ℕ) : Type 0 where
  pub rests : (i k : ℕ) (x : Signal) → i < count p → k < length (op p i).waits → resolve p (wait_at p i k) ≡ on x →
      get_or source (most_waits * i + k) 0 ≡ x.operation
  pub absent : (i k : ℕ) → i < count p → length (op p i).waits ≤ k → k < most_waits →
      get_or source (most_waits * i + k) 0 ≡ no_operation

-- rows one after the other, sixteen places each, of the operations in a list
unfoldable pub RowColumns : Plan → (done : ℕ → Type 0) → (rows : List ℕ) → Type 0
RowColumns p done rows = (j q : ℕ) → done j → q < row_width → get_or rows (row_width * j + q) 0 ≡ get_or (row p j) q 0
