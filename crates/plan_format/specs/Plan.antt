-- A plan, and the plan of a list of numbers. Assumes nothing: these are definitions.
use Rattle.std.specs.Prelude.{List, [], ◌∷◌, ℕ, zero, suc, ◌+◌, ◌*◌, length, get_or, take, drop}

-- a value of a semaphore, waited for or signalled
pub record Point : Type 0 where
  pub semaphore : ℕ
  pub value : ℕ

-- a use (kind 0) or a free (kind 1) of a buffer
pub record Mark : Type 0 where
  pub buffer : ℕ
  pub kind : ℕ

pub record Operation : Type 0 where
  pub queue : ℕ
  pub waits : List Point
  pub signals : List Point
  pub marks : List Mark

-- R4, positions: each part of a plan is named by where it is in its list
pub record Plan : Type 0 where
  pub axes : List ℕ
  pub owners : List ℕ
  pub sizes : List ℕ
  pub operations : List Operation

abbrev pub empty_operation : Operation
empty_operation = record { queue = 0; waits = []; signals = []; marks = [] }

-- how many operations, and the one at a position
unfoldable pub count : Plan → ℕ
count p = length p.operations

unfoldable pub op : Plan → (i : ℕ) → Operation
op p i = get_or p.operations i empty_operation

unfoldable pub queues : Plan → ℕ
queues p = length p.axes

-- ---- R9: the plan of its numbers, in stored order
unfoldable pub points_in : (many : ℕ) → List ℕ → List Point
points_in zero xs = []
points_in (suc k) xs = record { semaphore = get_or xs 0 0; value = get_or xs 1 0 } ∷ points_in k (drop 2 xs)

unfoldable pub marks_in : (many : ℕ) → List ℕ → List Mark
marks_in zero xs = []
marks_in (suc k) xs = record { buffer = get_or xs 0 0; kind = get_or xs 1 0 } ∷ marks_in k (drop 2 xs)

-- how many numbers come before an operation's wait count
unfoldable pub heading : ℕ
heading = 1

unfoldable pub operation_in : List ℕ → Operation
operation_in xs =
    let h = heading in
    let w = get_or xs h 0 in
    let s = get_or xs (h + 1 + 2 * w) 0 in
    let m = get_or xs (h + 2 + 2 * w + 2 * s) 0 in
    record {
      queue = get_or xs 0 0;
      waits = points_in w (drop (h + 1) xs);
      signals = points_in s (drop (h + 2 + 2 * w) xs);
      marks = marks_in m (drop (h + 3 + 2 * w + 2 * s) xs);
    }

-- how many numbers an operation takes
unfoldable pub operation_long : List ℕ → ℕ
operation_long xs =
    let h = heading in
    let w = get_or xs h 0 in
    let s = get_or xs (h + 1 + 2 * w) 0 in h + 3 + 2 * w + 2 * s + 2 * get_or xs (h + 2 + 2 * w + 2 * s) 0

unfoldable pub operations_in : (many : ℕ) → List ℕ → List Operation
operations_in zero xs = []
operations_in (suc k) xs = operation_in xs ∷ operations_in k (drop (operation_long xs) xs)

unfoldable pub plan_of : List ℕ → Plan
plan_of xs =
    let q = get_or xs 0 0 in
    let s = get_or xs (1 + q) 0 in
    let b = get_or xs (2 + q + s) 0 in
    record {
      axes = take q (drop 1 xs);
      owners = take s (drop (2 + q) xs);
      sizes = take b (drop (3 + q + s) xs);
      operations = operations_in (get_or xs (3 + q + s + b) 0) (drop (4 + q + s + b) xs);
    }
