-- Holdings: one lifetime of a buffer each, from its first mark to its free; when a run keeps a buffer, and which marks
-- are broken. Assumes nothing: these are definitions.
use Rattle.std.specs.Prelude.{Bool, true, false, ◌&&◌, ◌||◌, not, cond, List, [], ◌∷◌, ◌++◌, ℕ, suc, ltb, eqb, length}
use Rattle.std.proofs.Math.Option.{Option, none, some}
use Rattle.base_lists.specs.Lists.{all, lowest_below, join_from}
use Rattle.plan_format.specs.Plan.{Mark, Operation, Plan, count, op}
use Rattle.plan_order.specs.Precedence.{before}
use Rattle.plan_order.specs.Runs.{ahead}

-- R30, marks: a mark on a buffer by its operation and kind; those of a buffer in plan order, then in list order
pub record Placed : Type 0 where
  pub by : ℕ
  pub kind : ℕ

unfoldable pub placed : (by kind : ℕ) → Placed
placed i k = record { by = i; kind = k }

unfoldable pub marks_of : (i b : ℕ) → List Mark → List Placed
marks_of i b [] = []
marks_of i b (m ∷ ms) = cond (eqb m.buffer b) (placed i m.kind ∷ marks_of i b ms) (marks_of i b ms)

unfoldable pub marks_from : (i b : ℕ) → List Operation → List Placed
marks_from i b [] = []
marks_from i b (o ∷ os) = marks_of i b o.marks ++ marks_from (suc i) b os

unfoldable pub buffer_marks : Plan → (b : ℕ) → List Placed
buffer_marks p b = marks_from 0 b p.operations

unfoldable pub marks_buffer : Plan → (i b : ℕ) → Bool
marks_buffer p i b = ltb 0 (length (marks_of i b (op p i).marks))

unfoldable pub is_free : Placed → Bool
is_free m = eqb m.kind 1

-- R31, holding: the operation of the free that ends the holding of the first of some marks
unfoldable pub freed_by : List Placed → Option ℕ
freed_by [] = none
freed_by (m ∷ ms) = cond (is_free m) (some m.by) (freed_by ms)

-- R31: the free that ended the holding before the mark after m
unfoldable pub free_after : (free_before : Option ℕ) → Placed → Option ℕ
free_after g m = cond (is_free m) (some m.by) g

-- what keeping asks: that `first` comes at an earlier step than `then`, or is the same operation where that is allowed
pub record Ask : Type 0 where
  pub first : ℕ
  pub then : ℕ
  pub same_allowed : Bool

-- R32: of a use, that it does not come after the free of its holding
unfoldable pub use_asks : Placed → (free : Option ℕ) → List Ask
use_asks m none = []
use_asks m (some f) = cond (is_free m) [] (record { first = m.by; then = f; same_allowed = true } ∷ [])

-- R33: of any mark, that it comes after the free that ended the holding before its own
unfoldable pub later_asks : Placed → (free_before : Option ℕ) → List Ask
later_asks m none = []
later_asks m (some f) = record { first = f; then = m.by; same_allowed = false } ∷ []

unfoldable pub asks_from : (free_before : Option ℕ) → List Placed → List Ask
asks_from g [] = []
asks_from g (m ∷ ms) = use_asks m (freed_by (m ∷ ms)) ++ later_asks m g ++ asks_from (free_after g m) ms

unfoldable pub asks : Plan → (b : ℕ) → List Ask
asks p b = asks_from none (buffer_marks p b)

-- R35: the operation of the mark of which it is asked: of a use and the free of its holding the use, of a free and a
-- mark of the next holding that mark
unfoldable pub asked_of : Ask → ℕ
asked_of a = cond a.same_allowed a.first a.then

-- R36, same operation: it is enough for a use and the free of its holding, and for nothing else
unfoldable pub met : (comes_first : ℕ → ℕ → Bool) → Ask → Bool
met f a = (a.same_allowed && eqb a.first a.then) || f a.first a.then

-- R34, keeps: a full run has all that keeping asks of the marks on the buffer
unfoldable pub keeps : Plan → (run : List ℕ) → (b : ℕ) → Bool
keeps p r b = all (λ a. met (λ i j. ahead r i j) a) (asks p b)

-- R35, broken mark: the order of R19 does not force something that keeping asks of it
unfoldable pub all_asks : Plan → List Ask
all_asks p = join_from (length p.sizes) 0 (λ b. asks p b)

unfoldable pub has_broken : Plan → (asked : List Ask) → (i : ℕ) → Bool
has_broken p asked i = not (all (λ a. not (eqb (asked_of a) i) || met (λ i j. before p i j) a) asked)

-- R48, refusal 11: the lowest operation with a broken mark
unfoldable pub broken : Plan → Option ℕ
broken p = let asked = all_asks p in lowest_below (count p) (λ i. has_broken p asked i)
