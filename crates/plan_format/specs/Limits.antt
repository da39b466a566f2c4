-- The plans that can be stored, said of a plan itself: the limits, the list of its numbers, and its bytes. None of this
-- knows the grammar. Assumes nothing: these are definitions.
use Rattle.std.specs.Prelude.{◌≡◌, ℕ, ◌^◌, ◌≤◌, ◌<◌, length, get_or}
use mathlib.Core.List.{List, [], ◌∷◌, ◌++◌, flat_map}
use Rattle.plan_format.specs.Sizes.{most_queues, most_semaphores, most_buffers, most_operations, most_waits}
use Rattle.plan_format.specs.Sizes.{most_signals, most_marks, least_wait, least_signal}
use Rattle.plan_format.specs.Grammar.{digits}
use Rattle.plan_format.specs.Form.{Form, form_with}
use Rattle.plan_format.specs.Plan.{Point, Mark, Operation, Plan}

abbrev pub Each : {A : Type 0} → (A → Type 0) → List A → Type 0
Each P [] = Unit {0}
Each P (x ∷ xs) = P x × Each P xs

-- R6, open fields: what is asked of an axis, a size and a value, which have no limit but the bytes of their field
abbrev pub Fits : Type 1
Fits = (width v : ℕ) → Type 0

abbrev pub InBytes : Fits
InBytes w v = v < 256 ^ w

abbrev pub Unbounded : Fits
Unbounded w v = Unit {0}

-- R2, R4, R18, a wait or a signal: its semaphore is in the plan, its value any number of 8 bytes from the least on
pub record PointWithin (fits : Fits) (semaphores least : ℕ) (x : Point) : Type 0 where
  pub semaphore : x.semaphore < semaphores
  pub value : fits 8 x.value
  pub not_below : least ≤ x.value

-- R2, R4, a mark: its buffer is in the plan, and it is a use or a free
pub record MarkWithin (buffers : ℕ) (m : Mark) : Type 0 where
  pub buffer : m.buffer < buffers
  pub kind : m.kind ≤ 1

-- R2, R4, operation: its queue is in the plan, and its lists are within their limits
pub record OperationWithin (fits : Fits) (queues semaphores buffers : ℕ) (o : Operation) : Type 0 where
  pub queue : o.queue < queues
  pub few_waits : length o.waits ≤ most_waits
  pub waits : Each (PointWithin fits semaphores least_wait) o.waits
  pub few_signals : length o.signals ≤ most_signals
  pub signals : Each (PointWithin fits semaphores least_signal) o.signals
  pub few_marks : length o.marks ≤ most_marks
  pub marks : Each (MarkWithin buffers) o.marks

-- R1, R5: sections within their limits, axes distinct, owners among the queues
pub record PlanWithin (fits : Fits) (p : Plan) : Type 0 where
  pub few_queues : length p.axes ≤ most_queues
  pub axes : Each (fits 8) p.axes
  pub axes_distinct : (i k : ℕ) → i < k → k < length p.axes → get_or p.axes i 0 ≡ get_or p.axes k 0 → ⊥
  pub few_semaphores : length p.owners ≤ most_semaphores
  pub owners : Each (λ q. q < length p.axes) p.owners
  pub few_buffers : length p.sizes ≤ most_buffers
  pub sizes : Each (fits 4) p.sizes
  pub few_operations : length p.operations ≤ most_operations
  pub operations : Each (OperationWithin fits (length p.axes) (length p.owners) (length p.sizes))
      p.operations

-- a plan that can be stored
abbrev pub Within : Plan → Type 0
Within = PlanWithin InBytes

-- its counts and positions, and the least value of a wait, alone
abbrev pub Limits : Plan → Type 0
Limits = PlanWithin Unbounded

-- ---- R9, numbers of a plan: one for each field, counts included
unfoldable pub counted_numbers : {A : Type 0} → (entry : A → List ℕ) → List A → List ℕ
counted_numbers f xs = length xs ∷ flat_map f xs

unfoldable pub one_number : ℕ → List ℕ
one_number v = v ∷ []

unfoldable pub point_numbers : Point → List ℕ
point_numbers x = x.semaphore ∷ x.value ∷ []

unfoldable pub mark_numbers : Mark → List ℕ
mark_numbers m = m.buffer ∷ m.kind ∷ []

unfoldable pub operation_numbers : Operation → List ℕ
operation_numbers o =
    o.queue ∷ (counted_numbers point_numbers o.waits
    ++ (counted_numbers point_numbers o.signals ++ counted_numbers mark_numbers o.marks))

unfoldable pub numbers_of : Plan → List ℕ
numbers_of p =
    counted_numbers one_number p.axes
    ++ (counted_numbers one_number p.owners
    ++ (counted_numbers one_number p.sizes ++ counted_numbers operation_numbers p.operations))

-- ---- R1 to R3, bytes of a plan: section by section after its count, each number with its lowest byte first; a
-- semaphore's position and the count of semaphores in as many bytes as the form says
unfoldable pub counted_bytes : {A : Type 0} → (count_width : ℕ) → (entry : A → List ℕ) → List A → List ℕ
counted_bytes w f xs = digits w (length xs) ++ flat_map f xs

unfoldable pub point_bytes : (width : ℕ) → Point → List ℕ
point_bytes w x = digits w x.semaphore ++ digits 8 x.value

unfoldable pub mark_bytes : Mark → List ℕ
mark_bytes m = digits 2 m.buffer ++ digits 1 m.kind

unfoldable pub operation_bytes : (width : ℕ) → Operation → List ℕ
operation_bytes w o =
    digits 1 o.queue ++ (counted_bytes 1 (point_bytes w) o.waits
    ++ (counted_bytes 1 (point_bytes w) o.signals ++ counted_bytes 1 mark_bytes o.marks))

unfoldable pub sections_bytes : (width : ℕ) → Plan → List ℕ
sections_bytes w p =
    counted_bytes 1 (digits 8) p.axes
    ++ (counted_bytes w (digits 1) p.owners
    ++ (counted_bytes 2 (digits 4) p.sizes ++ counted_bytes 2 (operation_bytes w) p.operations))

-- the lead of a form, then the sections at its width
unfoldable pub stored_by : Form → Plan → List ℕ
stored_by F p = F.lead ++ sections_bytes F.semaphore_width p

-- R8: in the form for its semaphores
unfoldable pub form_of : Plan → Form
form_of p = form_with (length p.owners)

unfoldable pub bytes_of : Plan → List ℕ
bytes_of p = stored_by (form_of p) p
