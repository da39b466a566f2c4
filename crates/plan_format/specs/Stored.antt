-- Stored plans as bytes and as lists of numbers: what the reader and the writer answer and leave. Assumes nothing:
-- these are definitions.
use Rattle.std.specs.Prelude.{◌≡◌, Bool, ◌&&◌, cond, List, ℕ, ltb, length}
use Rattle.base_lists.specs.Lists.{all, in_front}
use Rattle.plan_format.specs.Sizes.{most_input}
use Rattle.plan_format.specs.Refusal.{Refusal, refusal, none_given, given, or_refusal}
use Rattle.plan_format.specs.Grammar.{bytes, numbers, Scan}
use Rattle.plan_format.specs.Form.{is_second, form_in, form_with, list_form, semaphore_count, scanned_by}
use Rattle.plan_format.specs.Form.{spelled_by}
use Rattle.plan_format.specs.Plan.{Plan, plan_of}
use Rattle.plan_format.specs.Sound.{rules_refusal}
use Rattle.plan_format.specs.declared.Told.{Told}

-- a list that a slice of bytes can hold
unfoldable pub all_bytes : List ℕ → Bool
all_bytes bs = all (λ b. ltb b 256) bs

-- R10: the reading of bytes, and of a list of numbers
unfoldable pub scanned : List ℕ → Scan
scanned bs = scanned_by bytes (form_in bs) bs

unfoldable pub listed : List ℕ → Scan
listed xs = scanned_by numbers list_form xs

unfoldable pub plan_in : List ℕ → Plan
plan_in bs = plan_of (scanned bs).got

-- R8, R10, the writer: the stored bytes of a list of numbers, in the form for its semaphores
unfoldable pub spelled : List ℕ → List ℕ
spelled xs = spelled_by (form_with (semaphore_count xs)) xs

-- R75: more bytes in the second form than the program judges
unfoldable pub too_long : List ℕ → Bool
too_long bs = is_second bs && ltb most_input (length bs)

-- R53, R54: refusals 1 to 5 and 16, then 7 and 8
unfoldable pub plan_refusal : List ℕ → Refusal
plan_refusal bs = or_refusal (scanned bs).fault (rules_refusal (plan_in bs))

-- R12 and R46, refusal 9: room that is too short, with the length that is enough
unfoldable pub room_for : (needed room : ℕ) → Refusal
room_for n k = cond (ltb k n) (refusal 9 n) none_given

unfoldable pub read_refusal : (bytes : List ℕ) → (room : ℕ) → Refusal
read_refusal bs k = or_refusal (scanned bs).fault (room_for (length (scanned bs).got) k)

unfoldable pub write_refusal : (numbers : List ℕ) → (room : ℕ) → Refusal
write_refusal xs k = or_refusal (listed xs).fault (room_for (length (spelled xs)) k)

-- number and place as the refusal has them; the answer where none is given, else 0
pub record Tells (f : Refusal) (answer : ℕ) (r : Told) : Type 0 where
  pub number : r.number ≡ f.number
  pub place : r.place ≡ f.place
  pub answer_is : r.answer ≡ cond (given f) 0 answer

-- R13, handed back: the length, with the result at the front of the room and the rest as it was; or the room as it was
unfoldable pub Fills : Refusal → (new : List ℕ) → Told → (room room_now : List ℕ) → Type 0
Fills f new r o x = Tells f (length new) r × (x ≡ cond (given f) o (in_front new o))

unfoldable pub ReadSays : (bytes : List ℕ) → Told → (room room_now : List ℕ) → Type 0
ReadSays bs r o x = Fills (read_refusal bs (length o)) (scanned bs).got r o x

unfoldable pub WriteSays : (numbers : List ℕ) → Told → (room room_now : List ℕ) → Type 0
WriteSays xs r o x = Fills (write_refusal xs (length o)) (spelled xs) r o x
