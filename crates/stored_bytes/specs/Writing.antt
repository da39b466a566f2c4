-- What the writer's functions say: the reading and the spelling that a cursor stands for, and the bytes of a number.
-- Assumes nothing: these are definitions.
use Rattle.std.specs.Prelude.{◌≡◌, Bool, cond, List, [], ◌++◌, ℕ, ◌+◌, ◌-◌, ◌*◌, ◌≤◌, eqb, length, get_or, take, drop}
use Rattle.std.specs.Prelude.{Result, Ok, Err}
use Rattle.base_lists.specs.Lists.{in_front}
use Rattle.plan_format.specs.Sizes.{most_queues, most_buffers, most_operations, second_width, block_bytes, plan_bytes}
use Rattle.plan_format.specs.Refusal.{Refusal, refusal, none_given}
use Rattle.plan_format.specs.Grammar.{Grammar, field, digits, numbers, Scan, scan}
use Rattle.plan_format.specs.Grammar.{last_got, read_by, Spelling, spell_by}
use Rattle.plan_format.specs.Form.{Form, list_by, form_by, plan_grammar, scanned_by, spelled_by}
use Rattle.plan_format.specs.Stored.{Tells}
use Rattle.plan_format.specs.Told.{Refused, number_of}
use Rattle.plan_format.specs.declared.Told.{Told}
use Rattle.plan_format.specs.Sections.{limited}
use Rattle.stored_bytes.specs.declared.cursor.Cursor.{Cursor}
use Rattle.stored_bytes.specs.declared.writer.Writer.{Writer}

-- how far a writing has come: the number of the refusal met, or 0; the place in the list; how many bytes are put
pub record Reached : Type 0 where
  pub number : ℕ
  pub at : ℕ
  pub put : ℕ

-- the reading of the list `xs` that this stands for, and the spelling, its bytes being in front of `bytes`
unfoldable pub fault_of : Reached → Refusal
fault_of c = cond (eqb c.number 0) none_given (refusal c.number c.at)

unfoldable pub here : (xs : List ℕ) → Reached → Scan
here xs c = scan (drop c.at xs) c.at (take c.at xs) (fault_of c)

unfoldable pub spelling : (xs : List ℕ) → Reached → (bytes : List ℕ) → Spelling
spelling xs c bytes = record { left = drop c.at xs; made = take c.put bytes }

-- how far a writing is at a cursor, and after a result: R53, its refusal ends it
abbrev pub from : Cursor → Reached
from c = record { number = 0; at = c.at; put = c.put }

abbrev pub after : {A : Type 0} → Result A Refused → Cursor → Reached
after (Ok x) c = record { number = 0; at = c.at; put = c.put }
after (Err e) c = record { number = number_of e.reason; at = e.place; put = c.put }

-- the number that a result has, 0 beside a refusal
abbrev pub value_of : Result ℕ Refused → ℕ
value_of (Ok x) = x
value_of (Err e) = 0

-- from `c` to `r` a thing is read from the list and, where there is no refusal, spelled, at most so many bytes long and
-- eight for each number; past the bytes put the array stays
pub record Writes (g : Grammar) (many : ℕ) (xs : List ℕ) (c : Reached) (bytes : List ℕ) (r : Reached)
    (bytes_now : List ℕ) : Type 0 where
  pub read : read_by numbers g (here xs c) ≡ here xs r
  pub spell : r.number ≡ 0 → spell_by g (spelling xs c bytes) ≡ spelling xs r bytes_now
  pub inside : r.at ≤ length xs
  pub more : c.put ≤ r.put
  pub few : r.put ≤ c.put + many
  pub by_eight : r.put + 8 * c.at ≤ c.put + 8 * r.at
  pub as_long : length bytes_now ≡ length bytes
  pub past : drop r.put bytes_now ≡ drop r.put bytes

-- the bytes of a number were put at a place, and nothing after them
pub record NumberPut (width : ℕ) (bytes : List ℕ) (at v : ℕ) (bytes_now : List ℕ) : Type 0 where
  pub front : take (at + width) bytes_now ≡ take at bytes ++ digits width v
  pub as_long : length bytes_now ≡ length bytes
  pub past : drop (at + width) bytes_now ≡ drop (at + width) bytes

-- a limited field was written, with its number: 0 where it is refused
pub record WriteLimited (width limit over : ℕ) (xs : List ℕ) (c : Reached) (bytes : List ℕ) (r : Reached) (v : ℕ)
    (bytes_now : List ℕ) : Type 0 where
  pub writes : Writes (field width (limited limit over)) width xs c bytes r bytes_now
  pub value_is : r.number ≡ 0 → last_got (here xs r) ≡ v
  pub value_read : r.number ≡ 0 → get_or (drop c.at xs) 0 0 ≡ v
  pub value_below : v ≤ limit - 1

-- the writer `w` became `v`, with a result: the same list, of which a thing was written
pub record Wrote {A : Type 0} (g : Grammar) (many : ℕ) (w : Writer) (r : Result A Refused) (v : Writer) : Type 0 where
  pub same_list : v.numbers.now ≡ w.numbers.now
  pub writes : Writes g many w.numbers.now (from w.cursor) w.bytes.now (after r v.cursor) v.bytes.now

-- and the same of a limited field
pub record WroteLimited (width limit over : ℕ) (w : Writer) (r : Result ℕ Refused) (v : Writer) : Type 0 where
  pub same_list : v.numbers.now ≡ w.numbers.now
  pub writes : WriteLimited width limit over w.numbers.now (from w.cursor) w.bytes.now (after r v.cursor)
      (value_of r) v.bytes.now

-- the count of a section, which is the number at the cursor, where the section is not refused
pub record Counted (most : ℕ) (w : Writer) (r : Result ℕ Refused) (v : Writer) : Type 0 where
  pub count_read : (after r v.cursor).number ≡ 0 → get_or w.numbers.now w.cursor.at 0 ≡ value_of r
  pub count_few : value_of r ≤ most

-- the most bytes of a point
abbrev pub point_most : ℕ
point_most = second_width + 8

-- a form's lead was put in front of the array
pub record LeadPut (lead bytes : List ℕ) (k : ℕ) (bytes_now : List ℕ) : Type 0 where
  pub long : k ≡ length lead
  pub front : take k bytes_now ≡ lead
  pub as_long : length bytes_now ≡ length bytes
  pub past : drop k bytes_now ≡ drop k bytes

-- a list that is tried with so many bytes for a semaphore's position, and so many semaphores at most
abbrev pub listed_with : (width most : ℕ) → Form
listed_with w m = record { lead = []; semaphore_width = w; semaphores_least = 0; semaphores_most = m }

-- the most bytes of the four sections, those of the owners and of the rest
abbrev pub sections_most : (owners : ℕ) → ℕ
sections_most m = 1 + 8 * most_queues + (m + (2 + 4 * most_buffers + (2 + block_bytes * most_operations)))

-- the whole list was read and spelled after the lead, but for its end
pub record PlanWritten (wide : Bool) (xs bytes : List ℕ) (r : Reached) (bytes_now : List ℕ) : Type 0 where
  pub read : read_by numbers (plan_grammar (list_by wide)) (scan xs 0 [] none_given) ≡ here xs r
  pub spell : r.number ≡ 0 →
      spell_by (plan_grammar (list_by wide)) (record { left = xs; made = (form_by wide).lead }) ≡ spelling xs r
      bytes_now
  pub inside : r.at ≤ length xs
  pub few : r.put ≤ plan_bytes
  pub by_eight : r.put ≤ length (form_by wide).lead + 8 * r.at
  pub past : drop r.put bytes_now ≡ drop r.put bytes

-- a list as one of the two forms judges it, and its bytes in that form
unfoldable pub tried : (wide : Bool) → List ℕ → Scan
tried b xs = scanned_by numbers (list_by b) xs

abbrev pub tried_bytes : (wide : Bool) → List ℕ → List ℕ
tried_bytes b xs = spelled_by (form_by b) xs

-- how far the array is unspecified beside a refusal: the lead, and eight bytes for each number before the refused one
abbrev pub unspecified : (wide : Bool) → (place : ℕ) → ℕ
unspecified b place = length (form_by b).lead + 8 * place

-- R10, the writer in one form, before its room is judged: 1 to 5 and 16, or the length in bytes as the answer. Past the
-- bytes the array stays, and beside a refusal past what is unspecified.
pub record BytesWritten (wide : Bool) (xs bytes : List ℕ) (r : Told) (bytes_now : List ℕ) : Type 0 where
  pub told : Tells (tried wide xs).fault (length (tried_bytes wide xs)) r
  pub passed : r.number ≡ 0 → bytes_now ≡ in_front (tried_bytes wide xs) bytes
  pub refused : (r.number ≡ 0 → ⊥) →
      drop (unspecified wide r.place) bytes_now ≡ drop (unspecified wide r.place) bytes
  pub few : r.answer ≤ plan_bytes
  pub long : length bytes_now ≡ plan_bytes
