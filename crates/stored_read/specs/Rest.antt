-- What is said of a plan that is read in two parts: its head, and from a place on the rest. Assumes nothing: these are
-- definitions.
use Rattle.std.specs.Prelude.{◌≡◌, true, List, ℕ, length, drop, replicate}
use Rattle.plan_format.specs.Form.{form_in, width_by, is_second}
use Rattle.plan_format.specs.Refusal.{or_refusal}
use Rattle.plan_format.specs.Sizes.{head_numbers}
use Rattle.plan_format.specs.Stored.{all_bytes, room_for, Fills}
use Rattle.plan_format.specs.declared.refusal.Reason.{Reason}
use Rattle.plan_format.specs.declared.Told.{Told}
use Rattle.stored_numbers.specs.Reading.{head_scan, head_told_by, head_told, is_wide, HeadTold, HeadRead, rest_scan}
use Rattle.stored_read.specs.declared.Heading.{Heading}

-- the head of the plan that begins at a place, and its numbers in front of zeros; what was lent are bytes
pub record HeadingTold (bytes : List ℕ) (at : ℕ) (h : Heading Reason) : Type 0 where
  pub form : is_wide h.head ≡ is_second (drop at bytes)
  pub told : HeadTold (head_scan (drop at bytes)) (replicate head_numbers 0) (head_told h.head) h.numbers
  pub means : HeadRead (form_in (drop at bytes)) (drop at bytes) (head_told h.head) h.numbers
  pub are_bytes : all_bytes bytes ≡ true

-- R13, handed back, of the numbers of a head and of what follows it at a place; a head's reason has a number
unfoldable pub RestSays : {R : Type 0} → (number : R → ℕ) → (bytes : List ℕ) → (at : ℕ) → Heading R → Told →
    (room room_now : List ℕ) → Type 0
RestSays number bs at h r o x =
    let s = rest_scan (width_by (is_wide h.head)) bs at (head_told_by number h.head) h.numbers in
    Fills (or_refusal s.fault (room_for (length s.got) (length o))) s.got r o x
