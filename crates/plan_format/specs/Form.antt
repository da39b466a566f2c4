-- R1, R2, R8: the two stored forms of a plan, four sections, each with its count in front. Assumes nothing: these are
-- definitions.
--
--   section     count    most   entry
--   queues      1 byte   16     axis 8
--   semaphores  w bytes  64     owner 1
--   buffers     2 bytes  256    size 4
--   operations  2 bytes  1,024  queue 1; up to 3 waits and 2 signals of w + 8, up to 4 marks of 2 + 1, counts 1
--
-- In the first form w is 1. In the second, which begins with the byte 242, w is 2, and there are 65 to 1,024
-- semaphores.
use Rattle.std.specs.Prelude.{Bool, cond, List, [], ◌∷◌, ◌++◌, ℕ, ◌+◌, ◌*◌, ltb, eqb, length, get_or, drop}
use Rattle.base_lists.specs.Lists.{member}
use Rattle.plan_format.specs.Sizes.{most_queues, most_semaphores, most_buffers, most_operations, most_waits}
use Rattle.plan_format.specs.Sizes.{most_signals, most_marks, first_semaphores, second_lead, first_width}
use Rattle.plan_format.specs.Sizes.{second_width, least_wait, least_signal}
use Rattle.plan_format.specs.Refusal.{none_given}
use Rattle.plan_format.specs.Grammar.{Check, Grammar, field, seq, counted, Source, Scan, scan, read_by, ended}
use Rattle.plan_format.specs.Grammar.{spell_by}

-- what tells one stored form from another: the bytes in front, the width of a semaphore's position and of the semaphore
-- count, the limits of that count
pub record Form : Type 0 where
  pub lead : List ℕ
  pub semaphore_width : ℕ
  pub semaphores_least : ℕ
  pub semaphores_most : ℕ

unfoldable pub first_form : Form
first_form =
    record {
      lead = [];
      semaphore_width = first_width;
      semaphores_least = 0;
      semaphores_most = first_semaphores;
    }

unfoldable pub second_form : Form
second_form =
    record {
      lead = second_lead ∷ [];
      semaphore_width = second_width;
      semaphores_least = first_semaphores + 1;
      semaphores_most = most_semaphores;
    }

-- R10, the writer: its list is judged before the form is chosen, with all semaphores that a plan may have
unfoldable pub list_form : Form
list_form =
    record {
      lead = [];
      semaphore_width = second_width;
      semaphores_least = 0;
      semaphores_most = most_semaphores;
    }

-- a list as it is tried for the wide form, or for the narrow one
unfoldable pub list_by : (wide : Bool) → Form
list_by b = cond b list_form first_form

-- the wide form, or the narrow one, and the bytes of a semaphore's position in it
unfoldable pub form_by : (wide : Bool) → Form
form_by b = cond b second_form first_form

abbrev pub width_by : (wide : Bool) → ℕ
width_by b = (form_by b).semaphore_width

-- R8, the form of some bytes: the first byte tells it
unfoldable pub is_second : (bytes : List ℕ) → Bool
is_second bs = eqb (get_or bs 0 0) second_lead

abbrev pub form_in : (bytes : List ℕ) → Form
form_in bs = form_by (is_second bs)

-- R8, the form of a plan: the first, unless it has too many semaphores for that
abbrev pub form_with : (semaphores : ℕ) → Form
form_with s = form_by (ltb first_semaphores s)

-- where the counts are among the numbers read
unfoldable pub queue_count : (got : List ℕ) → ℕ
queue_count g = get_or g 0 0

unfoldable pub semaphore_count : (got : List ℕ) → ℕ
semaphore_count g = get_or g (1 + queue_count g) 0

unfoldable pub buffer_count : (got : List ℕ) → ℕ
buffer_count g = get_or g (2 + queue_count g + semaphore_count g) 0

-- R6, open fields: nothing is asked of a size
unfoldable pub any_number : Check
any_number g v = 0

-- R41, refusal 4: a position is below the count of its section, a kind below 2
unfoldable pub below : (limit v : ℕ) → ℕ
below l v = cond (ltb v l) 0 4

-- R18, refusal 16: a value is not below the least
unfoldable pub at_least : (least : ℕ) → Check
at_least l g v = cond (ltb v l) 16 0

-- R5 and R42, refusal 5: an axis differs from the earlier ones; the numbers read before it are the count and those axes
unfoldable pub new_axis : Check
new_axis g v = cond (member v (drop 1 g)) 5 0

unfoldable pub a_queue : Check
a_queue g v = below (queue_count g) v

unfoldable pub a_semaphore : Check
a_semaphore g v = below (semaphore_count g) v

unfoldable pub a_buffer : Check
a_buffer g v = below (buffer_count g) v

-- R2, kind: 0 for a use, 1 for a free
unfoldable pub a_kind : Check
a_kind g v = below 2 v

-- R2, R18, a wait or a signal, which differ in their least value: a semaphore, then a value
unfoldable pub point : Form → (least : ℕ) → Grammar
point F l = seq (field F.semaphore_width a_semaphore) (field 8 (at_least l))

-- R2, a mark: a buffer, then a kind
unfoldable pub mark : Grammar
mark = seq (field 2 a_buffer) (field 1 a_kind)

-- R2, operation: its queue, then waits, signals and marks, each list after its count
unfoldable pub operation : Form → Grammar
operation F =
    seq (field 1 a_queue)
    (seq (counted 0 most_waits 1 (point F least_wait))
    (seq (counted 0 most_signals 1 (point F least_signal)) (counted 0 most_marks 1 mark)))

-- R1, sections: queues, semaphores, buffers, operations
unfoldable pub plan_grammar : Form → Grammar
plan_grammar F =
    seq (counted 0 most_queues 1 (field 8 new_axis))
    (seq (counted F.semaphores_least F.semaphores_most F.semaphore_width (field 1 a_queue))
    (seq (counted 0 most_buffers 2 (field 4 any_number)) (counted 0 most_operations 2 (operation F))))

-- R53, reading a whole plan: from after the lead byte to the end
unfoldable pub scanned_by : Source → Form → List ℕ → Scan
scanned_by S F xs =
    let k = S.leads * length F.lead in ended (read_by S (plan_grammar F) (scan (drop k xs) k [] none_given))

-- writing a whole plan: the lead, then the bytes of each number
abbrev pub spelled_by : Form → List ℕ → List ℕ
spelled_by F xs = F.lead ++ (spell_by (plan_grammar F) (record { left = xs; made = [] })).made
