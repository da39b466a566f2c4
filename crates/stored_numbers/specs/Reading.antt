-- What the reader's functions say: the reading that a cursor stands for, and what is handed back of it.
-- Assumes nothing: these are definitions.
use Rattle.std.specs.Prelude.{◌≡◌, Bool, cond, List, [], ◌∷◌, ◌++◌, ℕ, ◌+◌, ◌*◌, ◌≤◌, ◌<◌, min, eqb, length}
use Rattle.std.specs.Prelude.{take, drop, Result, Ok, Err, IfOk}
use Rattle.base_lists.specs.Lists.{in_front}
use Rattle.plan_format.specs.Sizes.{most_queues, first_semaphores, most_buffers, most_operations, head_numbers}
use Rattle.plan_format.specs.Sizes.{block_numbers, plan_numbers}
use Rattle.plan_format.specs.declared.refusal.Reason.{Reason}
use Rattle.plan_format.specs.declared.refusal.Reason.TheVariants.{CutShort}
use Rattle.plan_format.specs.Told.{number_of}
use Rattle.plan_format.specs.Refusal.{Refusal, refusal, none_given, given}
use Rattle.plan_format.specs.Grammar.{Check, Grammar, field, seq, counted, value, bytes, Scan, scan, last_got, times}
use Rattle.plan_format.specs.Grammar.{count_check, read_by, ended}
use Rattle.plan_format.specs.Form.{Form, form_in, queue_count, semaphore_count, buffer_count, any_number, new_axis}
use Rattle.plan_format.specs.Form.{a_queue, plan_grammar}
use Rattle.plan_format.specs.Sections.{owned, operation_below}
use Rattle.plan_format.specs.Stored.{scanned, Tells}
use Rattle.plan_format.specs.declared.Told.{Told}
use Rattle.stored_numbers.specs.declared.End.{End}
use Rattle.stored_numbers.specs.declared.Head.{Head}
use Rattle.stored_numbers.specs.declared.RefusedFor.{RefusedFor}
use Rattle.stored_numbers.specs.declared.Stop.{Stop}
use Rattle.stored_numbers.specs.declared.reader.Cursor.{Cursor}
use Rattle.stored_numbers.specs.declared.operation.Counts.{Counts}
use Rattle.stored_numbers.specs.declared.reader.Reader.{Reader}

-- ---- how far a reading has come: the number of the refusal met, or 0; the place; how many numbers are stored
pub record Reached : Type 0 where
  pub number : ℕ
  pub at : ℕ
  pub got : ℕ

-- the reading of `bs` that has come so far, its numbers being in front of `nums`
unfoldable pub fault_of : Reached → Refusal
fault_of c = cond (eqb c.number 0) none_given (refusal c.number c.at)

unfoldable pub here : (bs : List ℕ) → Reached → (nums : List ℕ) → Scan
here bs c nums = scan (drop c.at bs) c.at (take c.got nums) (fault_of c)

-- at a place, with so many numbers and no refusal
abbrev pub reading : (at got : ℕ) → Reached
reading at got = record { number = 0; at = at; got = got }

-- past so many numbers the array stays
pub record Past (got : ℕ) (nums nums_now : List ℕ) : Type 0 where
  pub as_long : length nums_now ≡ length nums
  pub past : drop got nums_now ≡ drop got nums

-- from `c` to `r` a thing is read, at most so many numbers long
pub record ReadsOn (g : Grammar) (many : ℕ) (bs : List ℕ) (c : Reached) (nums : List ℕ) (r : Reached)
    (nums_now : List ℕ) : Type 0 where
  pub read : read_by bytes g (here bs c nums) ≡ here bs r nums_now
  pub inside : r.at ≤ length bs
  pub more : c.got ≤ r.got
  pub few : r.got ≤ c.got + many
  pub as_long : length nums_now ≡ length nums
  pub past : drop r.got nums_now ≡ drop r.got nums

-- a word of some bytes at a place
pub record Word (width : ℕ) (bs : List ℕ) (at v : ℕ) : Type 0 where
  pub word : v ≡ value (take width (drop at bs))
  pub whole : at + width ≤ length bs

-- R38, the next field's number, or that it is cut short
abbrev pub NextIs : (width : ℕ) → (bs : List ℕ) → (at : ℕ) → Result ℕ Reason → Type 0
NextIs w bs at (Ok v) = Word w bs at v
NextIs w bs at (Err e) = (e ≡ CutShort) × (length bs < at + w)

-- ---- what a reader's methods say
-- the number of the refusal met, or 0
abbrev pub number_met : {A : Type 0} → Result A Reason → ℕ
number_met (Ok x) = 0
number_met (Err e) = number_of e

-- how far a result has come, the cursor being where it is
abbrev pub reached : {A : Type 0} → Result A Reason → Cursor → Reached
reached r c = record { number = number_met r; at = c.at; got = c.got }

-- room for so many numbers more
abbrev pub RoomFor : (many : ℕ) → Reader → Type 0
RoomFor many s = s.cursor.got + many ≤ length s.numbers.now

-- a reader has what it was lent
pub record SameLent (old new : Reader) : Type 0 where
  pub plan : new.plan ≡ old.plan
  pub room : new.numbers.ghost_name ≡ old.numbers.ghost_name

-- a thing is read, at most so many numbers long
pub record Reads {A : Type 0} (g : Grammar) (many : ℕ) (old : Reader) (r : Result A Reason) (new : Reader) : Type 0
  where
    pub same : SameLent old new
    pub reads : ReadsOn g many old.plan.now (reading old.cursor.at old.cursor.got) old.numbers.now
        (reached r new.cursor) new.numbers.now

-- a field is read, which is one number
pub record ReadsField {A : Type 0} (width : ℕ) (check : Check) (old : Reader) (r : Result A Reason) (new : Reader) :
    Type 0 where
  pub reads : Reads (field width check) 1 old r new
  pub one : IfOk r (λ _. new.cursor.got ≡ old.cursor.got + 1)

-- and it is handed back, where the check takes none over the most
pub record ReadsNumber (width : ℕ) (check : Check) (most : ℕ) (old : Reader) (r : Result ℕ Reason) (new : Reader) :
    Type 0 where
  pub field : ReadsField width check old r new
  pub number : IfOk r (λ v. (v ≡ last_got (here old.plan.now (reached r new.cursor) new.numbers.now)) × (v ≤ most))

-- a section is read: its count, which is handed back, and so many numbers
pub record ReadsSection (g : Grammar) (most : ℕ) (old : Reader) (r : Result ℕ Reason) (new : Reader) : Type 0 where
  pub reads : Reads g (1 + most) old r new
  pub entries : IfOk r (λ n. new.cursor.got ≡ old.cursor.got + (1 + n))

-- a reading at its start, past the form's lead bytes
unfoldable pub begun : Form → (bs : List ℕ) → Scan
begun F bs = let k = length F.lead in scan (drop k bs) k [] none_given

-- the most numbers of three sections
unfoldable pub front_numbers : Form → ℕ
front_numbers F = 3 + most_queues + F.semaphores_most + most_buffers

-- and of the whole plan
unfoldable pub form_numbers : Form → ℕ
form_numbers F = front_numbers F + 1 + most_operations * block_numbers

-- which is this for the first form
abbrev pub first_numbers : ℕ
first_numbers = 4 + most_queues + first_semaphores + most_buffers + most_operations * block_numbers

-- the whole plan was read, but for its end
pub record PlanRead (F : Form) (bs : List ℕ) (r : Reached) (nums_now : List ℕ) : Type 0 where
  pub read : read_by bytes (plan_grammar F) (begun F bs) ≡ here bs r nums_now
  pub inside : r.at ≤ length bs
  pub few : r.got ≤ plan_numbers

-- ---- what is handed back of a reading: its refusal's number, the place where it stopped and how many numbers it got;
-- these are in front of the array, which stays past them
pub record Stopped (s : Scan) (number at got : ℕ) (nums nums_now : List ℕ) : Type 0 where
  pub number_is : number ≡ s.fault.number
  pub place_is : at ≡ s.place
  pub got_is : got ≡ length s.got
  pub array_is : nums_now ≡ in_front s.got nums

-- a number that is handed back only where there is no refusal: beside one it is 0
unfoldable pub unless_refused : Scan → ℕ → ℕ
unless_refused s n = cond (given s.fault) 0 n

-- ---- the head
-- the first three sections of a plan, and what follows them
unfoldable pub fronted : Form → Grammar → Grammar
fronted F g =
    seq (counted 0 most_queues 1 (field 8 new_axis))
    (seq (owned F a_queue) (seq (counted 0 most_buffers 2 (field 4 any_number)) g))

-- what comes before the operations: three sections, and the count of the fourth
unfoldable pub head_grammar : Form → Grammar
head_grammar F = fronted F (field 2 (λ g v. count_check 0 most_operations v))

-- its reading: no operation is read, so that no refusal of one is met
unfoldable pub head_scan_by : Form → (bs : List ℕ) → Scan
head_scan_by F bs = read_by bytes (head_grammar F) (begun F bs)

unfoldable pub head_scan : (bs : List ℕ) → Scan
head_scan bs = head_scan_by (form_in bs) bs

-- what is told of a head: the number of the refusal met, or 0; the place where the reading stopped and how many numbers
-- it got; the four counts
pub record ToldHead : Type 0 where
  pub number : ℕ
  pub at : ℕ
  pub got : ℕ
  pub queues : ℕ
  pub semaphores : ℕ
  pub buffers : ℕ
  pub operations : ℕ

-- beside a refusal the counts are 0
abbrev pub refused_head : (number at got : ℕ) → ToldHead
refused_head number at got =
    record {
      number = number;
      at = at;
      got = got;
      queues = 0;
      semaphores = 0;
      buffers = 0;
      operations = 0;
    }

-- R53, what is told by a head that was read, or by where its reading stopped, for a reason that has a number
abbrev pub head_told_by : {R : Type 0} → (number : R → ℕ) → Result Head (Stop R) → ToldHead
head_told_by number (Ok h) =
    record {
      number = 0;
      at = h.at;
      got = h.got;
      queues = h.queues;
      semaphores = h.semaphores;
      buffers = h.buffers;
      operations = h.operations;
    }
head_told_by number (Err s) = refused_head (number s.reason) s.at s.got

-- which is this for a reason of the reader
abbrev pub head_told : Result Head (Stop Reason) → ToldHead
head_told r = head_told_by number_of r

-- R8, whether a head is in the second form, be it read, or its reading stopped
abbrev pub is_wide : {R : Type 0} → Result Head (Stop R) → Bool
is_wide (Ok h) = h.wide
is_wide (Err s) = s.wide

-- what `read_head` hands back of that reading, and the array
pub record HeadTold (s : Scan) (nums : List ℕ) (h : ToldHead) (nums_now : List ℕ) : Type 0 where
  pub stopped : Stopped s h.number h.at h.got nums nums_now
  pub queues : h.queues ≡ unless_refused s (queue_count s.got)
  pub semaphores : h.semaphores ≡ unless_refused s (semaphore_count s.got)
  pub buffers : h.buffers ≡ unless_refused s (buffer_count s.got)
  pub operations : h.operations ≡ unless_refused s (last_got s)

-- the numbers before the operations, their count being the last
pub record Heading (q m b n : ℕ) (nums : List ℕ) : Type 0 where
  pub axes : List ℕ
  pub owners : List ℕ
  pub sizes : List ℕ
  pub axes_long : length axes ≡ q
  pub owners_long : length owners ≡ m
  pub sizes_long : length sizes ≡ b
  pub numbers_are : nums ≡ q ∷ (axes ++ (m ∷ (owners ++ (b ∷ (sizes ++ (n ∷ []))))))

-- where the operations begin
unfoldable pub head_cursor : ToldHead → Reached
head_cursor h = record { number = h.number; at = h.at; got = h.got }

-- so many operations are read after a head, a semaphore's position having so many bytes
abbrev pub operations_after : (width : ℕ) → ToldHead → (many : ℕ) → Scan → Scan
operations_after width h many s =
    times many (λ t. read_by bytes (operation_below width h.queues h.semaphores h.buffers) t) s

-- what a head means: with so many operations it makes the plan
pub record HeadRead (F : Form) (bs : List ℕ) (h : ToldHead) (nums_now : List ℕ) : Type 0 where
  pub plan : read_by bytes (plan_grammar F) (begun F bs) ≡
      operations_after F.semaphore_width h h.operations (here bs (head_cursor h) nums_now)
  pub heading : h.number ≡ 0 →
      Heading h.queues h.semaphores h.buffers h.operations (take h.got nums_now)
  pub inside : h.at ≤ length bs
  pub few : h.got ≤ head_numbers
  pub few_operations : h.operations ≤ most_operations

-- a reader before the first section
pub record Begins (F : Form) (s : Reader) : Type 0 where
  pub at : s.cursor.at ≡ length F.lead
  pub got : s.cursor.got ≡ 0

-- what is told of a head by a result, and by the cursor
abbrev pub head_of : Result (Counts × ℕ) Reason → Cursor → ToldHead
head_of (Ok (k, n)) c =
    record {
      number = 0;
      at = c.at;
      got = c.got;
      queues = k.queues;
      semaphores = k.semaphores;
      buffers = k.buffers;
      operations = n;
    }
head_of (Err e) c = refused_head (number_of e) c.at c.got

-- a head is read
pub record HeadReads (F : Form) (old : Reader) (r : Result (Counts × ℕ) Reason) (new : Reader) : Type 0 where
  pub same : SameLent old new
  pub told : HeadTold (head_scan_by F old.plan.now) old.numbers.now (head_of r new.cursor) new.numbers.now
  pub means : HeadRead F old.plan.now (head_of r new.cursor) new.numbers.now
  pub past : Past new.cursor.got old.numbers.now new.numbers.now
  pub few : new.cursor.got ≤ front_numbers F + 1

-- a plan is read, but for its end
pub record PlanReads {A : Type 0} (F : Form) (old : Reader) (r : Result A Reason) (new : Reader) : Type 0 where
  pub same : SameLent old new
  pub read : PlanRead F old.plan.now (reached r new.cursor) new.numbers.now
  pub past : Past new.cursor.got old.numbers.now new.numbers.now
  pub few : new.cursor.got ≤ form_numbers F

-- ---- an operation
-- the reading of an operation from a place on, or from the end of the bytes
unfoldable pub operation_scan : (width q m b : ℕ) → (bs : List ℕ) → (at : ℕ) → Scan
operation_scan width q m b bs at =
    let from = min at (length bs) in read_by bytes (operation_below width q m b)
    (scan (drop from bs) from [] none_given)

-- R53, how far a reading has come by the end of an operation, or by where its reading stopped
abbrev pub end_told : Result End (Stop Reason) → Reached
end_told (Ok e) = record { number = 0; at = e.at; got = e.got }
end_told (Err s) = record { number = number_of s.reason; at = s.at; got = s.got }

-- what `read_operation` hands back, and the window
unfoldable pub OperationTold : (width q m b : ℕ) → (bs : List ℕ) → (at : ℕ) → (window : List ℕ) → Reached →
    (window_now : List ℕ) → Type 0
OperationTold width q m b bs at w r w_now =
    Stopped (operation_scan width q m b bs at) r.number r.at r.got w w_now

-- what it means: the reading goes on at the place, with the numbers in front of the window
pub record OperationRead (width q m b : ℕ) (bs : List ℕ) (at : ℕ) (r : Reached) (window_now : List ℕ) : Type 0
  where
    pub read : operation_scan width q m b bs at ≡ here bs r window_now
    pub inside : r.at ≤ length bs
    pub few : r.got ≤ block_numbers

-- ---- a plan
-- R13, R37: the number and the place of a refusal whose reason has a number, or 0 and 0 with the answer
abbrev pub told_for : {R : Type 0} → (number : R → ℕ) → Result ℕ (RefusedFor R) → Told
told_for number (Ok n) = record { number = 0; place = 0; answer = n }
told_for number (Err e) = record { number = number e.reason; place = e.place; answer = 0 }

-- what is told of a reading that has come to its end: its refusal, or how many numbers it got
unfoldable pub Ends : Scan → Told → Type 0
Ends s r = Tells s.fault (length s.got) r

-- R9, R10, the reader before its room is judged: 1 to 5 and 16, or the numbers; R7: they fit
pub record NumbersRead (bs : List ℕ) (r : Told) (nums_now : List ℕ) : Type 0 where
  pub told : Tells (scanned bs).fault (length (scanned bs).got) r
  pub numbers : r.number ≡ 0 → take (length (scanned bs).got) nums_now ≡ (scanned bs).got
  pub few : r.answer ≤ plan_numbers
  pub long : length nums_now ≡ plan_numbers

-- a plan from its head on: after the head's numbers its operations are read at a place, to the end of the bytes; beside
-- a refusal of the head nothing is read, and it is told at that place
unfoldable pub rest_cursor : (bs : List ℕ) → (at : ℕ) → ToldHead → Reached
rest_cursor bs at h = record { number = h.number; at = min at (length bs); got = min h.got head_numbers }

unfoldable pub rest_scan : (width : ℕ) → (bs : List ℕ) → (at : ℕ) → ToldHead → (nums : List ℕ) → Scan
rest_scan width bs at h nums =
    ended (operations_after width h (min h.operations most_operations) (here bs (rest_cursor bs at h) nums))
