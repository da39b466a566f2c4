-- The rest of a plan whose head was read: after the head's numbers its operations, to the end. Assumes nothing.
use mathlib.Core.Path.{◌≡◌, refl, sym, ap, ap₂, ◌∙◌, subst}
use mathlib.Core.Bool.{Bool}
use mathlib.Core.List.{List}
use Prim.Native.Nat.{ℕ, ◌+◌, ◌*◌, ◌≤◌, min}
use native.Mathlib.Omega.{arith}
use lib.ListN.{length, take, drop, length-append, length-take, length-drop}
use lib.Seq.{take_at, drop_at, length-take-le}
use Rattle.std.specs.Prelude.{Result, Ok, Err, IfOk, IsErrAnd}
use Rattle.base_lists.specs.Lists.{in_front}
use Rattle.plan_format.specs.Sizes.{most_operations, head_numbers, block_numbers, plan_numbers}
use Rattle.plan_format.specs.Grammar.{Grammar, bytes, Scan, scan, times, ended}
use Rattle.plan_format.specs.Form.{Form, form_in, width_by, is_second}
use Rattle.plan_format.specs.Sections.{repeat, operation_below}
use Rattle.plan_format.specs.Stored.{scanned}
use Rattle.plan_format.specs.declared.refusal.Reason.{Reason}
use Rattle.plan_format.specs.declared.Told.{Told}
use Rattle.plan_format.specs.Told.{Refused, number_of, told_by}
use Rattle.plan_format.proofs.Repeats.{read_repeat}
use Rattle.stored_numbers.specs.Reading.{Reached, reading, fault_of, here, Past, ReadsOn, head_cursor}
use Rattle.stored_numbers.specs.Reading.{operations_after, HeadRead}
use Rattle.stored_numbers.specs.declared.Head.{Head}
use Rattle.stored_numbers.specs.declared.RefusedFor.{RefusedFor}
use Rattle.stored_numbers.specs.declared.Stop.{Stop}
use Rattle.stored_numbers.specs.Reading.{ToldHead, head_told, is_wide, Ends, rest_cursor, rest_scan, told_for}
use Rattle.stored_numbers.proofs.Cursors.{past_then, reads_past}
use Rattle.stored_numbers.proofs.ReadingEnds.{ReadIn, read_in, answer_few, ends_front, ends_array}

-- ---- the head's numbers in front of an array
module _ (k : ℕ) (head nums : List ℕ) (l : k ≤ length head) where
  pub front_taken : take k (in_front (take k head) nums) ≡ take k head
  unfolding in_front
  front_taken = take_at (take k head) (drop (length (take k head)) nums) k (length-take-le k head l)

  pub front_past : k ≤ length nums → Past k nums (in_front (take k head) nums)
  unfolding in_front
  front_past m =
      let many = length-take-le k head l in
      let rest = drop (length (take k head)) nums in
      record {
        as_long = length-append (take k head) rest ∙ omega (arith, many, length-drop (length (take k head)) nums);
        past = drop_at (take k head) rest k many ∙ ap (λ (n : ℕ). drop n nums) many;
      }

-- ---- the reading
-- a head without a refusal
pub from_clean : {g : Grammar} {m : ℕ} {bs : List ℕ} (number : ℕ) {a k : ℕ} {nums nums_now : List ℕ} {r : Reached} →
    number ≡ 0 → ReadsOn g m bs (reading a k) nums r nums_now →
    ReadsOn g m bs (record { number = number; at = a; got = k }) nums r nums_now
from_clean {g} {m} {bs} number {a} {k} {nums} {nums_now} {r} z p =
    subst (λ (n : ℕ). ReadsOn g m bs (record { number = n; at = a; got = k }) nums r nums_now) (sym z) p

module _ (width : ℕ) (bs head nums₀ : List ℕ) (at : ℕ) (h : ToldHead) {a k n : ℕ} {nums nums_now : List ℕ} {r : Reached}
    (place : a ≡ min at (length bs))
    (got : k ≡ min h.got head_numbers) (many : n ≡ min h.operations most_operations)
    (copied : nums ≡ in_front (take k head) nums₀)
    (long : k ≤ length head) (roomy : k ≤ length nums₀) (room : k + block_numbers * n ≤ length nums)
    (p : ReadsOn (repeat n (operation_below width h.queues h.semaphores h.buffers)) (block_numbers * n) bs
    (record { number = h.number; at = a; got = k }) nums r nums_now) where
  taken : take k nums ≡ take k head
  taken = ap (λ (l : List ℕ). take k l) copied ∙ front_taken k head nums₀ long

  abbrev rest : Scan
  rest = rest_scan width bs at h head

  rest_is : rest ≡ ended (here bs r nums_now)
  unfolding rest_scan rest_cursor here fault_of
  rest_is =
      let start : (a k : ℕ) (l : List ℕ) → Scan =
      λ a k l. scan (drop a bs) a l (fault_of (record { number = h.number; at = a; got = k })) in
      ap ended
      (ap (λ (n : ℕ). operations_after width h n (start (min at (length bs)) (min h.got head_numbers)
      (take (min h.got head_numbers) head))) (sym many)
      ∙ ap₂ {C = Scan} (λ a k. operations_after width h n (start a k (take k head))) (sym place) (sym got)
      ∙ ap (λ (l : List ℕ). operations_after width h n (start a k l)) (sym taken)
      ∙ sym (read_repeat bytes n (operation_below width h.queues h.semaphores h.buffers)
      (start a k (take k nums)))
      ∙ p.read)

  fits : r.got ≤ length nums_now
  fits = omega (arith, room, p.few, p.as_long)

  rest_array : nums_now ≡ in_front rest.got nums₀
  rest_array =
      let past = subst (λ (l : List ℕ). Past k nums₀ l) (sym copied) (front_past k head nums₀ long roomy) in
      ends_array bs r nums_now fits (past_then p.more past (reads_past p))
      ∙ ap (λ (s : Scan). in_front s.got nums₀) (sym rest_is)

  few : length rest.got ≤ plan_numbers
  few =
      let front = ap (λ (s : Scan). length s.got) rest_is ∙ ap length (ends_front bs r nums_now) in
      omega (arith, front, length-take r.got nums_now, p.few, got, many)

  pub rest_few : (t : Told) → Ends rest t → t.answer ≤ plan_numbers
  unfolding Ends
  rest_few t e = answer_few rest.fault (length rest.got) plan_numbers e few

  -- what is told at the end, and the array
  pub rest_told : ((t : Told) → ((nums : List ℕ) → r.got ≤ length nums → Ends (ended (here bs r nums)) t) →
      Ends rest t)
      × (nums_now ≡ in_front rest.got nums₀)
  rest_told = (λ t e. subst (λ (s : Scan). Ends s t) (sym rest_is) (e nums_now fits), rest_array)

-- ---- beside a refusal of the head no operation is read, and the width says nothing
pub rest_of_none : (width other : ℕ) (bs : List ℕ) (at : ℕ) (h : ToldHead) (nums : List ℕ) → h.operations ≡ 0 →
    rest_scan width bs at h nums ≡ rest_scan other bs at h nums
unfolding rest_scan times
rest_of_none width other bs at h nums z =
    let none : min h.operations most_operations ≡ 0 = omega (arith, z) in rw none refl

-- ---- from the head's own place on it is the plan
pub rest_plan : {F : Form} {bs nums : List ℕ} {h : ToldHead} → ReadIn F bs → HeadRead F bs h nums →
    rest_scan F.semaphore_width bs h.at h nums ≡ scanned bs
unfolding rest_scan rest_cursor here head_cursor fault_of
rest_plan {F} {bs} {nums} {h} form head =
    let width = F.semaphore_width in
    let start : (a k : ℕ) → Scan = λ a k. scan (drop a bs) a (take k nums)
    (fault_of (record { number = h.number; at = a; got = k })) in
    let place : min h.at (length bs) ≡ h.at = omega (arith, head.inside) in
    let got : min h.got head_numbers ≡ h.got = omega (arith, head.few) in
    let many : min h.operations most_operations ≡ h.operations = omega (arith, head.few_operations) in
    ap ended
    (ap (λ (n : ℕ). operations_after width h n (start (min h.at (length bs)) (min h.got head_numbers))) many
    ∙ ap₂ {C = Scan} (λ a k. operations_after width h h.operations (start a k)) place got
    ∙ sym head.plan)
    ∙ sym form

-- so of a head that was read, and where its reading stopped, whatever form is told beside a refusal
pub rest_by : {bs nums : List ℕ} (r : Result Head (Stop Reason)) → IfOk r (λ h. h.wide ≡ is_second bs) →
    HeadRead (form_in bs) bs (head_told r) nums →
    rest_scan (width_by (is_wide r)) bs (head_told r).at (head_told r) nums ≡ scanned bs
rest_by {bs} {nums} (Ok h) form head =
    ap (λ (b : Bool). rest_scan (width_by b) bs h.at (head_told (Ok h)) nums) form ∙ rest_plan (read_in bs) head
rest_by {bs} {nums} (Err s) form head =
    rest_of_none (width_by s.wide) (form_in bs).semaphore_width bs s.at (head_told (Err s)) nums refl
    ∙ rest_plan (read_in bs) head

-- whose premise holds where the form is told beside a refusal too
pub form_of_ok : {R : Type 0} {b : Bool} (r : Result Head (Stop R)) → is_wide r ≡ b → IfOk r (λ h. h.wide ≡ b)
form_of_ok (Ok h) e = e
form_of_ok (Err s) e = tt

-- ---- a refusal that is handed on with a reason of another kind tells the same
pub told_on : {R : Type 0} (number : R → ℕ) (r : Result ℕ (RefusedFor R)) (e : Refused) →
    IsErrAnd r (λ y. (number y.reason ≡ number_of e.reason) × (y.place ≡ e.place)) →
    told_for number r ≡ told_by (Err e)
told_on number (Ok n) e h = absurd h
told_on number (Err y) e h = rw (h.0, h.1) refl
