-- What the numbers that were read are to the room. Assumes nothing.
use mathlib.Core.Path.{◌≡◌, refl, sym, ap, ◌∙◌, subst}
use mathlib.Core.Bool.{Bool, true, false}
use mathlib.Core.List.{List, [], ◌++◌}
use Rattle.std.specs.Prelude.{Ok, Err, IfOk}
use Prim.Native.Nat.{ℕ, ◌-◌, ◌≤◌, ◌<◌}
use native.Mathlib.Omega.{arith}
use lib.ListN.{length, get_or, take, drop, replicate, length-drop, drop_of_length-le}
use lib.Seq.{take_at, take_all}
use mir.Syntax.{w8}
use mir.Val.{Fits}
use Rattle.base_lists.specs.Lists.{in_front}
use Rattle.plan_format.specs.Form.{form_in, form_by, is_second, first_form, scanned_by}
use Rattle.plan_format.specs.Grammar.{bytes, Scan}
use Rattle.plan_format.specs.Meaning.{ReadMeans}
use Rattle.plan_format.specs.Refusal.{Refusal, none_given, given, or_refusal}
use Rattle.plan_format.specs.Sizes.{head_numbers}
use Rattle.plan_format.specs.Stored.{all_bytes, scanned, room_for, read_refusal, Tells, Fills, ReadSays}
use Rattle.plan_format.specs.Told.{number_of, Refused, refused_by, told_by}
use Rattle.plan_format.specs.declared.Told.{Told}
use Rattle.plan_format.specs.declared.refusal.Reason.{Reason}
use Rattle.plan_format.specs.declared.refusal.Reason.TheVariants.{RoomTooShort}
use Rattle.plan_format.proofs.HandedBack.{answer_long, not_read, no_room, stored}
use Rattle.plan_format.proofs.Judged.{zero_not_given}
use Rattle.plan_format.proofs.RoundTripRoom.{bytes_by, read_means}
use Rattle.stored_numbers.specs.declared.RefusedFor.{RefusedFor}
use Rattle.stored_numbers.specs.Reading.{head_scan, head_told, is_wide, HeadTold, HeadRead, Ends, told_for}
use Rattle.stored_numbers.proofs.Fields.{reason_given}
use Rattle.stored_numbers.proofs.Rests.{rest_by, form_of_ok}
use Rattle.stored_read.specs.declared.Heading.{Heading}
use Rattle.stored_read.specs.Rest.{HeadingTold, RestSays}

-- numbers alone: too little room, or they are in front
module _ (got room : List ℕ) where
  all_told : Tells none_given (length got) (record { number = 0; place = 0; answer = length got })
  unfolding none_given given
  all_told = record { number = refl; place = refl; answer_is = refl }

  pub too_short : length room < length got →
      Fills (room_for (length got) (length room)) got (told_by (Err (refused_by RoomTooShort (length got)))) room room
  unfolding none_given given or_refusal
  too_short h = no_room none_given got all_told room refl h

  pub in_room : length got ≤ length room →
      Fills (room_for (length got) (length room)) got (told_by (Ok (length got))) room (got ++ drop (length got) room)
  unfolding none_given given or_refusal in_front
  in_room h = stored none_given got all_told room refl h refl

-- a refusal leaves the room
pub refused_read : {f : Refusal} (got : List ℕ) (e : Refused) → Tells f (length got) (told_by (Err e)) →
    (room : List ℕ) → Fills (or_refusal f (room_for (length got) (length room))) got (told_by (Err e)) room room
refused_read {f} got e t room = not_read f got t room (reason_given e.reason)

pub refused_rest : {f : Refusal} (got : List ℕ) {R : Type 0} (number : R → ℕ) →
    ((why : R) → number why ≡ 0 → ⊥) → (e : RefusedFor R) → Tells f (length got) (told_for number (Err e)) →
    (room : List ℕ) →
    Fills (or_refusal f (room_for (length got) (length room))) got (told_for number (Err e)) room room
refused_rest {f} got number given e t room = not_read f got t room (given e.reason)

-- the numbers that were told, and the room for them
module _ {f : Refusal} (got nums : List ℕ) {told : Told} (t : Tells f (length got) told) (z : told.number ≡ 0)
    (e : take (length got) nums ≡ got) where
  front : take told.answer nums ≡ got
  front = ap (λ (k : ℕ). take k nums) (answer_long f got t [] z) ∙ e

  pub numbers_read : (r : Told) (room room_now : List ℕ) →
      Fills (room_for (length (take told.answer nums)) (length room)) (take told.answer nums) r room room_now →
      Fills (or_refusal f (room_for (length got) (length room))) got r room room_now
  unfolding or_refusal
  numbers_read r room room_now w = rw (zero_not_given f (sym t.number ∙ z)) (rw front at w)

-- what is in a slice of bytes
slice_bytes : (bs : List ℕ) → ((i : ℕ) → Fits w8 (get_or bs i 0)) → all_bytes bs ≡ true
slice_bytes bs h = bytes_by bs (λ i. omega (arith, h i))

-- what is said of the bytes of a slice, and what it means
pub both : (bs : List ℕ) → ((i : ℕ) → Fits w8 (get_or bs i 0)) → (r : Told) (room room_now : List ℕ) →
    ReadSays bs r room room_now →
    ReadSays bs r room room_now × ReadMeans bs r room room_now
both bs h r room room_now w = (w, read_means bs (slice_bytes bs h) r room room_now w)

-- ---- a plan in the first form
first_scanned : (bs : List ℕ) → is_second bs ≡ false → scanned bs ≡ scanned_by bytes first_form bs
unfolding scanned form_by
first_scanned bs e = ap (λ (b : Bool). scanned_by bytes (form_by b) bs) e

pub first_says : (bs : List ℕ) → is_second bs ≡ false → (r : Told) (o x : List ℕ) →
    (let s = scanned_by bytes first_form bs in
    Fills (or_refusal s.fault (room_for (length s.got) (length o))) s.got r o x) → ReadSays bs r o x
unfolding ReadSays read_refusal
first_says bs e r o x f =
    subst (λ (s : Scan). Fills (or_refusal s.fault (room_for (length s.got) (length o))) s.got r o x)
    (sym (first_scanned bs e)) f

-- ---- a plan in two parts
-- what is past the end, and from a place on
past_end : (bs : List ℕ) (at : ℕ) → length bs < at → take 0 bs ≡ drop at bs
past_end bs at h = sym (drop_of_length-le bs {i = at} (omega arith))

part_from : (bs : List ℕ) (at : ℕ) → take (length bs - at) (drop at bs) ≡ drop at bs
part_from bs at = take_all (length bs - at) (drop at bs) (rw (length-drop at bs) (omega arith))

module _ (bs : List ℕ) (fit : (i : ℕ) → Fits w8 (get_or bs i 0)) (at : ℕ) (h : Heading Reason) where
  -- what `read_head` says of a part of the bytes
  abbrev pub Says : (part : List ℕ) → Type 0
  Says part =
      (is_wide h.head ≡ is_second part)
      × (HeadTold (head_scan part) (replicate head_numbers 0) (head_told h.head) h.numbers
      × HeadRead (form_in part) part (head_told h.head) h.numbers)

  heading_of : {part : List ℕ} → part ≡ drop at bs → Says part → HeadingTold bs at h
  heading_of e p =
      let q = subst Says e p in
      record { form = q.0; told = q.1.0; means = q.1.1; are_bytes = slice_bytes bs fit }

  pub heading_past : length bs < at → Says (take 0 bs) → HeadingTold bs at h
  heading_past l p = heading_of (past_end bs at l) p

  pub heading_from : Says (take (length bs - at) (drop at bs)) → HeadingTold bs at h
  heading_from p = heading_of (part_from bs at) p

module _ (s : Scan) (r : Told) (old : List ℕ) {new : List ℕ} (t : Ends s r) (a : new ≡ in_front s.got old) where
  pub rest_taken : take (length s.got) new ≡ s.got
  unfolding in_front
  rest_taken = ap (λ (l : List ℕ). take (length s.got) l) a
      ∙ take_at s.got (drop (length s.got) old) (length s.got) refl

-- from where the head ends on, the rest makes the plan, whatever form is told beside a refusal
pub rest_makes : (bs : List ℕ) (h : Heading Reason) → IfOk h.head (λ x. x.wide ≡ is_second bs) →
    HeadRead (form_in bs) bs (head_told h.head) h.numbers → all_bytes bs ≡ true → (t : Told) (o x : List ℕ) →
    RestSays number_of bs (head_told h.head).at h t o x → ReadSays bs t o x × ReadMeans bs t o x
unfolding RestSays ReadSays read_refusal
rest_makes bs h form means are_bytes t o x r =
    let says : ReadSays bs t o x =
    subst (λ (s : Scan). Fills (or_refusal s.fault (room_for (length s.got) (length o))) s.got t o x)
    (rest_by h.head form means) r in
    (says, read_means bs are_bytes t o x says)

-- so of what is told of a heading
pub rest_reads : (bs : List ℕ) (h : Heading Reason) → HeadingTold bs 0 h → (t : Told) (o x : List ℕ) →
    RestSays number_of bs (head_told h.head).at h t o x → ReadSays bs t o x × ReadMeans bs t o x
rest_reads bs h head t o x r =
    rest_makes bs h (form_of_ok h.head head.form) head.means head.are_bytes t o x r
