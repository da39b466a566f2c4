-- Room: 9 exactly if it is too short, and only after the faults of a reading. Assumes nothing.
use mathlib.Core.Path.{◌≡◌, refl, sym, ap, ap₂, ◌∙◌, subst}
use mathlib.Core.Bool.{Bool, false, cond}
use mathlib.Core.List.{List, ◌∷◌, ◌++◌}
use Prim.Native.Nat.{ℕ, ◌≤◌}
use native.Mathlib.Omega.{arith}
use lib.Dec.{ltb, eqb}
use lib.ListN.{length, get_or}
use borrow.Author.Tests.{ltb-true, ltb-false, lt-ltb, le-ltb, eqb-true, eqb-false}
use Rattle.base_lists.specs.Lists.{member, in_front}
use Rattle.base_lists.proofs.Tests.{by_cases}
use Rattle.base_lists.proofs.Fronts.{front_length, front_at}
use Rattle.plan_format.specs.Refusal.{Refusal, refusal, none_given, given, or_refusal}
use Rattle.plan_format.specs.RefusalNumbers.{NoneOr, reading_numbers, room_numbers, reader_gives, writer_gives}
use Rattle.plan_format.specs.Stored.{scanned, listed, spelled, room_for, read_refusal, write_refusal, Tells}
use Rattle.plan_format.specs.Stored.{Fills}
use Rattle.plan_format.specs.Stored.{ReadSays, WriteSays}
use Rattle.plan_format.specs.declared.Told.{Told}
use Rattle.plan_format.specs.Meaning.{RoomForMeans, RoomAfter, refusal_of, Filled}
use Rattle.plan_format.proofs.HandedBack.{fills_past}
use Rattle.plan_format.proofs.Judged.{zero_not_given, other_given, or_else_first, or_else_second, or_else_none}
use Rattle.plan_format.proofs.RefusalNumbers.{one_is, not_one, none_or_left}
use Rattle.plan_format.proofs.Numbers.{scanned_number, listed_number}

pub room_for_means : (needed room : ℕ) → RoomForMeans needed room (room_for needed room)
unfolding room_for refusal none_given
room_for_means n k = record {
  short = λ h. rw (lt-ltb k n h) (refl, refl);
  enough = λ h. rw (le-ltb k n h) (refl, refl);
}

pub room_for_none : (needed room : ℕ) → (room_for needed room).number ≡ 0 → needed ≤ room
room_for_none n k e =
    by_cases (ltb k n) (λ u. absurd (omega (arith, ((room_for_means n k).short (ltb-true k n u)).0)))
    (λ u. ltb-false k n u)

-- after a fault of a reading
room_after : (a : Refusal) (needed room : ℕ) → NoneOr reading_numbers a.number →
    RoomAfter (reading_numbers ++ room_numbers) a needed room (or_refusal a (room_for needed room))
unfolding member
room_after a n k number =
    let b = room_for n k in
    let m = room_for_means n k in
    let f = or_refusal a b in
    let number_first : (a.number ≡ 0 → ⊥) → f.number ≡ a.number =
    λ h. ap (λ (g : Refusal). g.number) (or_else_first a b (other_given a h)) in
    let number_second : a.number ≡ 0 → f.number ≡ b.number =
    λ z. ap (λ (g : Refusal). g.number) (or_else_second a b z) in
    record {
      fault_first = λ h. or_else_first a b (other_given a h);
      then_room = λ e. let same = or_else_second a b e in record {
        short = λ h. rw same (m.short h);
        enough = λ h. rw same (m.enough h);
      };
      nine = λ e. by_cases (eqb a.number 0)
          (λ t. let z = eqb-true a.number 0 t in (
            z,
            by_cases (ltb k n) (λ u. ltb-true k n u) (λ u.
                absurd (omega (arith, number_second z, (m.enough (ltb-false k n u)).0))),
          ))
          (λ u. absurd (not_one (0 ∷ reading_numbers) a.number 9 refl number
          (sym (number_first (eqb-false a.number 0 u)) ∙ e)));
      only = by_cases (eqb a.number 0)
          (λ t. let z = eqb-true a.number 0 t in
          by_cases (ltb k n) (λ u. rw (number_second z ∙ (m.short (ltb-true k n u)).0))
          (λ u. rw (number_second z ∙ (m.enough (ltb-false k n u)).0)))
          (λ u. one_is (0 ∷ reader_gives) (number_first (eqb-false a.number 0 u))
          (none_or_left reading_numbers room_numbers a.number number));
    }

pub read_room : (bs : List ℕ) (room : ℕ) → RoomAfter reader_gives (scanned bs).fault (length (scanned bs).got) room
    (read_refusal bs room)
unfolding read_refusal
read_room bs k = room_after (scanned bs).fault (length (scanned bs).got) k (scanned_number bs)

pub write_room : (xs : List ℕ) (room : ℕ) → RoomAfter writer_gives (listed xs).fault (length (spelled xs)) room
    (write_refusal xs room)
unfolding write_refusal
write_room xs k = room_after (listed xs).fault (length (spelled xs)) k (listed_number xs)

-- ---- what is handed back and left
module _ (numbers : List ℕ) (fault : Refusal) (new : List ℕ) (r : Told) (o x : List ℕ) where
  filled : RoomAfter numbers fault (length new) (length o) (or_refusal fault (room_for (length new) (length o))) →
      Fills (or_refusal fault (room_for (length new) (length o))) new r o x → Filled new r o x
  unfolding Fills
  filled m w =
      let f = or_refusal fault (room_for (length new) (length o)) in
      let t = w.0 in
      let zero_of : r.number ≡ 0 → f.number ≡ 0 = λ z. sym t.number ∙ z in
      let none_of : r.number ≡ 0 → given f ≡ false = λ z. zero_not_given f (zero_of z) in
      let front : r.number ≡ 0 → x ≡ in_front new o =
      λ z. w.1 ∙ ap (λ (b : Bool). cond b o (in_front new o)) (none_of z) in
      let fault_none : r.number ≡ 0 → fault.number ≡ 0 =
      λ z. (or_else_none fault (room_for (length new) (length o)) (zero_of z)).0 in
      let fits : r.number ≡ 0 → length new ≤ length o = λ z. room_for_none (length new) (length o)
      (or_else_none fault (room_for (length new) (length o)) (zero_of z)).1 in
      record {
        refused = λ h. w.1 ∙ ap (λ (b : Bool). cond b o (in_front new o)) (other_given f (λ z. h (t.number ∙ z)));
        length_told = λ z. t.answer_is ∙ ap (λ (b : Bool). cond b 0 (length new)) (none_of z);
        place_told = λ z. t.place ∙ ((m.then_room (fault_none z)).enough (fits z)).1;
        long = λ z. ap (λ (y : List ℕ). length y) (front z) ∙ front_length new o (fits z);
        holds = λ z k l. ap (λ (y : List ℕ). get_or y k 0) (front z) ∙ front_at new o k 0 l;
        past = λ z. fills_past f new r o x w;
      }

-- the refusal that was told is the one that was given
told_is : (f : Refusal) (answer : ℕ) (r : Told) → Tells f answer r → f ≡ refusal_of r
unfolding refusal
told_is f a r t = ap₂ (λ (n i : ℕ). refusal n i) (sym t.number) (sym t.place)

pub read_refuses : (bs : List ℕ) (r : Told) (o x : List ℕ) → ReadSays bs r o x →
    RoomAfter reader_gives (scanned bs).fault (length (scanned bs).got) (length o) (refusal_of r)
unfolding ReadSays Fills
read_refuses bs r o x w =
    let got = (scanned bs).got in
    subst (RoomAfter reader_gives (scanned bs).fault (length got) (length o))
    (told_is (read_refusal bs (length o)) (length got) r w.0) (read_room bs (length o))

pub write_refuses : (xs : List ℕ) (r : Told) (o x : List ℕ) → WriteSays xs r o x →
    RoomAfter writer_gives (listed xs).fault (length (spelled xs)) (length o) (refusal_of r)
unfolding WriteSays Fills
write_refuses xs r o x w =
    let new = spelled xs in
    subst (RoomAfter writer_gives (listed xs).fault (length new) (length o))
    (told_is (write_refusal xs (length o)) (length new) r w.0) (write_room xs (length o))

pub read_filled : (bs : List ℕ) (r : Told) (o x : List ℕ) → ReadSays bs r o x → Filled (scanned bs).got r o x
unfolding ReadSays read_refusal
read_filled bs r o x w = filled reader_gives (scanned bs).fault (scanned bs).got r o x (read_room bs (length o)) w

pub write_filled : (xs : List ℕ) (r : Told) (o x : List ℕ) → WriteSays xs r o x → Filled (spelled xs) r o x
unfolding WriteSays write_refusal
write_filled xs r o x w = filled writer_gives (listed xs).fault (spelled xs) r o x (write_room xs (length o)) w
