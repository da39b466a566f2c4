-- What is printed, from what reader and writer hand back: their refusals, the numbers read and the bytes written.
-- Assumes nothing.
use mathlib.Core.Path.{◌≡◌, ap, sym, ◌∙◌}
use mathlib.Core.Bool.{true, false}
use mathlib.Core.List.{List, [], ◌∷◌, ◌++◌, append_assoc}
use Prim.Native.Nat.{ℕ, suc, ◌+◌, ◌≤◌, min}
use Rattle.std.proofs.lemmas.List.{take_min}
use native.Mathlib.Omega.{arith}
use native.Mathlib.Nat.{add-zero, zero-add}
use lib.ListN.{length, set, take, drop, length-set, take-append-drop}
use lib.Seq.{take-suc-set, drop-set-lt, take-append_seam}
use borrow.Author.Tests.{le-ltb}
use Rattle.base_lists.specs.Lists.{in_front}
use Rattle.base_lists.proofs.Tests.{by_cases, clash}
use Rattle.plan_format.specs.Sizes.{plan_numbers}
use Rattle.plan_format.specs.Refusal.{Refusal, given, none_given, or_refusal}
use Rattle.plan_format.specs.Stored.{scanned, listed, spelled, room_for, read_refusal, write_refusal, Fills, ReadSays}
use Rattle.plan_format.specs.Stored.{WriteSays}
use Rattle.plan_format.specs.declared.Told.{Told}
use Rattle.plan_format.proofs.Judged.{zero_not_given, other_given, not_given_zero, or_else_none}
use Rattle.plan_format.proofs.RoomMeaning.{room_for_none}
use Rattle.plan_format.proofs.Sizes.{scanned_sizes}
use Rattle.base_text.specs.Text.{put, Puts, spaced, refused_text}
use Rattle.print_stored.specs.Texts.{read_text, write_text}

-- the first n elements, or all where there are fewer
pub first_of : {m : ℕ} (n : ℕ) (xs : List ℕ) → m ≡ min n (length xs) → take m xs ≡ take n xs
first_of n xs e = rw e (take_min n xs)

-- ---- the reader: a room that is long enough is never refused

module _
    (f : Refusal) (new o x : List ℕ) (r : Told) (fits : given f ≡ false → length new ≤ length o)
    (h : Fills (or_refusal f (room_for (length new) (length o))) new r o x) where
  refused_first : given f ≡ true → or_refusal f (room_for (length new) (length o)) ≡ f
  unfolding or_refusal
  refused_first g = rw g

  none_refused : given f ≡ false → or_refusal f (room_for (length new) (length o)) ≡ none_given
  unfolding or_refusal room_for
  none_refused n = rw (n, le-ltb (length o) (length new) (fits n))

  pub given_told : (r.number ≡ 0 → ⊥) → (given f ≡ true) × (r.number ≡ f.number) × (r.place ≡ f.place) × (x ≡ o)
  unfolding Fills none_given
  given_told z =
      by_cases (given f)
      (λ g. (
        g,
        (rw (refused_first g) at h.0).number,
        (rw (refused_first g) at h.0).place,
        rw (refused_first g, g) at h.1,
      ))
      (λ n. absurd (z (rw (none_refused n) at h.0).number))

  pub whole_told : r.number ≡ 0 → (given f ≡ false) × (r.answer ≡ length new) × (x ≡ in_front new o)
  unfolding Fills none_given given
  whole_told z =
      by_cases (given f)
      (λ g. clash (given f) g (zero_not_given f (sym (rw (refused_first g) at h.0).number ∙ z)))
      (λ n. (n, (rw (none_refused n) at h.0).answer_is, rw (none_refused n) at h.1))

module _ (bs o x : List ℕ) (r : Told) (h : ReadSays bs r o x) (room : length o ≡ plan_numbers) where
  in_room : given (scanned bs).fault ≡ false → length (scanned bs).got ≤ length o
  in_room n = omega (arith, (scanned_sizes bs (not_given_zero (scanned bs).fault n)).1)

  pub read_refused : (r.number ≡ 0 → ⊥) → refused_text r.number r.place ≡ read_text bs
  unfolding read_text ReadSays read_refusal
  read_refused z =
      let k = given_told (scanned bs).fault (scanned bs).got o x r in_room h z in
      rw (k.0, k.1, k.2)

  pub read_listed : r.number ≡ 0 → spaced (take r.answer x) ++ (10 ∷ []) ≡ read_text bs
  unfolding read_text ReadSays read_refusal in_front
  read_listed z =
      let k = whole_told (scanned bs).fault (scanned bs).got o x r in_room h z in
      rw (k.0, k.1, k.2, take-append_seam (scanned bs).got (drop (length (scanned bs).got) o))

-- ---- the writer: the bytes, or its refusal
-- a text that fits, from a place on
put_inside : (t o : List ℕ) (a : ℕ) → a + length t ≤ length o → put t a o ≡ take a o ++ (t ++ drop (a + length t) o)
unfolding put
put_inside [] o a h = sym (rw (add-zero a) (take-append-drop a o))
put_inside (b ∷ t) o a h =
    put_inside t (set o a b) (suc a) (rw (length-set o a b) (omega arith))
    ∙ rw (take-suc-set o a b (omega arith), drop-set-lt (suc a + length t) o a b (omega arith))
    (append_assoc (take a o) (b ∷ []) (t ++ drop (suc a + length t) o)
    ∙ ap (λ (k : ℕ). take a o ++ (b ∷ (t ++ drop k o))) (shift (length t)))
  where
    shift : (n : ℕ) → suc a + n ≡ a + suc n
    shift n = omega arith

put_front : (t o : List ℕ) → length t ≤ length o → put t 0 o ≡ in_front t o
unfolding in_front
put_front t o h = rw (zero-add (length t)) at (put_inside t o 0 (omega arith))

module _ (xs o x : List ℕ) (r : Told) (h : WriteSays xs r o x) where
  pub write_refused : (r.number ≡ 0 → ⊥) → (x ≡ o) × (refused_text r.number r.place ≡ write_text xs (length o))
  unfolding WriteSays Fills write_text
  write_refused z =
      let g = other_given (write_refusal xs (length o)) (λ e. z (h.0.number ∙ e)) in
      (h.1 ∙ rw g, rw (g, h.0.number, h.0.place))

  pub write_stored : r.number ≡ 0 → Puts (write_text xs (length o)) o 0 x r.answer
  unfolding WriteSays Fills write_text write_refusal
  write_stored z =
      let none = sym h.0.number ∙ z in
      let n = zero_not_given (write_refusal xs (length o)) none in
      let fits = room_for_none (length (spelled xs)) (length o)
      (or_else_none (listed xs).fault (room_for (length (spelled xs)) (length o)) none).1 in
      let long : r.answer ≡ length (spelled xs) = h.0.answer_is ∙ rw n in
      rw n
      (record { room_is = (h.1 ∙ rw n) ∙ sym (put_front (spelled xs) o fits); end_is = omega (arith, long, fits) })
