-- What the bytes that were written, in the first form that takes the list, are to the room. Assumes nothing.
use mathlib.Core.Path.{◌≡◌, refl, sym, ap, ◌∙◌}
use mathlib.Core.Bool.{Bool, true, false, cond}
use mathlib.Core.List.{List, [], ◌++◌}
use Prim.Native.Nat.{ℕ, ◌≤◌, ◌<◌}
use lib.ListN.{length, take, drop}
use lib.Seq.{take-append_seam}
use Rattle.base_lists.specs.Lists.{in_front}
use Rattle.base_lists.proofs.Tests.{by_cases}
use Rattle.plan_format.specs.Refusal.{given}
use Rattle.plan_format.specs.Form.{list_by, form_by}
use Rattle.plan_format.specs.Meaning.{WriteMeans}
use Rattle.plan_format.specs.Stored.{listed, spelled, Tells, write_refusal, WriteSays}
use Rattle.std.specs.Prelude.{Result, Ok, Err}
use Rattle.plan_format.specs.Told.{Refused, refused_by, told_by}
use Rattle.plan_format.specs.declared.Told.{Told}
use Rattle.plan_format.specs.declared.refusal.Reason.TheVariants.{RoomTooShort}
use Rattle.plan_format.proofs.Judged.{not_given_zero}
use Rattle.plan_format.proofs.HandedBack.{answer_long, not_read, no_room, stored}
use Rattle.plan_format.proofs.RoundTripRoom.{write_means}
use Rattle.plan_format.proofs.AsBefore.{as_before, written_second}
use Rattle.stored_bytes.proofs.Writers.{reason_given}
use Rattle.stored_bytes.specs.Writing.{tried, tried_bytes, BytesWritten}
use Rattle.stored_write.specs.Tried.{Tried}

-- the bytes of a form are in front
module _ {wide : Bool} {xs bytes₀ : List ℕ} {r : Told} {bytes : List ℕ} (n : BytesWritten wide xs bytes₀ r bytes)
    (z : r.number ≡ 0) where
  form_front : take (length (tried_bytes wide xs)) bytes ≡ tried_bytes wide xs
  unfolding in_front
  form_front = ap (λ (l : List ℕ). take (length (tried_bytes wide xs)) l) (n.passed z)
      ∙ take-append_seam (tried_bytes wide xs) (drop (length (tried_bytes wide xs)) bytes₀)

-- the first form takes the list
pub tried_first : {xs bytes₀ : List ℕ} {r : Told} {bytes : List ℕ} → BytesWritten false xs bytes₀ r bytes →
    r.number ≡ 0 → Tried xs r bytes
unfolding tried list_by form_by
tried_first {xs} {r = r} {bytes} n z =
    let w = as_before.written xs (sym n.told.number ∙ z) in
    record {
      told = rw (w.taken, w.written) n.told;
      front = λ e. rw w.written (form_front n e);
      few = n.few;
      long = n.long;
    }

-- the first form refuses it, so that the second decides
module _ {xs bytes₀ bytes₁ : List ℕ} {r₁ r : Told} {bytes : List ℕ} (first : BytesWritten false xs bytes₀ r₁ bytes₁)
    (refused : r₁.number ≡ 0 → ⊥) (n : BytesWritten true xs bytes₁ r bytes) where
  in_second : (listed xs).fault.number ≡ 0 → spelled xs ≡ tried_bytes true xs
  unfolding tried list_by form_by
  in_second e = written_second xs e (λ z. refused (first.told.number ∙ z))

  long_second : cond (given (listed xs).fault) 0 (length (tried_bytes true xs)) ≡
      cond (given (listed xs).fault) 0 (length (spelled xs))
  long_second =
      by_cases (given (listed xs).fault) (λ g. rw g refl)
      (λ g. ap (λ (l : List ℕ). cond (given (listed xs).fault) 0 (length l))
      (sym (in_second (not_given_zero (listed xs).fault g))))

  pub tried_second : Tried xs r bytes
  unfolding tried list_by listed
  tried_second =
      let t : Tells (listed xs).fault (length (tried_bytes true xs)) r = n.told in
      record {
        told = record { number = t.number; place = t.place; answer_is = t.answer_is ∙ long_second };
        front = λ z. rw (in_second (sym t.number ∙ z)) (form_front n z);
        few = n.few;
        long = n.long;
      }

-- what is said, and what it means
abbrev Says : (xs : List ℕ) → Result ℕ Refused → (room room_now : List ℕ) → Type 0
Says xs r room room_now = WriteSays xs (told_by r) room room_now × WriteMeans xs (told_by r) room room_now

pub both : (xs : List ℕ) (r : Result ℕ Refused) (room room_now : List ℕ) → WriteSays xs (told_by r) room room_now →
    Says xs r room room_now
both xs r room room_now w = (w, write_means xs (told_by r) room room_now w)

-- a refusal
pub written_refused : {xs bytes room : List ℕ} (e : Refused) → Tried xs (told_by (Err e)) bytes →
    Says xs (Err e) room room
unfolding WriteSays write_refusal
written_refused {xs} {bytes} {room} e n =
    both xs (Err e) room room
    (not_read (listed xs).fault (spelled xs) n.told room (reason_given e.reason))

module _ {xs bytes : List ℕ} (k : ℕ) (n : Tried xs (told_by (Ok k)) bytes) where
  long : k ≡ length (spelled xs)
  long = answer_long (listed xs).fault (spelled xs) n.told [] refl

  -- too little room
  pub written_short : {room : List ℕ} → length room < k → Says xs (Err (refused_by RoomTooShort k)) room room
  unfolding WriteSays write_refusal
  written_short {room} h =
      both xs (Err (refused_by RoomTooShort k)) room room
      (no_room (listed xs).fault (spelled xs) n.told room refl h)

  -- the bytes, in front of the room
  pub written_stored : {part room : List ℕ} → k ≤ length room → part ≡ take k bytes → Says xs (Ok k) room
      (part ++ drop k room)
  unfolding WriteSays write_refusal in_front
  written_stored {part} {room} h e =
      let front : part ≡ spelled xs = e ∙ ap (λ (j : ℕ). take j bytes) long ∙ n.front refl in
      both xs (Ok k) room (part ++ drop k room)
      (stored (listed xs).fault (spelled xs) n.told room refl h
      (ap (λ (l : List ℕ). l ++ drop k room) front ∙ ap (λ (j : ℕ). spelled xs ++ drop j room) long))
