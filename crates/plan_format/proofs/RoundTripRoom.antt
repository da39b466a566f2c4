-- What is in the room after a read or a write, and both ways back. Assumes nothing.
use mathlib.Core.Path.{◌≡◌, refl, sym, ap, ap₂, ◌∙◌}
use mathlib.Core.Bool.{true}
use mathlib.Core.List.{List, [], ◌∷◌}
use Prim.Native.Nat.{ℕ, suc, ◌<◌}
use lib.Dec.{ltb}
use lib.ListN.{length, get_or, take}
use lib.Seq.{take_at}
use borrow.Author.Tests.{lt-ltb}
use Rattle.base_lists.specs.Lists.{all, in_front}
use Rattle.base_lists.proofs.Tests.{and_both}
use Rattle.plan_format.specs.Refusal.{Refusal, none_given, or_refusal}
use Rattle.plan_format.specs.Grammar.{Scan, scan}
use Rattle.plan_format.specs.Plan.{plan_of}
use Rattle.plan_format.specs.Stored.{all_bytes, scanned, listed, spelled, plan_in, room_for, Fills, ReadSays}
use Rattle.plan_format.specs.Stored.{WriteSays, read_refusal, write_refusal}
use Rattle.plan_format.specs.declared.Told.{Told}
use Rattle.plan_format.specs.Meaning.{ReadMeans, WriteMeans}
use Rattle.plan_format.proofs.Judged.{zero_not_given, or_else_none}
use Rattle.plan_format.proofs.Plans.{listed_within}
use Rattle.plan_format.proofs.Taking.{takes_plans}
use Rattle.plan_format.proofs.RoundTrip.{listed_scanned, spelled_scanned, scanned_spelled}
use Rattle.plan_format.proofs.AsBefore.{as_before}
use Rattle.plan_format.proofs.Largest.{greatest_sizes}
use Rattle.plan_format.proofs.GivenPlans.{reads_plans, writes_plans}
use Rattle.plan_format.proofs.RoomMeaning.{read_refuses, write_refuses, read_filled, write_filled}
use Rattle.plan_format.proofs.ReadingMeaning.{scanned_means, listed_means}

-- the elements of a slice of bytes
pub bytes_by : (bs : List ℕ) → ((i : ℕ) → get_or bs i 0 < 256) → all_bytes bs ≡ true
unfolding all_bytes all
bytes_by [] h = refl
bytes_by (b ∷ bs) h = and_both (ltb b 256) (all (λ x. ltb x 256) bs) (lt-ltb b 256 (h 0)) (bytes_by bs (λ i. h (suc i)))

-- where the number is 0 there is no fault, and what is new is in front of the room
module _ (fault : Refusal) (new : List ℕ) (r : Told) (o x : List ℕ)
    (w : Fills (or_refusal fault (room_for (length new) (length o))) new r o x)
    (z : r.number ≡ 0) where
  clean : fault.number ≡ 0
  unfolding Fills
  clean = (or_else_none fault (room_for (length new) (length o)) (sym w.0.number ∙ z)).0

  in_room : take r.answer x ≡ new
  unfolding Fills in_front
  in_room =
      let f = or_refusal fault (room_for (length new) (length o)) in
      let none = zero_not_given f (sym w.0.number ∙ z) in
      let front : x ≡ in_front new o = rw none at w.1 in
      let long : r.answer ≡ length new = rw none at w.0.answer_is in
      ap₂ {C = List ℕ} (λ k y. take k y) long front ∙ take_at new _ (length new) refl

  told_long : r.answer ≡ length new
  unfolding Fills
  told_long = rw (zero_not_given (or_refusal fault (room_for (length new) (length o))) (sym w.0.number ∙ z)) at
      w.0.answer_is

module _ (bs : List ℕ) (b : all_bytes bs ≡ true) (r : Told) (o x : List ℕ) (w : ReadSays bs r o x) where
  no_fault : r.number ≡ 0 → (scanned bs).fault.number ≡ 0
  unfolding ReadSays read_refusal
  no_fault z = clean (scanned bs).fault (scanned bs).got r o x w z

  numbers_in_room : r.number ≡ 0 → take r.answer x ≡ (scanned bs).got
  unfolding ReadSays read_refusal
  numbers_in_room z = in_room (scanned bs).fault (scanned bs).got r o x w z

  pub read_means : ReadMeans bs r o x
  unfolding plan_in scan none_given
  read_means =
      let taken : r.number ≡ 0 → (listed (scanned bs).got).fault ≡ none_given =
      λ z. ap (λ (s : Scan). s.fault) (listed_scanned bs b (no_fault z)) in
      record {
        reading = scanned_means bs;
        refuses = read_refuses bs r o x w;
        filled = read_filled bs r o x w;
        within = λ z. ((takes_plans.read bs b).0 (no_fault z)).0;
        numbers = λ z. numbers_in_room z
            ∙ (listed_within (scanned bs).got (ap (λ (f : Refusal). f.number) (taken z))).1;
        taken = λ z. ap (λ (l : List ℕ). (listed l).fault) (numbers_in_room z) ∙ taken z;
        written_back = λ z. ap spelled (numbers_in_room z) ∙ spelled_scanned bs b (no_fault z);
        plans = reads_plans bs b;
        sizes = greatest_sizes;
        as_before = as_before.read bs;
      }

module _ (xs : List ℕ) (r : Told) (o x : List ℕ) (w : WriteSays xs r o x) where
  not_refused : r.number ≡ 0 → (listed xs).fault.number ≡ 0
  unfolding WriteSays write_refusal
  not_refused z = clean (listed xs).fault (spelled xs) r o x w z

  bytes_in_room : r.number ≡ 0 → take r.answer x ≡ spelled xs
  unfolding WriteSays write_refusal
  bytes_in_room z = in_room (listed xs).fault (spelled xs) r o x w z

  answer_long : r.number ≡ 0 → r.answer ≡ length (spelled xs)
  unfolding WriteSays write_refusal
  answer_long z = told_long (listed xs).fault (spelled xs) r o x w z

  pub write_means : WriteMeans xs r o x
  write_means = record {
    reading = listed_means xs;
    refuses = write_refuses xs r o x w;
    filled = write_filled xs r o x w;
    within = λ z. (listed_within xs (not_refused z)).0;
    bytes = λ z.
        let (within, is) = listed_within xs (not_refused z) in
        bytes_in_room z ∙ ap spelled is ∙ (takes_plans.every (plan_of xs) within).written;
    read_back = λ z.
        ap scanned (bytes_in_room z) ∙ scanned_spelled xs (not_refused z)
        ∙ ap (λ (n : ℕ). scan [] n xs none_given) (sym (answer_long z));
    plans = writes_plans xs;
    sizes = greatest_sizes;
    as_before = as_before.written xs;
  }
