-- What is left in the room for slots: a refusal, the slots of a frontier, and what they are once the rest is cleared.
-- Assumes nothing.
use mathlib.Core.Path.{◌≡◌, refl, sym, ap, ◌∙◌, subst}
use mathlib.Core.Bool.{Bool, true, false}
use mathlib.Core.List.{List, [], ◌∷◌, ◌++◌}
use Prim.Native.Nat.{ℕ, suc, ◌+◌, ◌≤◌, ◌<◌}
use native.Mathlib.Omega.{arith}
use lib.Dec.{ltb, eqb}
use lib.ListN.{length, get_or, set, take, drop, replicate, length-set, length-drop, take-append-drop, length-append}
use lib.ListN.{get_or-eq_default}
use lib.Seq.{length-take-le, get_or-drop, get_or-set_same, get_or-set_other, take_at}
use borrow.Author.Tests.{eq-eqb, eqb-true, eqb-false, ltb-true, ltb-false}
use Rattle.base_lists.specs.Lists.{tabulate_from}
use Rattle.base_lists.proofs.Tests.{by_cases, and_both}
use Rattle.frontier.specs.declared.Frontier.{Frontier}
use Rattle.frontier.specs.declared.Merged.{Merged}
use Rattle.frontier.specs.declared.Unfit.{Unfit}
use Rattle.frontier.specs.declared.Unfit.TheVariants.{Form, Capacity}
use Rattle.frontier.specs.Frontiers.{number_of_unfit}
use Rattle.frontier.specs.Walks.{Laid}
use Rattle.frontier_slots.specs.Entries.{most_entries, most_of_two}
use Rattle.frontier_slots.specs.Slots.{slot, slots, all_zero}
use Rattle.frontier.specs.Frontiers.{entries, well_formed, pack, refusal}
use Rattle.frontier.specs.Walks.{of_slots, AllRoom, LeftInRoom, Cleared, Copied, Fills, filled, in_room}
use Rattle.frontier.proofs.Sorted.{same_entry}
use Rattle.frontier.proofs.Slots.{tabulate_same, slots_length, slots_first, zero_first}
use Rattle.frontier.proofs.Pack.{formed, repack, zeros, pack_entries, entries_pack}
use Rattle.frontier.proofs.Merge.{entries_length}

-- LEFT IN THE ROOM
pub left_same : {m new : Merged} {r : Laid} {axes epochs : List ℕ} → m ≡ new → LeftInRoom m r axes epochs →
    LeftInRoom new r axes epochs
left_same {m} {new} {r} {axes} {epochs} e w = subst (λ (z : Merged). LeftInRoom z r axes epochs) e w

-- a refusal leaves no entry
pub left_refused : (m : Merged) (n : ℕ) (r : Laid) (axes epochs : List ℕ) → refusal n ≡ m → AllRoom axes epochs →
    r ≡ record { number = n; len = 0; tainted = false } → LeftInRoom m r axes epochs
left_refused m n r axes epochs e w q = left_same e (rw q (record {
  room = w;
  number = unfold refusal in refl;
  tainted = unfold refusal pack in refl;
  listed = unfold refusal slots tabulate_from in (sym (entries_pack [] false));
}))

-- the slots of a frontier with another epoch in one of them
pub left_stored : (m : Merged) (xs es axes epochs : List ℕ) (n at e : ℕ) (t : Bool) → Copied xs axes →
    Copied es epochs → n ≤ most_entries → at < most_entries → length es ≡ most_entries →
    record { number = 0; frontier = of_slots xs (set es at e) n t } ≡ m →
    LeftInRoom m (record { number = 0; len = n; tainted = t }) axes (set epochs at e)
left_stored m xs es axes epochs n at e t ca ce h l long q = left_same q (record {
  room = (ca.long, length-set epochs at e ∙ ce.long);
  number = refl;
  tainted = refl;
  listed = unfold entries slots slot in
      (tabulate_same n 0 (slot axes (set epochs at e)) (slot xs (set es at e))
      (λ k p b. same_entry (ca.same k (omega arith)) (epoch_at_slot k (omega arith))));
})
  where
    epoch_at_slot : (k : ℕ) → k < most_entries → get_or (set epochs at e) k 0 ≡ get_or (set es at e) k 0
    epoch_at_slot k b =
        by_cases (eqb at k)
        (λ t. rw (← eqb-true at k t) (get_or-set_same epochs at e 0 (omega (arith, ce.long))
        ∙ sym (get_or-set_same es at e 0 (omega arith))))
        (λ t. get_or-set_other epochs at k e 0 (λ z. eqb-false at k t (sym z)) ∙ ce.same k b
        ∙ sym (get_or-set_other es at k e 0 (λ z. eqb-false at k t (sym z))))

-- THE LOOPS that clear and copy a row
pub record Clearing (from : ℕ) (row₀ row : List ℕ) (i : ℕ) : Type 0 where
  pub long : length row ≡ most_of_two
  pub start : from ≤ i
  pub stays : (k : ℕ) → k < from → get_or row k 0 ≡ get_or row₀ k 0
  pub zero : (k : ℕ) → from ≤ k → k < i → get_or row k 0 ≡ 0

module _ (from : ℕ) (row₀ : List ℕ) where
  pub clear_none : length row₀ ≡ most_of_two → Clearing from row₀ row₀ from
  clear_none l = record {
    long = l;
    start = omega arith;
    stays = λ k h. refl;
    zero = λ k h m. absurd (omega arith);
  }

  pub clear_more : (row : List ℕ) (i : ℕ) → Clearing from row₀ row i → i < most_of_two →
      Clearing from row₀ (set row i 0) (i + 1)
  clear_more row i w h = record {
    long = length-set row i 0 ∙ w.long;
    start = omega (arith, w.start);
    stays = λ k m. get_or-set_other row i k 0 0 (λ z. omega (arith, w.start)) ∙ w.stays k m;
    zero = λ k m l. by_cases (eqb k i)
        (λ t. rw (eqb-true k i t) (get_or-set_same row i 0 0 (omega (arith, w.long))))
        (λ t. get_or-set_other row i k 0 0 (λ z. eqb-false k i t z)
        ∙ w.zero k m (omega (arith, eqb-false k i t)));
  }

  pub clear_end : (row : List ℕ) (i : ℕ) → Clearing from row₀ row i → most_of_two ≤ i → Cleared from row₀ row
  clear_end row i w h = record {
    long = w.long;
    stays = w.stays;
    zero = λ k m. by_cases (ltb k i) (λ t. w.zero k m (ltb-true k i t))
        (λ t. get_or-eq_default row 0 (omega (arith, ltb-false k i t, w.long)));
  }

pub record Copying (from row : List ℕ) (i : ℕ) : Type 0 where
  pub long : length row ≡ most_of_two
  pub inside : i ≤ most_entries
  pub same : (k : ℕ) → k < i → get_or row k 0 ≡ get_or from k 0

module _ (from row : List ℕ) where
  pub copy_none : length row ≡ most_of_two → Copying from row 0
  copy_none l = record { long = l; inside = omega arith; same = λ k h. absurd (omega arith) }

  pub copy_more : (i : ℕ) → Copying from row i → i < most_entries → Copying from (set row i (get_or from i 0)) (i + 1)
  copy_more i w h = record {
    long = length-set row i (get_or from i 0) ∙ w.long;
    inside = omega arith;
    same = λ k l. by_cases (eqb k i)
        (λ t. rw (eqb-true k i t) (get_or-set_same row i (get_or from i 0) 0 (omega (arith, w.long))))
        (λ t. get_or-set_other row i k (get_or from i 0) 0 (λ z. eqb-false k i t z)
        ∙ w.same k (omega (arith, eqb-false k i t)));
  }

  pub copy_end : (i : ℕ) → Copying from row i → most_entries ≤ i → Copied from row
  copy_end i w h = record { long = w.long; same = λ k l. w.same k (omega arith) }

-- CLEARED
all_zero_by : (row : List ℕ) → ((k : ℕ) → get_or row k 0 ≡ 0) → all_zero row ≡ true
all_zero_by [] h = refl
all_zero_by (x ∷ row) h =
    and_both (eqb x 0) (all_zero row) (eq-eqb x 0 (h 0)) (all_zero_by row (λ k. h (suc k)))

-- zero from a place on
zero_from : (n : ℕ) (row : List ℕ) → ((k : ℕ) → n ≤ k → get_or row k 0 ≡ 0) → all_zero (drop n row) ≡ true
zero_from n row h = all_zero_by (drop n row) (λ k. get_or-drop n row k 0 ∙ h (n + k) (omega arith))

-- a row of the room that is zero from the length on
room_row : (n : ℕ) (row front : List ℕ) → length row ≡ most_of_two → n ≤ most_entries →
    ((k : ℕ) → n ≤ k → get_or row k 0 ≡ 0) → take most_entries row ≡ front → row ≡ in_room front
room_row n row front l h z e =
    sym (take-append-drop most_entries row)
    ∙ rw e (ap (λ (past : List ℕ). front ++ past) (zeros (drop most_entries row)
    (zero_from most_entries row (λ k b. z k (omega arith)))
    ∙ ap (λ (k : ℕ). replicate k 0) past_long))
  where
    past_long : length (drop most_entries row) ≡ most_entries
    past_long = length-drop most_entries row ∙ (rw l refl)

module _ (m : Merged) (r : Laid) (axes epochs new_axes new_epochs : List ℕ) (f : well_formed m.frontier ≡ true)
    (w : LeftInRoom m r axes epochs) (ca : Cleared r.len axes new_axes) (ce : Cleared r.len epochs new_epochs)
  where
    same_length : r.len ≡ m.frontier.len
    same_length = sym (slots_length axes epochs r.len 0) ∙ ap length w.listed ∙ entries_length m.frontier

    short : r.len ≤ most_entries
    short = omega (arith, same_length, (formed m.frontier f).short)

    listed : slots (take most_entries new_axes) (take most_entries new_epochs) r.len 0 ≡ entries m.frontier
    listed =
        slots_first new_axes new_epochs most_entries r.len short
        ∙ unfold slots slot in (tabulate_same r.len 0 (slot new_axes new_epochs) (slot axes epochs)
        (λ k l h. same_entry (ca.stays k (omega arith)) (ce.stays k (omega arith))))
        ∙ w.listed

    same_frontier : of_slots (take most_entries new_axes) (take most_entries new_epochs) r.len r.tainted
        ≡ m.frontier
    same_frontier =
        repack (take most_entries new_axes) (take most_entries new_epochs) r.len r.tainted short
        (length-take-le most_entries new_axes (omega (arith, ca.long)))
        (length-take-le most_entries new_epochs (omega (arith, ce.long)))
        (zero_first most_entries r.len new_axes (zero_from r.len new_axes ca.zero))
        (zero_first most_entries r.len new_epochs (zero_from r.len new_epochs ce.zero))
        ∙ rw (listed, w.tainted) (sym (pack_entries m.frontier f))

    pub fills : Fills m r new_axes new_epochs
    fills = (
      λ i. record { number = w.number i; len = same_length i; tainted = w.tainted i },
      room_row r.len new_axes m.frontier.axes ca.long short ca.zero
          (ap (λ (g : Frontier). g.axes) same_frontier),
      room_row r.len new_epochs m.frontier.epochs ce.long short ce.zero
          (ap (λ (g : Frontier). g.epochs) same_frontier),
    )

-- what is read of the room is the answer
pub filled_right : (m : Merged) (r : Laid) (axes epochs : List ℕ) → well_formed m.frontier ≡ true →
    Fills m r axes epochs → filled r axes epochs ≡ m
filled_right m r axes epochs f w =
    let g = formed m.frontier f in
    rw (
      w.0,
      w.1,
      w.2,
      take_at m.frontier.axes _ most_entries g.sixteen_axes,
      take_at m.frontier.epochs _ most_entries g.sixteen_epochs,
    ) refl

-- and so is a struct that is made of its first slots
pub held_right : (m : Merged) (r : Laid) (axes epochs firsts lasts : List ℕ) → well_formed m.frontier ≡ true →
    Fills m r axes epochs → firsts ≡ take most_entries axes → lasts ≡ take most_entries epochs →
    record { number = r.number; frontier = of_slots firsts lasts r.len r.tainted } ≡ m
held_right m r axes epochs firsts lasts f w p q = rw (p, q) (filled_right m r axes epochs f w)

-- the room is as long as before
pub fills_room : (m : Merged) (r : Laid) (axes epochs : List ℕ) → well_formed m.frontier ≡ true →
    Fills m r axes epochs → AllRoom axes epochs
fills_room m r axes epochs f w =
    let g = formed m.frontier f in (
      rw (w.1, length-append) (omega (arith, g.sixteen_axes)),
      rw (w.2, length-append) (omega (arith, g.sixteen_epochs)),
    )

-- a refusal has a number
pub not_zero : (e : Unfit) → number_of_unfit e ≡ 0 → ⊥
not_zero Form e = omega arith
not_zero Capacity e = omega arith
