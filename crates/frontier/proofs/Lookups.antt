-- The lookup of an axis: from a slot on it gives what is listed there, and of a whole frontier what `Looked` promises.
-- Assumes nothing.
use mathlib.Core.Path.{◌≡◌, refl, sym, ap, ◌∙◌}
use mathlib.Core.Bool.{true, ◌&&◌, cond}
use mathlib.Core.List.{List, [], ◌∷◌}
use Prim.Native.Nat.{ℕ, zero, suc, ◌+◌, ◌≤◌, ◌<◌}
use native.Mathlib.Nat.{le_refl}
use native.Mathlib.Numerals.{add-one}
use native.Mathlib.Omega.{arith}
use lib.Dec.{ltb, eqb}
use lib.ListN.{length, get_or}
use borrow.Author.Tests.{ltb-true, ltb-false, eqb-true, eqb-false, eq-eqb, ne_eqb, lt-ltb}
use Rattle.base_lists.specs.Lists.{tabulate_from}
use Rattle.base_lists.proofs.Tests.{by_cases}
use Rattle.axis_search.specs.declared.Slot.{Slot}
use Rattle.axis_search.specs.Halving.{Rise, Halving, searched}
use Rattle.axis_search.proofs.Halves.{searched_means, five_read}
use Rattle.frontier.specs.declared.Frontier.{Frontier}
use Rattle.std.specs.Prelude.{Option, option_map}
use Rattle.std.specs.Prelude.{Some, None}
use Rattle.std.proofs.lemmas.Option.{none-some, same_Some}
use Rattle.frontier_slots.specs.declared.Entry.{Entry}
use Rattle.frontier_slots.specs.Entries.{most_entries, find, values_of, epochs_under}
use Rattle.frontier_slots.specs.Slots.{slot, slots, lookup_at}
use Rattle.frontier.specs.Frontiers.{entries, well_formed, looked_up}
use Rattle.frontier.specs.Meaning.{Looked}
use Rattle.frontier_slots.specs.Slots.{rest, floor, AllSlots}
use Rattle.frontier.specs.Walks.{skip_below, SlotFrom}
use Rattle.frontier.proofs.Sorted.{Sorted, sorted, same_entry}
use Rattle.frontier.proofs.Cut.{find_below}
use Rattle.frontier_slots.proofs.Slots.{rest_all, rest_more, rest_none}
use Rattle.frontier.proofs.Slots.{sorted_rest}
use Rattle.frontier.proofs.Steps.{skip_more, skip_stop, skip_none}
use Rattle.frontier.proofs.Pack.{formed, sorted_entries, all_slots}

-- AMONG RISING ENTRIES
-- what is passed over is not of the axis
pub find_skip : (a : ℕ) (xs : List Entry) → find a (skip_below a xs) ≡ find a xs
unfolding find skip_below
find_skip a [] = refl
find_skip a (x ∷ xs) =
    by_cases (ltb x.axis a)
    (λ t. rw (t, ne_eqb x.axis a (λ q. omega (arith, ltb-true x.axis a t))) (find_skip a xs))
    (λ t. rw t)

-- from a slot on: whatever is listed before it has a smaller axis
module _ (xs es : List ℕ) (n : ℕ) (s : Sorted 0 (slots xs es n 0)) (a : ℕ) where
  pub find_ahead : (i : ℕ) → i ≤ n → floor xs i ≤ a → find a (rest xs es n i) ≡ find a (slots xs es n 0)
  find_ahead zero h l = ap (find a) (rest_all xs es n)
  find_ahead (suc i) h l = sym (here i h (next i l)) ∙ find_ahead i (omega arith) (omega (arith, before i h, next i l))
    where
      next : (i : ℕ) → floor xs (suc i) ≤ a → get_or xs i 0 < a
      next i l = unfold floor in l

      before : (i : ℕ) → i < n → floor xs i ≤ get_or xs i 0
      before i h = unfold slot in (rw (rest_more xs es n i h) at (sorted_rest xs es n i (omega arith) s)).0

      here : (i : ℕ) → i < n → get_or xs i 0 < a → find a (rest xs es n i) ≡ find a (rest xs es n (suc i))
      here i h l = unfold find slot in
          (rw (rest_more xs es n i h, add-one i, ne_eqb (get_or xs i 0) a (λ q. omega arith)))

-- FROM A SLOT ON
-- the search came to slot `at`
pub record Came (xs es : List ℕ) (n from axis at : ℕ) : Type 0 where
  pub past : rest xs es n at ≡ skip_below axis (rest xs es n from)
  pub stops : at < n → axis ≤ get_or xs at 0

module _ (xs es : List ℕ) (n from axis at : ℕ) where
  pub came_end : n ≤ from → at ≡ from → Came xs es n from axis at
  came_end h q = rw q (record { past = skip_none xs es n from axis h; stops = λ l. absurd (omega arith) })

  pub came_first : from < n → axis ≤ get_or xs from 0 → at ≡ from → Came xs es n from axis at
  came_first h l q = rw q (record { past = skip_stop xs es n from axis h l; stops = λ m. l })

  -- what the search from the next slot on answers
  pub came_later : from < n → get_or xs from 0 < axis → (r : ℕ) → (r < n → axis ≤ get_or xs r 0) →
      rest xs es n r ≡ skip_below axis (rest xs es n (from + 1)) → at ≡ r → Came xs es n from axis at
  came_later h l r s e q = rw q (record { past = e ∙ sym (skip_more xs es n from axis h l); stops = s })

module _ (xs es : List ℕ) (n from axis at : ℕ) (c : Came xs es n from axis at) where
  sought : find axis (rest xs es n at) ≡ find axis (rest xs es n from)
  sought = ap (find axis) c.past ∙ find_skip axis (rest xs es n from)

  none_left : n ≤ at → SlotFrom xs es n from axis None
  none_left h = record {
    found = λ r. none h ∙ sought;
    of_axis = λ i q. absurd (none-some i q);
  }
    where
      none : n ≤ at → None ≡ find axis (rest xs es n at)
      none h = unfold find in (rw (rest_none xs es n at h))

  of_this : at < n → get_or xs at 0 ≡ axis → SlotFrom xs es n from axis (Some at)
  of_this h e = record {
    found = λ r. here h e ∙ sought;
    of_axis = λ i q. let s = same_Some at i q in rw (← s) (h, e);
  }
    where
      here : at < n → get_or xs at 0 ≡ axis → Some (get_or es at 0) ≡ find axis (rest xs es n at)
      here h e = unfold find slot in (rw (rest_more xs es n at h, eq-eqb (get_or xs at 0) axis e))

  of_other : at < n → (get_or xs at 0 ≡ axis → ⊥) → SlotFrom xs es n from axis None
  of_other l e = record {
    found = λ r. sym (past (sorted_rest xs es n at (omega arith) (sorted 0 (slots xs es n 0) r))) ∙ sought;
    of_axis = λ i q. absurd (none-some i q);
  }
    where
      past : Sorted (floor xs at) (rest xs es n at) → find axis (rest xs es n at) ≡ None
      past s =
          let t = rw (rest_more xs es n at l) at s in
          unfold slot in (rw (rest_more xs es n at l)
          (find_below (get_or xs at 0) axis (slot xs es at ∷ rest xs es n (at + 1)) (le_refl (get_or xs at 0), t.1, t.2)
          (omega (arith, c.stops l))))

  -- the slot that the search came to, if it is of the axis
  came_to : SlotFrom xs es n from axis (cond (ltb at n && eqb (get_or xs at 0) axis) (Some at) None)
  came_to =
      by_cases (ltb at n)
      (λ t. by_cases (eqb (get_or xs at 0) axis)
      (λ u. rw (t, u) (of_this (ltb-true at n t) (eqb-true (get_or xs at 0) axis u)))
      (λ u. rw (t, u) (of_other (ltb-true at n t) (eqb-false (get_or xs at 0) axis u))))
      (λ t. rw t (none_left (ltb-false at n t)))

  pub slot_is : (r : Option ℕ) → r ≡ cond (ltb at n && eqb (get_or xs at 0) axis) (Some at) None →
      SlotFrom xs es n from axis r
  slot_is r e = rw e came_to

-- OF A WHOLE FRONTIER
under_none : (b a : ℕ) (xs : List Entry) → Sorted b xs → a < b → epochs_under a xs ≡ []
unfolding epochs_under
under_none b a [] s h = refl
under_none b a (x ∷ xs) s h =
    rw (ne_eqb x.axis a (λ q. omega arith)) (under_none (suc x.axis) a xs s.2 (omega arith))

found_exactly : (b a : ℕ) (xs : List Entry) → Sorted b xs → values_of (find a xs) ≡ epochs_under a xs
unfolding values_of find epochs_under
found_exactly b a [] s = refl
found_exactly b a (x ∷ xs) s =
    by_cases (eqb x.axis a)
    (λ t. rw (t, under_none (suc x.axis) a xs s.2 (omega (arith, eqb-true x.axis a t))))
    (λ t. rw t (found_exactly (suc x.axis) a xs s.2))

-- BY HALVING
-- an answer that is not listed is absent
absent_by : (r : Option ℕ) → ((e : ℕ) → r ≡ Some e → ⊥) → None ≡ r
absent_by (Some e) h = absurd (h e refl)
absent_by None h = refl

-- what is found is in a slot
find_slot : (xs es : List ℕ) (a e n i : ℕ) → find a (tabulate_from n i (slot xs es)) ≡ Some e →
    (k : ℕ) × (k < i + n) × (get_or xs k 0 ≡ a)
unfolding find tabulate_from slot
find_slot xs es a e zero i q = absurd (none-some _ q)
find_slot xs es a e (suc n) i q =
    by_cases (eqb (get_or xs i 0) a) (λ t. (i, omega arith, eqb-true (get_or xs i 0) a t))
    (λ t. let w = find_slot xs es a e n (suc i) (rw t at q) in (w.0, omega (arith, w.1), w.2))

module _ (xs es : List ℕ) (n : ℕ) (s : Sorted 0 (slots xs es n 0)) where
  slot_above : (k : ℕ) → k < n → floor xs k ≤ get_or xs k 0
  slot_above k h = unfold slot in (rw (rest_more xs es n k h) at (sorted_rest xs es n k (omega arith) s)).0

  -- rising entries have rising axes
  axes_rise : Rise xs n
  axes_rise i zero h l = absurd (omega arith)
  axes_rise i (suc k) h l =
      by_cases (eqb i k) (λ t. rw (eqb-true i k t) next)
      (λ t. omega (arith, axes_rise i k (omega (arith, eqb-false i k t)) (omega arith), next))
    where
      next : get_or xs k 0 < get_or xs (suc k) 0
      next = unfold floor in (slot_above (suc k) l)

  -- a slot of the axis has what is found
  find_at : (a i : ℕ) → i < n → get_or xs i 0 ≡ a → find a (slots xs es n 0) ≡ Some (get_or es i 0)
  find_at a i h e = sym (find_ahead xs es n s a i (omega arith) (omega (arith, slot_above i h))) ∙ here
    where
      here : find a (rest xs es n i) ≡ Some (get_or es i 0)
      here = unfold find slot in (rw (rest_more xs es n i h, eq-eqb (get_or xs i 0) a e))

module _ (axes epochs : List ℕ) (len axis : ℕ) where
  means : Halving axes axis len (searched axes axis len)
  means = searched_means axes axis len refl

  -- anything that it gives is in the slot that the search gave
  looked_slot : (e : ℕ) → lookup_at epochs (searched axes axis len).at ≡ Some e →
      (i : ℕ) × (i < len) × (len ≤ most_entries) × (slot axes epochs i ≡ record { axis = axis; epoch = e })
  unfolding lookup_at slot
  looked_slot e = by (searched axes axis len).at means.of_axis
    where
      by : (at : Option ℕ) → ((i : ℕ) → at ≡ Some i → (i < len) × (len ≤ most_entries) × (len ≤ length axes)
          × (get_or axes i 0 ≡ axis)) → lookup_at epochs at ≡ Some e →
          (i : ℕ) × (i < len) × (len ≤ most_entries) × (slot axes epochs i ≡ record { axis = axis; epoch = e })
      by None h q = absurd (none-some e q)
      by (Some i) h q =
          by_cases (ltb i most_entries && ltb i (length epochs))
          (λ t. let w = h i refl in (i, w.0, w.1, same_entry w.3 (same_Some (get_or epochs i 0) e (rw t at q))))
          (λ f. absurd (none-some e (rw f at q)))

  looked_found : len ≤ most_entries → AllSlots axes epochs → Sorted 0 (slots axes epochs len 0) →
      lookup_at epochs (searched axes axis len).at ≡ find axis (slots axes epochs len 0)
  unfolding lookup_at
  looked_found l a s = by (searched axes axis len).at means.of_axis (means.finds (axes_rise axes epochs len s) l long)
    where
      long : len ≤ length axes
      long = omega (arith, a.0)

      slot_of : (e : ℕ) → find axis (slots axes epochs len 0) ≡ Some e →
          (k : ℕ) × (k < 0 + len) × (get_or axes k 0 ≡ axis)
      slot_of e q = unfold slots in (find_slot axes epochs axis e len 0 q)

      by : (at : Option ℕ) → ((i : ℕ) → at ≡ Some i → (i < len) × (len ≤ most_entries) × (len ≤ length axes)
          × (get_or axes i 0 ≡ axis)) → ((i : ℕ) → i < len → get_or axes i 0 ≡ axis → at ≡ Some i) →
          lookup_at epochs at ≡ find axis (slots axes epochs len 0)
      by (Some i) h k =
          let w = h i refl in
          let inside : i < length epochs = omega (arith, w.0, a.1) in
          rw (lt-ltb i most_entries (omega (arith, w.0, w.1)), lt-ltb i (length epochs) inside)
          (sym (find_at axes epochs len s axis i w.0 w.3))
      by None h k = absent_by (find axis (slots axes epochs len 0))
          (λ e q. let j = slot_of e q in none-some j.0 (k j.0 (omega (arith, j.1)) j.2))

  -- what the search by halving finds is what there is from the first slot on
  pub halved_from : len ≤ most_entries → AllSlots axes epochs → {r : Slot} → r ≡ searched axes axis len →
      SlotFrom axes epochs len 0 axis r.at
  unfolding lookup_at
  halved_from l a e = rw e (record {
    found = λ s. in_epochs (searched axes axis len).at means.of_axis
        ∙ looked_found l a (sorted 0 (slots axes epochs len 0) s)
        ∙ ap (find axis) (sym (rest_all axes epochs len));
    of_axis = λ i q. let w = means.of_axis i q in (w.0, w.3);
  })
    where
      in_epochs : (at : Option ℕ) → ((i : ℕ) → at ≡ Some i → (i < len) × (len ≤ most_entries) × (len ≤ length axes)
          × (get_or axes i 0 ≡ axis)) → option_map (λ i. get_or epochs i 0) at ≡ lookup_at epochs at
      in_epochs (Some i) h =
          let w = h i refl in
          rw (lt-ltb i most_entries (omega (arith, w.0, w.1)), lt-ltb i (length epochs) (omega (arith, w.0, a.1))) refl
      in_epochs None h = refl

-- R60: of a frontier
pub looked : (f : Frontier) (axis : ℕ) (r : Option ℕ) → r ≡ looked_up f axis → Looked f axis r
unfolding looked_up
looked f axis r e = rw e (record {
  by_halving = refl;
  few_read = five_read f.axes axis f.len;
  found = right;
  exactly = λ v. ap values_of (right v) ∙ found_exactly 0 axis (entries f) (sorted_entries f v);
  halves = λ v. (means f.axes f.epochs f.len axis).halves (axes_rise f.axes f.epochs f.len
      (unfold entries in (sorted_entries f v)));
  in_a_slot = looked_slot f.axes f.epochs f.len axis;
})
  where
    right : well_formed f ≡ true →
        lookup_at f.epochs (searched f.axes axis f.len).at ≡ find axis (entries f)
    right v = unfold entries in (looked_found f.axes f.epochs f.len axis (formed f v).short (all_slots f v)
        (unfold entries in (sorted_entries f v)))
