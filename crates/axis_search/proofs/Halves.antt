-- Each read leaves at most half; of sixteen at most five are read; in rising axes the search finds exactly the slot of
-- the axis. Assumes nothing.
use mathlib.Core.Path.{◌≡◌, sym, ap, ◌∙◌}
use mathlib.Core.Bool.{◌&&◌, and-false}
use mathlib.Core.Logic.{◌⊎◌, inl, inr}
use mathlib.Core.List.{List}
use Rattle.std.specs.Prelude.{Some, None}
use Prim.Native.Nat.{ℕ, zero, suc, ◌+◌, ◌-◌, ◌/◌, ◌*◌, ◌≤◌, ◌<◌}
use native.Mathlib.Omega.{arith}
use lib.Dec.{ltb, leb, eqb}
use lib.ListN.{length, get_or}
use borrow.Author.Tests.{ltb-true, ltb-false, eqb-true, eqb-false, eq-eqb, ne_eqb, leb-true, le-leb, lt-leb}
use Rattle.std.proofs.lemmas.Option.{none-some, same_Some}
use Rattle.base_lists.proofs.Tests.{by_cases, and_left, and_right}
use Rattle.axis_search.specs.declared.Slot.{Slot}
use Rattle.axis_search.specs.Halving.{most_slots, most_reads, Range, middle, narrowed, search_from}
use Rattle.axis_search.specs.Halving.{searched, Rise, InQuestion, Halves, Halving}
use Rattle.axis_search.proofs.Searching.{narrowed_half}

-- two to the power of b
unfoldable doubled : ℕ → ℕ
doubled zero = 1
doubled (suc b) = 2 * doubled b

module _ (axes : List ℕ) (axis len : ℕ) (rise : Rise axes len) where
  halves : (r : Range) → 0 < r.many → r.low + r.many ≤ len → Halves axes axis r
  unfolding narrowed middle
  halves r l b =
      let m = r.low + r.many / 2 in
      by_cases (ltb (get_or axes m 0) axis)
      (λ t. record {
        half = rw t (omega arith);
        keeps = λ i e q ne. rw t (record {
          low = by_cases (ltb m i) (λ h. omega (arith, ltb-true m i h))
              (λ h. absurd (by_cases (eqb i m)
              (λ s. ne (ap (λ (z : ℕ). get_or axes z 0) (sym (eqb-true i m s)) ∙ e))
              (λ s. let up = rise i m (omega (arith, ltb-false m i h, eqb-false i m s)) (omega arith) in
              omega (arith, ltb-true (get_or axes m 0) axis t))));
          high = omega (arith, q.high);
        });
      })
      (λ f. record {
        half = rw f (omega arith);
        keeps = λ i e q ne. rw f (record {
          low = q.low;
          high = by_cases (ltb i m) (λ h. omega (arith, ltb-true i m h))
              (λ h. absurd (by_cases (eqb i m)
              (λ s. ne (ap (λ (z : ℕ). get_or axes z 0) (sym (eqb-true i m s)) ∙ e))
              (λ s. let up = rise m i (omega (arith, ltb-false i m h, eqb-false i m s)) (omega (arith, q.high)) in
              omega (arith, ltb-false (get_or axes m 0) axis f))));
        });
      })

  -- a slot of the axis that is in question is found
  found_slot : (turns read : ℕ) (r : Range) → r.many ≤ turns → r.low + r.many ≤ len → (i : ℕ) →
      get_or axes i 0 ≡ axis → InQuestion r i → (search_from axes axis turns read r).at ≡ Some i
  unfolding search_from
  found_slot zero k r h b i e q = absurd (omega (arith, q.low, q.high))
  found_slot (suc t) k r h b i e q =
      let some : 0 < r.many = omega (arith, q.low, q.high) in
      let m_in : middle r < len = unfold middle in (omega arith) in
      let halved = halves r some b in
      rw (ne_eqb r.many 0 (λ z. omega arith)) (by_cases (eqb (get_or axes (middle r) 0) axis)
      (λ u. rw u (by_cases (eqb (middle r) i) (λ s. ap (λ (z : ℕ). Some z) (eqb-true (middle r) i s))
      (λ s. absurd (by_cases (ltb (middle r) i)
      (λ l. let up = rise (middle r) i (ltb-true (middle r) i l) (omega (arith, q.high)) in
      omega (arith, eqb-true (get_or axes (middle r) 0) axis u))
      (λ l. let up = rise i (middle r) (omega (arith, ltb-false (middle r) i l, eqb-false (middle r) i s)) m_in in
      omega (arith, eqb-true (get_or axes (middle r) 0) axis u))))))
      (λ u. rw u (found_slot t (k + 1) (narrowed axes axis r) (omega (arith, halved.half))
      (unfold narrowed middle in (by_cases (ltb (get_or axes (r.low + r.many / 2) 0) axis)
      (λ v. rw v (omega arith)) (λ v. rw v (omega arith))))
      i e (halved.keeps i e q (eqb-false (get_or axes (middle r) 0) axis u)))))

module _ (axes : List ℕ) (axis : ℕ) where
  -- of fewer than two to the power of b slots in question at most b are read, for each read leaves at most half: by the
  -- halving, however many turns there are
  few_read : (turns b read : ℕ) (r : Range) → r.many < doubled b → (search_from axes axis turns read r).read ≤ read + b
  unfolding search_from doubled
  few_read zero b k r h = omega arith
  few_read (suc t) zero k r h = rw (eq-eqb r.many 0 (omega arith)) (omega arith)
  few_read (suc t) (suc b) k r h =
      by_cases (eqb r.many 0) (λ z. rw z (omega arith))
      (λ n. rw n (by_cases (eqb (get_or axes (middle r) 0) axis) (λ e. rw e (omega arith))
      (λ e. let half = narrowed_half axes axis r (omega (arith, eqb-false r.many 0 n)) in
      rw e (omega (arith, few_read t b (k + 1) (narrowed axes axis r) (omega (arith, half.0)))))))

  -- what is found is of the axis, and was in question
  found_right : (turns read : ℕ) (r : Range) (at : ℕ) → (search_from axes axis turns read r).at ≡ Some at →
      (get_or axes at 0 ≡ axis) × (at < r.low + r.many)
  unfolding search_from middle narrowed
  found_right zero k r at f = absurd (none-some at f)
  found_right (suc t) k r at f =
      let m = r.low + r.many / 2 in
      by_cases (eqb r.many 0) (λ z. absurd (none-some at (rw z at f)))
      (λ n. by_cases (eqb (get_or axes m 0) axis)
      (λ e. let same = same_Some m at (rw (n, e) at f) in
      rw (← same) (eqb-true (get_or axes m 0) axis e, omega (arith, eqb-false r.many 0 n)))
      (λ e. by_cases (ltb (get_or axes m 0) axis)
      (λ u. let w = found_right t (k + 1) (record { low = m + 1; many = r.many - r.many / 2 - 1 }) at
      (rw (n, e, u) at f) in
      (w.0, omega (arith, w.1, eqb-false r.many 0 n)))
      (λ u. let w = found_right t (k + 1) (record { low = r.low; many = r.many / 2 }) at (rw (n, e, u) at f) in
      (w.0, omega (arith, w.1)))))

  pub five_read : (len : ℕ) → (searched axes axis len).read ≤ most_reads
  unfolding searched doubled
  five_read len =
      by_cases (leb len most_slots && leb len (length axes))
      (λ t. let l = leb-true len most_slots (and_left (leb len most_slots) (leb len (length axes)) t) in
      rw t (few_read len most_reads 0 (record { low = 0; many = len }) (omega (arith, l))))
      (λ f. rw f (omega arith))

  searched_slot : (len at : ℕ) → (searched axes axis len).at ≡ Some at →
      (at < len) × (len ≤ most_slots) × (len ≤ length axes) × (get_or axes at 0 ≡ axis)
  unfolding searched
  searched_slot len at f =
      by_cases (leb len most_slots && leb len (length axes))
      (λ t. let w = found_right len 0 (record { low = 0; many = len }) at (rw t at f) in (
        omega (arith, w.1),
        leb-true len most_slots (and_left (leb len most_slots) (leb len (length axes)) t),
        leb-true len (length axes) (and_right (leb len most_slots) (leb len (length axes)) t),
        w.0,
      ))
      (λ t. absurd (none-some at (rw t at f)))

  searched_finds : (len : ℕ) → Rise axes len → len ≤ most_slots → len ≤ length axes → (i : ℕ) → i < len →
      get_or axes i 0 ≡ axis → (searched axes axis len).at ≡ Some i
  unfolding searched
  searched_finds len rise l m i h e =
      rw (le-leb len most_slots l, le-leb len (length axes) m)
      (found_slot axes axis len rise len 0 (record { low = 0; many = len }) (omega arith) (omega arith) i e
      (record { low = omega arith; high = omega arith }))

  -- of too many nothing is read
  pub searched_none : (len : ℕ) → (most_slots < len) ⊎ (len ≤ most_slots) × (length axes < len) →
      record { at = None; read = 0 } ≡ searched axes axis len
  unfolding searched
  searched_none len (inl l) = rw (lt-leb len most_slots l)
  searched_none len (inr l) = rw (lt-leb len (length axes) l.1, and-false (leb len most_slots))

  pub searched_means : (len : ℕ) {r : Slot} → r ≡ searched axes axis len → Halving axes axis len r
  searched_means len e = rw e (record {
    few = five_read len;
    of_axis = searched_slot len;
    halves = λ rise. halves axes axis len rise;
    finds = searched_finds len;
  })
