-- The walk that judges whether one frontier reaches another: each axis of the right is looked up in the left, from the
-- slot after the last
-- one found. Assumes nothing.
use mathlib.Core.Path.{◌≡◌, sym, ap, ◌∙◌}
use mathlib.Core.Bool.{true, false}
use mathlib.Core.List.{List, ◌∷◌}
use Prim.Native.Nat.{ℕ, suc, ◌+◌, ◌≤◌, ◌<◌, zero-le}
use native.Mathlib.Numerals.{add-one}
use native.Mathlib.Omega.{arith}
use lib.ListN.{get_or}
use borrow.Author.Tests.{le-leb, lt-leb}
use Rattle.std.specs.Prelude.{Some, None}
use Rattle.std.specs.Prelude.{Option, option_map}
use Rattle.frontier_slots.specs.declared.Entry.{Entry}
use Rattle.frontier_slots.specs.Entries.{rising_from, find}
use Rattle.frontier_slots.specs.Slots.{slot, slots}
use Rattle.frontier.specs.Frontiers.{met, reached}
use Rattle.frontier_slots.specs.Slots.{rest, floor}
use Rattle.frontier.specs.Walks.{SlotFrom}
use Rattle.frontier.proofs.Sorted.{Sorted, sorted}
use Rattle.frontier_slots.proofs.Slots.{rest_all, rest_more, rest_none}
use Rattle.frontier.proofs.Slots.{sorted_rest}
use Rattle.frontier.proofs.Lookups.{find_ahead}

-- ONE ENTRY OF THE RIGHT
module _ (X : List Entry) (ya ye : List ℕ) (yn j : ℕ) (l : j < yn) where
  reached_absent : find (get_or ya j 0) X ≡ None → reached X (rest ya ye yn j) ≡ false
  unfolding reached met slot
  reached_absent e = rw (rest_more ya ye yn j l, e)

  reached_short : (k : ℕ) → find (get_or ya j 0) X ≡ Some k → k < get_or ye j 0 → reached X (rest ya ye yn j) ≡ false
  unfolding reached met slot
  reached_short k e h = rw (rest_more ya ye yn j l, e, lt-leb (get_or ye j 0) k h)

  reached_more : (k : ℕ) → find (get_or ya j 0) X ≡ Some k → get_or ye j 0 ≤ k →
      reached X (rest ya ye yn j) ≡ reached X (rest ya ye yn (j + 1))
  unfolding reached met slot
  reached_more k e h = rw (rest_more ya ye yn j l, e, le-leb (get_or ye j 0) k h)

-- THE WALK, at slot i of x and slot j of y
pub record Reach (xa xe ya ye : List ℕ) (xn yn i j : ℕ) : Type 0 where
  pub left_in : i ≤ xn
  pub right_in : j ≤ yn
  pub same : reached (slots xa xe xn 0) (rest ya ye yn j) ≡ reached (slots xa xe xn 0) (slots ya ye yn 0)
  -- no axis that y still has is before slot i
  pub level : floor xa i ≤ floor ya j

pub reach_none : (xa xe ya ye : List ℕ) (xn yn : ℕ) → Reach xa xe ya ye xn yn 0 0
unfolding floor
reach_none xa xe ya ye xn yn = record {
  left_in = zero-le;
  right_in = zero-le;
  same = ap (reached (slots xa xe xn 0)) (rest_all ya ye yn);
  level = zero-le;
}

-- the lookup of y's next axis from slot i of x on
module _ (xa xe ya ye : List ℕ) (xn yn i j : ℕ) (rx : rising_from 0 (slots xa xe xn 0) ≡ true)
    (ry : rising_from 0 (slots ya ye yn 0) ≡ true)
    (w : Reach xa xe ya ye xn yn i j) (l : j < yn) (r : Option ℕ) (f : SlotFrom xa xe xn i (get_or ya j 0) r) where
  right_at : Sorted (floor ya j) (slot ya ye j ∷ rest ya ye yn (j + 1))
  right_at = rw (rest_more ya ye yn j l) at (sorted_rest ya ye yn j w.right_in (sorted 0 (slots ya ye yn 0) ry))

  looked : find (get_or ya j 0) (slots xa xe xn 0) ≡ option_map (λ i. get_or xe i 0) r
  unfolding slot
  looked =
      sym (find_ahead xa xe xn (sorted 0 (slots xa xe xn 0) rx) (get_or ya j 0) i w.left_in
      (omega (arith, w.level, right_at.0)))
      ∙ sym (f.found rx)

  pub reach_absent : r ≡ None → false ≡ reached (slots xa xe xn 0) (slots ya ye yn 0)
  reach_absent e =
      sym (reached_absent (slots xa xe xn 0) ya ye yn j l (looked ∙ ap (option_map (λ i. get_or xe i 0)) e)) ∙ w.same

  module _ (k : ℕ) (q : r ≡ Some k) where
    listed : find (get_or ya j 0) (slots xa xe xn 0) ≡ Some (get_or xe k 0)
    listed = looked ∙ ap (option_map (λ i. get_or xe i 0)) q

    pub reach_short : get_or xe k 0 < get_or ye j 0 → false ≡ reached (slots xa xe xn 0) (slots ya ye yn 0)
    reach_short h = sym (reached_short (slots xa xe xn 0) ya ye yn j l (get_or xe k 0) listed h) ∙ w.same

    pub reach_more : get_or ye j 0 ≤ get_or xe k 0 → Reach xa xe ya ye xn yn (k + 1) (j + 1)
    reach_more h = record {
      left_in = omega (arith, (f.of_axis k q).0);
      right_in = omega arith;
      same = sym (reached_more (slots xa xe xn 0) ya ye yn j l (get_or xe k 0) listed h) ∙ w.same;
      level = rw (add-one k, add-one j) past;
    }
      where
        past : floor xa (suc k) ≤ floor ya (suc j)
        past = unfold floor in (omega (arith, (f.of_axis k q).1))

pub reach_end : (xa xe ya ye : List ℕ) (xn yn i j : ℕ) → Reach xa xe ya ye xn yn i j → yn ≤ j →
    true ≡ reached (slots xa xe xn 0) (slots ya ye yn 0)
unfolding reached
reach_end xa xe ya ye xn yn i j w h = sym (ap (reached (slots xa xe xn 0)) (rest_none ya ye yn j h)) ∙ w.same
