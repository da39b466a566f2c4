-- The order in which entries are kept, by epoch and then by axis: a strict total order on entries of distinct axes.
-- Assumes nothing.
use mathlib.Core.Path.{◌≡◌, sym}
use mathlib.Core.Bool.{true, false}
use mathlib.Core.Logic.{◌⊎◌, inl, inr}
use Prim.Native.Nat.{◌≤◌, ◌<◌}
use native.Mathlib.Omega.{arith}
use lib.Dec.{ltb, eqb}
use borrow.Author.Tests.{ltb-true, ltb-false, eqb-true, eqb-false, lt-ltb, eq-eqb}
use Rattle.base_lists.proofs.Tests.{by_cases, clash, is_false, either, or_cases, or_left, or_right, and_left, and_right}
use Rattle.base_lists.proofs.Tests.{and_both}
use Rattle.frontier_slots.specs.declared.Entry.{Entry}
use Rattle.frontier_slots.specs.Entries.{exceeds}
use Rattle.frontier.proofs.Sorted.{same_entry}

abbrev Above : (y x : Entry) → Type 0
Above y x = (x.epoch < y.epoch) ⊎ ((x.epoch ≡ y.epoch) × (x.axis < y.axis))

above : (y x : Entry) → exceeds y x ≡ true → Above y x
unfolding exceeds
above y x e =
    either (or_cases (ltb x.epoch y.epoch) _ e) (λ l. inl (ltb-true x.epoch y.epoch l))
    (λ p. inr (
      eqb-true x.epoch y.epoch (and_left (eqb x.epoch y.epoch) _ p),
      ltb-true x.axis y.axis (and_right (eqb x.epoch y.epoch) _ p),
    ))

by_epoch : (y x : Entry) → x.epoch < y.epoch → exceeds y x ≡ true
unfolding exceeds
by_epoch y x l = or_left (ltb x.epoch y.epoch) _ (lt-ltb x.epoch y.epoch l)

by_axis : (y x : Entry) → x.epoch ≡ y.epoch → x.axis < y.axis → exceeds y x ≡ true
unfolding exceeds
by_axis y x e l =
    or_right (ltb x.epoch y.epoch) _
    (and_both (eqb x.epoch y.epoch) _ (eq-eqb x.epoch y.epoch e) (lt-ltb x.axis y.axis l))

pub exceeds_not_itself : (x : Entry) → exceeds x x ≡ false
exceeds_not_itself x = is_false (exceeds x x) (λ t. either (above x x t) (λ l. omega arith) (λ p. omega arith))

pub exceeds_one_way : (y x : Entry) → exceeds y x ≡ true → exceeds x y ≡ false
exceeds_one_way y x e =
    is_false (exceeds x y) (λ t. either (above x y t) (λ l. either (above y x e) (λ m. omega arith) (λ m. omega arith))
    (λ l. either (above y x e) (λ m. omega arith) (λ m. omega arith)))

pub exceeds_chain : (z y x : Entry) → exceeds z y ≡ true → exceeds y x ≡ true → exceeds z x ≡ true
exceeds_chain z y x e f =
    either (above z y e)
    (λ l. either (above y x f) (λ m. by_epoch z x (omega arith)) (λ m. by_epoch z x (omega arith)))
    (λ l. either (above y x f) (λ m. by_epoch z x (omega arith)) (λ m. by_axis z x (omega arith) (omega arith)))

pub exceeds_or : (y x : Entry) → (x.axis ≡ y.axis → ⊥) → exceeds y x ≡ false → exceeds x y ≡ true
exceeds_or y x n e =
    by_cases (ltb y.epoch x.epoch) (λ l. by_epoch x y (ltb-true _ _ l))
    (λ l. by_cases (ltb x.epoch y.epoch) (λ m. clash (exceeds y x) (by_epoch y x (ltb-true _ _ m)) e)
    (λ m.
    let q : x.epoch ≡ y.epoch = omega (arith, ltb-false y.epoch x.epoch l, ltb-false x.epoch y.epoch m) in
    by_cases (ltb x.axis y.axis) (λ a. clash (exceeds y x) (by_axis y x q (ltb-true _ _ a)) e)
    (λ a. by_axis x y (sym q) (omega (arith, ltb-false x.axis y.axis a)))))

-- what something above x does not exceed is above x too
pub exceeds_past : (m y x : Entry) → exceeds m x ≡ true → exceeds m y ≡ false → exceeds y x ≡ true
exceeds_past m y x e n =
    by_cases (ltb y.epoch m.epoch) (λ l. clash (exceeds m y) (by_epoch m y (ltb-true _ _ l)) n)
    (λ l. let p = ltb-false y.epoch m.epoch l in
    by_cases (ltb m.epoch y.epoch)
    (λ k. let k' = ltb-true m.epoch y.epoch k in
    either (above m x e) (λ a. by_epoch y x (omega arith)) (λ a. by_epoch y x (omega arith)))
    (λ k. let q : y.epoch ≡ m.epoch = omega (arith, ltb-false m.epoch y.epoch k) in
    by_cases (ltb y.axis m.axis) (λ a. clash (exceeds m y) (by_axis m y q (ltb-true _ _ a)) n)
    (λ a. let a' = ltb-false y.axis m.axis a in
    either (above m x e) (λ b. by_epoch y x (omega arith)) (λ b. by_axis y x (omega arith) (omega arith)))))

pub exceeds_same : (y x : Entry) → exceeds y x ≡ false → exceeds x y ≡ false → x ≡ y
exceeds_same y x p q =
    by_cases (eqb x.axis y.axis)
    (λ t. let e = eqb-true x.axis y.axis t in
    by_cases (ltb x.epoch y.epoch) (λ l. clash (exceeds y x) (by_epoch y x (ltb-true _ _ l)) p)
    (λ l. by_cases (ltb y.epoch x.epoch) (λ m. clash (exceeds x y) (by_epoch x y (ltb-true _ _ m)) q)
    (λ m. same_entry e (omega (arith, ltb-false x.epoch y.epoch l, ltb-false y.epoch x.epoch m)))))
    (λ t. clash (exceeds x y) (exceeds_or y x (eqb-false x.axis y.axis t) p) q)

-- nothing exceeds what is at least as large in both
pub exceeds_not_top : (x top : Entry) → x.axis ≤ top.axis → x.epoch ≤ top.epoch → exceeds x top ≡ false
exceeds_not_top x top a e = is_false (exceeds x top) (λ t. either (above x top t) (λ l. omega arith) (λ l. omega arith))

-- an epoch above 0 exceeds the zero entry
pub exceeds_zero : (x : Entry) → 0 < x.epoch → exceeds x (record { axis = 0; epoch = 0 }) ≡ true
exceeds_zero x h = by_epoch x (record { axis = 0; epoch = 0 }) h

-- a larger epoch of the same axis exceeds what the smaller does
pub exceeds_raised : (y z b : Entry) → exceeds y b ≡ true → y.axis ≡ z.axis → y.epoch ≤ z.epoch → exceeds z b ≡ true
exceeds_raised y z b e a l =
    either (above y b e) (λ h. by_epoch z b (omega arith))
    (λ h. by_cases (ltb b.epoch z.epoch) (λ t. by_epoch z b (ltb-true _ _ t))
    (λ t. by_axis z b (omega (arith, ltb-false b.epoch z.epoch t)) (omega arith)))
