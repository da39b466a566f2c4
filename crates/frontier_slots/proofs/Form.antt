-- What well-formed slots have, and the judgement in the order in which the code makes it. Assumes nothing.
use mathlib.Core.Path.{◌≡◌}
use mathlib.Core.Bool.{true, ◌&&◌}
use mathlib.Core.List.{List}
use Prim.Native.Nat.{ℕ, ◌≤◌}
use lib.Dec.{leb, eqb}
use lib.ListN.{length, drop}
use borrow.Author.Tests.{leb-true, le-leb, eqb-true, eq-eqb}
use Rattle.base_lists.proofs.Tests.{and_left, and_right, and_both}
use Rattle.frontier_slots.specs.Entries.{most_entries, rising_from}
use Rattle.frontier_slots.specs.Slots.{slots, all_zero, row_formed, slots_formed}

pub record SlotsHave (axes epochs : List ℕ) (len : ℕ) : Type 0 where
  pub short : len ≤ most_entries
  pub rises : rising_from 0 (slots axes epochs len 0) ≡ true
  pub sixteen_axes : length axes ≡ most_entries
  pub sixteen_epochs : length epochs ≡ most_entries
  pub zero_axes : all_zero (drop len axes) ≡ true
  pub zero_epochs : all_zero (drop len epochs) ≡ true

module _ (axes epochs : List ℕ) (len : ℕ) where
  pub slots_have : slots_formed axes epochs len ≡ true → SlotsHave axes epochs len
  unfolding slots_formed row_formed
  slots_have e =
      let p = and_right (leb len most_entries) _ e in
      let q = and_right (rising_from 0 (slots axes epochs len 0)) _ p in
      let x = and_left (eqb (length axes) most_entries && all_zero (drop len axes)) _ q in
      let y = and_right (eqb (length axes) most_entries && all_zero (drop len axes)) _ q in
      record {
        short = leb-true len most_entries (and_left (leb len most_entries) _ e);
        rises = and_left (rising_from 0 (slots axes epochs len 0)) _ p;
        sixteen_axes = eqb-true (length axes) most_entries (and_left (eqb (length axes) most_entries) _ x);
        sixteen_epochs = eqb-true (length epochs) most_entries (and_left (eqb (length epochs) most_entries) _ y);
        zero_axes = and_right (eqb (length axes) most_entries) _ x;
        zero_epochs = and_right (eqb (length epochs) most_entries) _ y;
      }

  pub slots_well : SlotsHave axes epochs len → slots_formed axes epochs len ≡ true
  unfolding slots_formed row_formed
  slots_well w =
      and_both (leb len most_entries) _ (le-leb len most_entries w.short)
      (and_both (rising_from 0 (slots axes epochs len 0)) _ w.rises
      (and_both (eqb (length axes) most_entries && all_zero (drop len axes)) _
      (and_both (eqb (length axes) most_entries) _ (eq-eqb (length axes) most_entries w.sixteen_axes) w.zero_axes)
      (and_both (eqb (length epochs) most_entries) _ (eq-eqb (length epochs) most_entries w.sixteen_epochs)
      w.zero_epochs)))
