-- The slot that a search by halving gives lies below sixteen. Assumes nothing.
use mathlib.Core.Path.{◌≡◌}
use mathlib.Core.Bool.{true}
use mathlib.Core.List.{List}
use Prim.Native.Nat.{ℕ}
use native.Mathlib.Omega.{arith}
use lib.Dec.{ltb}
use borrow.Author.Tests.{lt-ltb}
use Rattle.std.specs.Prelude.{Some}
use Rattle.axis_search.specs.declared.Slot.{Slot}
use Rattle.axis_search.specs.Halving.{Halving}
use Rattle.frontier_slots.specs.Entries.{most_entries}

pub halved_below : (axes : List ℕ) (axis len : ℕ) (r : Slot) (at : ℕ) → Halving axes axis len r → r.at ≡ Some at →
    ltb at most_entries ≡ true
halved_below axes axis len r at w e = let s = w.of_axis at e in lt-ltb at most_entries (omega (arith, s.0, s.1))
