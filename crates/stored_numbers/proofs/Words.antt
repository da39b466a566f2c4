-- Words of bytes: the number in so many bytes, the lowest first. Assumes nothing.
use mathlib.Core.Path.{◌≡◌, refl, ap, ◌∙◌}
use mathlib.Core.List.{List}
use Prim.Native.Nat.{ℕ, zero, suc, ◌+◌, ◌-◌, ◌≤◌}
use native.Mathlib.Omega.{arith}
use lib.ListN.{length, take, drop, length-drop}
use lib.Seq.{drop-cons, take_all}
use Rattle.byteorder.specs.Endian.{little_from, little_number}
use Rattle.plan_format.specs.Grammar.{value}
use Rattle.stored_numbers.specs.Reading.{Word}

from_is : (i n : ℕ) (xs : List ℕ) → i + n ≤ length xs → little_from i n xs ≡ value (take n (drop i xs))
unfolding value
from_is i zero xs h = refl
from_is i (suc n) xs h = rw (drop-cons xs i 0 (omega arith), from_is (suc i) n xs (omega arith)) refl

pub word_read : (w at v : ℕ) (bs : List ℕ) → at + w ≤ length bs →
    v ≡ little_number w (take (length bs - at) (drop at bs)) → Word w bs at v
word_read w at v bs h e =
    let left : take (length bs - at) (drop at bs) ≡ drop at bs =
    take_all (length bs - at) (drop at bs) (rw (length-drop at bs) (omega arith)) in
    record {
      word = e ∙ ap (little_number w) left ∙ from_is 0 w (drop at bs) (rw (length-drop at bs) (omega arith));
      whole = h;
    }
