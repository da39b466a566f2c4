-- A list over the front of another, as a loop or a fill leaves it. Assumes nothing.
use mathlib.Core.Path.{◌≡◌, refl}
use mathlib.Core.List.{List, ◌++◌}
use Prim.Native.Nat.{ℕ, ◌≤◌}
use lib.ListN.{length, take, drop, replicate, length-replicate}
use lib.Seq.{length-take-le}
use Rattle.base_lists.specs.Lists.{in_front}

pub zeroed : (k : ℕ) (old : List ℕ) → replicate {A = ℕ} k 0 ++ drop k old ≡ in_front (replicate k 0) old
unfolding in_front
zeroed k old = rw (length-replicate {A = ℕ} k 0) refl

pub taken : (k : ℕ) (new old : List ℕ) → k ≤ length new → take k new ++ drop k old ≡ in_front (take k new) old
unfolding in_front
taken k new old l = rw (length-take-le k new l) refl
