-- The steps of the search for an axis among rising slots. Assumes nothing.
use mathlib.Core.Path.{◌≡◌}
use mathlib.Core.List.{List}
use Prim.Native.Nat.{ℕ, ◌+◌, ◌≤◌, ◌<◌}
use lib.ListN.{get_or}
use borrow.Author.Tests.{le-ltb, lt-ltb}
use Rattle.frontier_slots.specs.Slots.{slot, rest}
use Rattle.frontier.specs.Walks.{skip_below}
use Rattle.frontier_slots.proofs.Slots.{rest_more, rest_none}

module _ (xs es : List ℕ) (n i axis : ℕ) where
  pub skip_more : i < n → get_or xs i 0 < axis → skip_below axis (rest xs es n i) ≡ skip_below axis
      (rest xs es n (i + 1))
  unfolding skip_below slot
  skip_more h l = rw (rest_more xs es n i h, lt-ltb (get_or xs i 0) axis l)

  pub skip_stop : i < n → axis ≤ get_or xs i 0 → rest xs es n i ≡ skip_below axis (rest xs es n i)
  unfolding skip_below slot
  skip_stop h l = rw (rest_more xs es n i h, le-ltb (get_or xs i 0) axis l)

  pub skip_none : n ≤ i → rest xs es n i ≡ skip_below axis (rest xs es n i)
  unfolding skip_below
  skip_none h = rw (rest_none xs es n i h)
