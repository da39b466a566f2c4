-- R47: the lowest operation whose row is zero at its own queue, by the columns alone, whether they show a plan or not.
-- Assumes nothing: these are definitions.
use Rattle.std.specs.Prelude.{Bool, List, ℕ, ◌+◌, ◌*◌, ◌%◌, eqb, get_or}
use Rattle.base_lists.specs.Lists.{lowest_below, place_or}
use Rattle.plan_format.specs.Sizes.{row_width}

-- the row of operation i is zero at its own queue; the queue is cut to its bits, which changes none in range
unfoldable pub own_zero : (queue rows : List ℕ) → (i : ℕ) → Bool
own_zero queue rows i = eqb (get_or rows (row_width * i + get_or queue i 0 % row_width) 0) 0

-- the lowest such operation of n; n where there is none
abbrev pub first_zero : (n : ℕ) → (queue rows : List ℕ) → ℕ
first_zero n queue rows = place_or n (lowest_below n (own_zero queue rows))
