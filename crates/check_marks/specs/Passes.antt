-- R32, R33: two passes over the marks of a plan, with a table by buffer: uses against the free of their own holding,
-- from the last mark to the first, and marks against the free before their holding. Assumes nothing: these are
-- definitions.
use Rattle.std.specs.Prelude.{◌≡◌, Bool, ◌&&◌, ◌||◌, not, cond, List, [], ◌∷◌, ℕ, ◌/◌, ◌%◌, ◌<◌, min, ltb, eqb}
use Rattle.std.specs.Prelude.{length, get_or, set, replicate}
use Rattle.plan_format.specs.Sizes.{most_buffers, row_width, no_operation}
use Rattle.check_columns.specs.Columns.{Marked}
use Rattle.check_columns.specs.Shown.{shown_from, ordered}

-- a table by buffer: the operation that freed it; 1,024 means none
abbrev pub none_noted : List ℕ
none_noted = replicate most_buffers no_operation

-- a buffer's free
abbrev pub free_in : (frees : List ℕ) → (b : ℕ) → ℕ
free_in frees b = get_or frees b 0

-- a free is noted, and a use leaves its buffer's free in the table
unfoldable pub noted : Marked → (frees : List ℕ) → List ℕ
noted m frees = set frees m.buffer (cond (eqb m.kind 1) m.by (free_in frees m.buffer))

-- the table after marks passed from the last to the first
unfoldable pub noted_back : List Marked → List ℕ
noted_back [] = none_noted
noted_back (m ∷ ms) = noted m (noted_back ms)

-- an operation's place in the rows, in its own row and the column of its queue; for 1,024 any place of the row after
-- the last
pub record OwnPlace (queue : List ℕ) (i place : ℕ) : Type 0 where
  pub row : place / row_width ≡ i
  pub column : i < no_operation → place % row_width ≡ get_or queue i 0 % row_width

module _ (queue rows : List ℕ) where
  -- a use by i is not forced to come no later than a free
  unfoldable pub late : (i free : ℕ) → Bool
  late i g = ltb g no_operation && not (ordered queue rows i g)

  -- a mark by i is not forced to come after a free
  unfoldable pub early : (free i : ℕ) → Bool
  early g i = ltb g no_operation && (eqb g i || not (ordered queue rows g i))

  -- the operation of the first use that is late, and of the first mark that is early; n where there is none
  unfoldable pub first_late : (n : ℕ) → List Marked → ℕ
  first_late n [] = n
  first_late n (m ∷ ms) =
      cond (eqb m.kind 0 && late m.by (free_in (noted_back ms) m.buffer)) m.by (first_late n ms)

  unfoldable pub first_early : (n : ℕ) → (frees : List ℕ) → List Marked → ℕ
  first_early n frees [] = n
  first_early n frees (m ∷ ms) =
      cond (early (free_in frees m.buffer) m.by) m.by (first_early n (noted m frees) ms)

  -- the lower of the two, by the first `many` marks, or by all that the columns hold where they hold fewer; n where
  -- there is neither
  unfoldable pub first_broken : (n many : ℕ) → (mark operation : List ℕ) → ℕ
  first_broken n many mark operation =
      let ms = shown_from mark operation (min many (min (length mark) (length operation))) 0 in
      min (first_late n ms) (first_early n none_noted ms)
