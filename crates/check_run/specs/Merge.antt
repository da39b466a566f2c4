-- R20, rows merged: the largest of four rows in each column. Assumes nothing: these are definitions.
use Rattle.std.specs.Prelude.{◌≡◌, List, ℕ, ◌+◌, ◌-◌, ◌*◌, ◌%◌, ◌<◌, max, length, get_or}
use Rattle.plan_format.specs.Sizes.{row_width, row_places}

-- column k of the row of operation j
unfoldable pub cell : (rows : List ℕ) → (j k : ℕ) → ℕ
cell rows j k = get_or rows (row_width * j + k) 0

unfoldable pub largest : (rows : List ℕ) → (a b c d k : ℕ) → ℕ
largest rows a b c d k = max (max (cell rows a k) (cell rows b k)) (max (cell rows c k) (cell rows d k))

-- the first columns of a row written at an operation, where the table has the place, and nothing else
pub record Laid (rows : List ℕ) (j : ℕ) (row : List ℕ) (many : ℕ) (rows_now : List ℕ) : Type 0 where
  pub there : length rows ≡ row_places → (k : ℕ) → k < many → cell rows_now j k ≡ get_or row k 0
  pub elsewhere : (i k : ℕ) → k < row_width → (i ≡ j → ⊥) → cell rows_now i k ≡ cell rows i k
  pub long : length rows_now ≡ length rows

-- the row of operation j of queue q merged from four rows, and nothing else
pub record Merged (rows unit : List ℕ) (j q a b c d : ℕ) (rows_now : List ℕ) : Type 0 where
  pub there :
      length rows ≡ row_places → (k : ℕ) → k < row_width →
      cell rows_now j k ≡ (largest rows a b c d k + get_or unit (row_width - q + k) 0) % 65536
  pub elsewhere : (i k : ℕ) → k < row_width → (i ≡ j → ⊥) → cell rows_now i k ≡ cell rows i k
  pub long : length rows_now ≡ length rows
