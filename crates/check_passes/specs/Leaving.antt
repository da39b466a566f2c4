-- R56: what the check leaves in the lent table and list. Assumes nothing: these are definitions.
use Rattle.std.specs.Prelude.{◌≡◌, Bool, true, false, List, ℕ, ◌*◌, ◌≤◌, length, take, replicate}
use Rattle.base_lists.specs.Lists.{in_front}
use Rattle.plan_format.specs.Sizes.{most_operations, row_width}

-- sixteen numbers of the table and two of the list for each operation
pub record ResultsRoom (n : ℕ) (table list : List ℕ) : Type 0 where
  pub few : n ≤ most_operations
  pub in_table : row_width * n ≤ length table
  pub in_list : 2 * n ≤ length list

-- rows, if there are so many, over the front of the table, the list as it is; or zeros over the front of both
pub record ResultsLeft (passed : Bool) (n : ℕ) (rows table table_now list list_now : List ℕ) : Type 0 where
  pub long : passed ≡ true → row_width * n ≤ length rows
  pub passed_table : passed ≡ true → table_now ≡ in_front (take (row_width * n) rows) table
  pub passed_list : passed ≡ true → list_now ≡ list
  pub refused_table : passed ≡ false → table_now ≡ in_front (replicate (row_width * n) 0) table
  pub refused_list : passed ≡ false → list_now ≡ in_front (replicate (2 * n) 0) list
