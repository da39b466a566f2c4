-- What is said of a list that was tried in the first form and, where that refused, in the second. Assumes nothing:
-- these are definitions.
use Rattle.std.specs.Prelude.{◌≡◌, List, ℕ, ◌≤◌, length, take}
use Rattle.plan_format.specs.Sizes.{plan_bytes}
use Rattle.plan_format.specs.Stored.{listed, spelled, Tells}
use Rattle.plan_format.specs.declared.Told.{Told}

-- R8, R10: the refusal of the list, or the length of its bytes, which are in front of the array
pub record Tried (xs : List ℕ) (r : Told) (bytes_now : List ℕ) : Type 0 where
  pub told : Tells (listed xs).fault (length (spelled xs)) r
  pub front : r.number ≡ 0 → take (length (spelled xs)) bytes_now ≡ spelled xs
  pub few : r.answer ≤ plan_bytes
  pub long : length bytes_now ≡ plan_bytes
