-- Two lent rows of the table that a check leaves. Assumes nothing: these are definitions.
use Rattle.std.specs.Prelude.{◌≡◌, Bool, true, false, ◌&&◌, cond, List, [], ◌∷◌, ℕ, leb}
use Rattle.std.specs.Borrow.{Bor}

-- the lengths are equal and xs reaches ys in every place
unfoldable pub row_reaches : (xs ys : List ℕ) → Bool
row_reaches [] [] = true
row_reaches [] (y ∷ ys) = false
row_reaches (x ∷ xs) [] = false
row_reaches (x ∷ xs) (y ∷ ys) = leb y x && row_reaches xs ys

-- R71, two lent rows: the one that is at least the other in every column, the first where they are equal, else nothing
unfoldable pub reaching_row : (first second : List ℕ) → List ℕ
reaching_row first second = cond (row_reaches first second) first (cond (row_reaches second first) second [])

-- R71: the very slice that was lent, the first where they are equal; else a part of the first that starts where it does
pub record AsItLies (first second r : Bor (List ℕ)) : Type 0 where
  pub is_first : row_reaches first.now second.now ≡ true → r ≡ first
  pub is_second : row_reaches first.now second.now ≡ false → row_reaches second.now first.now ≡ true →
      r ≡ second
  pub is_empty : row_reaches first.now second.now ≡ false → row_reaches second.now first.now ≡ false →
      (r.ref_ptr ≡ first.ref_ptr) × (r.now ≡ [])
