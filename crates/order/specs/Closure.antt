-- The transitive closure of a relation on the numbers below n: by chains, and worked out in rounds. Assumes nothing:
-- these are definitions.
use Rattle.std.specs.Prelude.{◌≡◌, Bool, true, false, ◌&&◌, ◌||◌, not, cond, List, [], ◌∷◌, ℕ, zero, suc}
use Rattle.base_lists.specs.Lists.{member}

-- a chain of direct steps from i to j
pub data Chain (direct : ℕ → ℕ → Bool) : (i j : ℕ) → Type 0 where
  once : (i j : ℕ) → direct i j ≡ true → Chain direct i j
  more : (i k j : ℕ) → Chain direct i k → direct k j ≡ true → Chain direct i j

unfoldable pub any_of : (direct : ℕ → ℕ → Bool) → (i : ℕ) → List ℕ → Bool
any_of d i [] = false
any_of d i (j ∷ js) = d i j || any_of d i js

-- i is directly before j or one of xs, and not yet among xs
unfoldable pub fresh : (direct : ℕ → ℕ → Bool) → (j : ℕ) → List ℕ → (i : ℕ) → Bool
fresh d j xs i = not (member i xs) && any_of d i (j ∷ xs)

unfoldable pub round : (left i : ℕ) → (direct : ℕ → ℕ → Bool) → (j : ℕ) → List ℕ → List ℕ
round zero i d j xs = xs
round (suc k) i d j xs = round k (suc i) d j (cond (fresh d j xs i) (i ∷ xs) xs)

unfoldable pub rounds : (fuel n : ℕ) → (direct : ℕ → ℕ → Bool) → (j : ℕ) → List ℕ → List ℕ
rounds zero n d j xs = xs
rounds (suc k) n d j xs = rounds k n d j (round n 0 d j xs)

-- all numbers below n from which a chain leads to j
unfoldable pub predecessors : (n : ℕ) → (direct : ℕ → ℕ → Bool) → (j : ℕ) → List ℕ
predecessors n d j = rounds n n d j []
