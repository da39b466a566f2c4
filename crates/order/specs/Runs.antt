-- Runs over the numbers below n: lists of distinct numbers, each enabled by what is before it. A run that has all
-- of them is a linear extension of whatever order enabling means. Assumes nothing: these are definitions.
use Rattle.std.specs.Prelude.{Bool, true, ◌&&◌, not, cond, List, [], ◌∷◌, ◌++◌, ℕ, suc, ltb, eqb}
use Rattle.base_lists.specs.Lists.{member}

-- j may come next: it is below n, not done, and enabled by what is done
unfoldable pub can : (n : ℕ) → (enabled : List ℕ → ℕ → Bool) → (done : List ℕ) → (j : ℕ) → Bool
can n e r j = (ltb j n && not (member j r)) && e r j

-- each of the rest may come next at its turn
unfoldable pub runs : (n : ℕ) → (enabled : List ℕ → ℕ → Bool) → (done rest : List ℕ) → Bool
runs n e r [] = true
runs n e r (j ∷ js) = can n e r j && runs n e (r ++ (j ∷ [])) js

-- the first place at which j is, counted from a start; past the end where it does not
unfoldable pub step_of : (start : ℕ) → List ℕ → (j : ℕ) → ℕ
step_of a [] j = a
step_of a (i ∷ is) j = cond (eqb i j) a (step_of (suc a) is j)
