-- The greedy run: at each step what a choice gives, until it gives nothing. Assumes nothing: these are definitions.
use Rattle.std.specs.Prelude.{List, [], ◌∷◌, ◌++◌, ℕ, zero, suc}
use Rattle.std.proofs.Math.Option.{Option, none, some}

unfoldable pub with_next : Option ℕ → List ℕ → List ℕ
with_next none r = r
with_next (some j) r = r ++ (j ∷ [])

unfoldable pub greedy : (next : List ℕ → Option ℕ) → (fuel : ℕ) → (done : List ℕ) → List ℕ
greedy next zero r = r
greedy next (suc k) r = greedy next k (with_next (next r) r)
