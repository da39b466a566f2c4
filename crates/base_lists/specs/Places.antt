-- Where a number is in a list, and how many numbers have a property, by quantifiers. Assumes nothing: these are
-- definitions.
use Rattle.std.specs.Prelude.{◌≡◌, List, ℕ, ◌<◌, length, get_or}

-- i is at one of the first k places
abbrev pub Among : (xs : List ℕ) → (k i : ℕ) → Type 0
Among xs k i = (l : ℕ) × (l < k) × (get_or xs l 0 ≡ i)

-- so many numbers have a property: they are the elements of a list of that length, each once
pub record Counts (P : ℕ → Type 0) (many : ℕ) : Type 0 where
  pub list : List ℕ
  pub long : length list ≡ many
  pub once : (k l : ℕ) → k < l → l < many → get_or list k 0 ≡ get_or list l 0 → ⊥
  pub only : (k : ℕ) → k < many → P (get_or list k 0)
  pub every : (i : ℕ) → P i → Among list many i
