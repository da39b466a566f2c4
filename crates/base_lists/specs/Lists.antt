-- Lists of numbers: membership, counting, searching and tabulating. Every other crate's definitions are made of these.
-- Assumes nothing.
use Rattle.std.specs.Prelude.{Bool, true, false, ◌&&◌, ◌||◌, cond, List, [], ◌∷◌, ◌++◌, ℕ, zero, suc, ◌+◌, eqb}
use Rattle.std.specs.Prelude.{length, drop}
use Rattle.std.proofs.Math.Option.{Option, none, some, or_else}

unfoldable pub member : ℕ → List ℕ → Bool
member v [] = false
member v (x ∷ xs) = eqb x v || member v xs

-- the elements that pass a test
unfoldable pub filter {ℓ} : {A : Type ℓ} → (A → Bool) → List A → List A
filter f [] = []
filter f (x ∷ xs) = cond (f x) (x ∷ filter f xs) (filter f xs)

-- every element passes a test
unfoldable pub all {ℓ} : {A : Type ℓ} → (A → Bool) → List A → Bool
all f [] = true
all f (x ∷ xs) = f x && all f xs

-- how many numbers below n pass a test
unfoldable pub tally : (n : ℕ) → (ℕ → Bool) → ℕ
tally zero f = 0
tally (suc n) f = cond (f n) 1 0 + tally n f

-- every number below n passes a test
unfoldable pub all_below : (n : ℕ) → (ℕ → Bool) → Bool
all_below zero f = true
all_below (suc n) f = f n && all_below n f

-- the first answer that f gives at start, start + 1, ..
unfoldable pub first_from {ℓ} : {A : Type ℓ} → (left start : ℕ) → (ℕ → Option A) → Option A
first_from zero i f = none
first_from (suc k) i f = or_else (f i) (first_from k (suc i) f)

abbrev pub first_below {ℓ} : {A : Type ℓ} → (n : ℕ) → (ℕ → Option A) → Option A
first_below n f = first_from n 0 f

unfoldable pub when_true : Bool → ℕ → Option ℕ
when_true b i = cond b (some i) none

-- the lowest number below n that passes a test
abbrev pub lowest_below : (n : ℕ) → (ℕ → Bool) → Option ℕ
lowest_below n f = first_below n (λ i. when_true (f i) i)

-- the highest number below n that passes a test
unfoldable pub highest_below : (n : ℕ) → (ℕ → Bool) → Option ℕ
highest_below zero f = none
highest_below (suc n) f = cond (f n) (some n) (highest_below n f)

-- the place that is found, or n where there is none
unfoldable pub place_or : (n : ℕ) → Option ℕ → ℕ
place_or n none = n
place_or n (some i) = i

unfoldable pub is_some {ℓ} : {A : Type ℓ} → Option A → Bool
is_some none = false
is_some (some a) = true

-- f start ∷ f (start + 1) ∷ ..
unfoldable pub tabulate_from {ℓ} : {A : Type ℓ} → (many start : ℕ) → (ℕ → A) → List A
tabulate_from zero i f = []
tabulate_from (suc k) i f = f i ∷ tabulate_from k (suc i) f

-- f start ++ f (start + 1) ++ ..
unfoldable pub join_from {ℓ} : {A : Type ℓ} → (many start : ℕ) → (ℕ → List A) → List A
join_from zero i f = []
join_from (suc k) i f = f i ++ join_from k (suc i) f

-- a list written over the front of another
unfoldable pub in_front {ℓ} : {A : Type ℓ} → (new old : List A) → List A
in_front new old = new ++ drop (length new) old
