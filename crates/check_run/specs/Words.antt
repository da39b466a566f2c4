-- R28, words of bits: a set of queues in one number. Assumes nothing: these are definitions.
use Rattle.std.specs.Prelude.{◌≡◌, Bool, true, false, ℕ, zero, suc, ◌-◌, ◌/◌, ◌%◌, ◌^◌, ◌<◌, eqb}
use Rattle.plan_format.specs.Sizes.{most_queues}

-- bit q of a word, the lowest being bit 0
unfoldable pub has : (word q : ℕ) → Bool
has m zero = eqb (m % 2) 1
has m (suc q) = has (m / 2) q

pub record LowestBit (word q : ℕ) : Type 0 where
  pub there : has word q ≡ true
  pub lower : (i : ℕ) → i < q → has word i ≡ false

-- the word with a bit for every queue
abbrev pub all_queues : ℕ
all_queues = 2 ^ most_queues - 1
