-- R74: a word as a number in decimal. Assumes nothing: these are definitions.
use Rattle.std.specs.Prelude.{Bool, false, cond, List, [], ◌∷◌, ℕ, ◌+◌, ◌*◌, ◌-◌, ltb, leb, Option, Some, None}
use Rattle.std.specs.Prelude.{Result, Ok, Err}
use Rattle.base_lists.specs.Lists.{all}
use Rattle.base_decimal.specs.declared.NoNumber.{NoNumber}
use Rattle.base_decimal.specs.declared.NoNumber.TheVariants.{TooLarge, NotDecimal}

-- a byte that is `0` to `9` in ASCII
abbrev pub digit_test : ℕ → Bool
digit_test b = cond (ltb b 48) false (leb b 57)

-- its value; none for any other byte
unfoldable pub digit_value : ℕ → Option ℕ
digit_value b = cond (digit_test b) (Some (b - 48)) None

-- the number that digits give after those of v
unfoldable pub value_after : (v : ℕ) → List ℕ → ℕ
value_after v [] = v
value_after v (b ∷ bs) = value_after (10 * v + (b - 48)) bs

-- a number that may be over its limit
unfoldable pub limited : (limit v : ℕ) → Result ℕ NoNumber
limited limit v = cond (ltb limit v) (Err TooLarge) (Ok v)

-- a word: its digits' number where it has some and nothing else
unfoldable pub word_of : (limit : ℕ) → List ℕ → Result ℕ NoNumber
word_of limit [] = Err NotDecimal
word_of limit (b ∷ bs) = cond (all digit_test (b ∷ bs)) (limited limit (value_after 0 (b ∷ bs))) (Err NotDecimal)

-- the value so far; none from 2^64 on
unfoldable pub digits_of : ℕ → Option ℕ
digits_of v = cond (ltb 18446744073709551615 v) None (Some v)

-- one digit more; none stays none
unfoldable pub more_of : Option ℕ → (unit : ℕ) → Option ℕ
more_of None u = None
more_of (Some v) u = digits_of (10 * v + u)
