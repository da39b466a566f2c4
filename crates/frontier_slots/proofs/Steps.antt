-- The steps of the walks that judge the form of slots. Assumes nothing.
use mathlib.Core.Path.{◌≡◌, refl, ap}
use mathlib.Core.Bool.{true, false, not, ◌&&◌, ◌||◌}
use mathlib.Core.List.{List}
use Prim.Native.Nat.{ℕ, zero, suc, ◌+◌, ◌-◌, ◌≤◌, ◌<◌}
use native.Mathlib.Numerals.{add-one}
use native.Mathlib.Omega.{arith}
use lib.Dec.{ltb, leb, eqb}
use lib.ListN.{get_or}
use Rattle.base_lists.proofs.Tests.{by_cases, and_left, and_right}
use Rattle.frontier_slots.specs.Entries.{rising_from}
use Rattle.frontier_slots.specs.Slots.{slot, slots, rest, floor, placed}
use Rattle.frontier_slots.proofs.Slots.{rest_all, rest_more, rest_none}

-- as the code asks it: first the epoch, then whether there is a slot before
pub placed_by : (xs es : List ℕ) (i : ℕ) →
    placed xs es i ≡ (not (eqb (get_or es i 0) 0) && (eqb i 0 || ltb (get_or xs (i - 1) 0) (get_or xs i 0)))
unfolding placed floor
placed_by xs es zero = grind arith
placed_by xs es (suc i) = grind arith

pub rising_start : (xs es : List ℕ) (n : ℕ) →
    rising_from (floor xs 0) (rest xs es n 0) ≡ rising_from 0 (slots xs es n 0)
unfolding floor
rising_start xs es n = ap (rising_from 0) (rest_all xs es n)

pub rising_more : (xs es : List ℕ) (n i : ℕ) → i < n → placed xs es i ≡ true →
    rising_from (floor xs i) (rest xs es n i) ≡ rising_from (floor xs (i + 1)) (rest xs es n (i + 1))
unfolding placed rising_from slot
rising_more xs es n i h p =
    rw (
      rest_more xs es n i h,
      and_left (leb (floor xs i) (get_or xs i 0)) _ p,
      and_right (leb (floor xs i) (get_or xs i 0)) _ p,
    )
    (ap (λ k. rising_from k (rest xs es n (i + 1))) (next i))
  where
    next : (i : ℕ) → suc (get_or xs i 0) ≡ floor xs (i + 1)
    next i = rw (add-one i) (unfold floor in refl)

pub rising_stop : (xs es : List ℕ) (n i : ℕ) → i < n → placed xs es i ≡ false →
    rising_from (floor xs i) (rest xs es n i) ≡ false
unfolding placed rising_from slot
rising_stop xs es n i h p =
    rw (rest_more xs es n i h)
    (by_cases (leb (floor xs i) (get_or xs i 0))
    (λ t. let q : ltb 0 (get_or es i 0) ≡ false = rw t at p in rw (t, q))
    (λ t. rw t))

pub rising_end : (xs es : List ℕ) (n i b : ℕ) → n ≤ i → rising_from b (rest xs es n i) ≡ true
unfolding rising_from
rising_end xs es n i b h = rw (rest_none xs es n i h)

-- the walk over rising slots
pub ruleset rising_steps = (rising_start, rising_more, rising_stop, rising_end)
