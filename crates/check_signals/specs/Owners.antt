-- Whether only owners signal, as a walk over the columns. Assumes nothing: these are definitions.
use Rattle.std.specs.Prelude.{Bool, true, ◌&&◌, List, ℕ, zero, suc, eqb, length, get_or}
use Rattle.check_signals.specs.Walks.{held_in}

module _ (owner queue ssem sop : List ℕ) where
  -- the queue of the operation of signal k owns its semaphore
  unfoldable pub owned : (k : ℕ) → Bool
  owned k = eqb (get_or owner (get_or ssem k 0) 0) (get_or queue (get_or sop k 0) 0)

  -- so it is of each of `left` signals from k on
  unfoldable pub owned_from : (left k : ℕ) → Bool
  owned_from zero k = true
  owned_from (suc left) k = owned k && owned_from left (suc k)

-- so it is of each signal that the columns hold
unfoldable pub by_owners : (signals : ℕ) → (owner queue ssem sval sop : List ℕ) → Bool
by_owners signals owner queue ssem sval sop =
    owned_from owner queue ssem sop (held_in signals (length ssem) (length sval) (length sop)) 0
