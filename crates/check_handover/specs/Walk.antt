-- R93, R94: the first signal out of turn as a walk over the columns, with a table by semaphore of the operation that
-- signalled it last. Assumes nothing: these are definitions.
use Rattle.std.specs.Prelude.{Bool, ◌&&◌, not, cond, List, ℕ, zero, suc, ◌%◌, min, ltb, leb, length, get_or, set}
use Rattle.std.specs.Prelude.{replicate}
use Rattle.plan_format.specs.Sizes.{most_semaphores, first_semaphores, most_operations, no_operation}
use Rattle.check_columns.specs.Shown.{ordered}

-- nobody has signalled, and 1,024 means none: a place for each semaphore that a plan can have, or that one in the first
-- form can have where the plan has no more
unfoldable pub none_yet : (semaphores : ℕ) → List ℕ
none_yet semaphores = replicate (cond (leb semaphores first_semaphores) first_semaphores most_semaphores) no_operation

-- how many of the signals both columns hold
abbrev pub held : (signals : ℕ) → (ssem sop : List ℕ) → ℕ
held signals ssem sop = min signals (min (length ssem) (length sop))

module _ (queue rows : List ℕ) where
  -- operation i is neither g nor after g
  unfoldable pub unturned : (g i : ℕ) → Bool
  unturned g i = ltb g no_operation && not (ordered queue rows g i)

  module _ (ssem sop : List ℕ) where
    -- the operation of the first of `left` signals from k on that is out of turn; n where there is none. An operation
    -- is cut to its bits, which changes none in range
    unfoldable pub turn_walk : (n left k : ℕ) → (last : List ℕ) → ℕ
    turn_walk n zero k last = n
    turn_walk n (suc left) k last =
        let i = get_or sop k 0 % most_operations in
        cond (unturned (get_or last (get_or ssem k 0) 0) i) i (turn_walk n left (suc k) (set last (get_or ssem k 0) i))

    -- of the first `signals` signals, as far as both columns hold them
    unfoldable pub turns_found : (n signals : ℕ) → (last : List ℕ) → ℕ
    turns_found n signals last = turn_walk n (held signals ssem sop) 0 last

    -- none where each signal is said to be by the queue that owns its semaphore, without a look at the rows
    unfoldable pub first_unturned : (owned : Bool) → (n semaphores signals : ℕ) → ℕ
    first_unturned owned n semaphores signals = cond owned n (turns_found n signals (none_yet semaphores))
