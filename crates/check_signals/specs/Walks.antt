-- R44: refusal 7 as a walk over the columns of a plan, with a table of last values. Assumes nothing: these are
-- definitions.
use Rattle.std.specs.Prelude.{◌≡◌, Bool, true, cond, ◌↔◌, List, [], ℕ, zero, suc, ◌≤◌, ◌<◌, min, leb, length, get_or}
use Rattle.std.specs.Prelude.{set}
use Rattle.plan_format.specs.Refusal.{Refusal, refusal, none_given}
use Rattle.plan_format.specs.Stored.{Tells}
use Rattle.plan_format.specs.declared.Told.{Told}
use Rattle.plan_format.specs.Plan.{Plan, count, op}
use Rattle.plan_format.specs.Sound.{highest, signals_refusal, InRange}
use Rattle.plan_order.specs.OnlyOwners.{OnlyOwners}
use Rattle.check_columns.specs.Columns.{OwnerColumn, QueueColumn, SignalColumns}

-- the columns show a plan whose operations name only what it has, and a place is lent for each of its semaphores
pub record SignalsGiven (p : Plan) (semaphores signals : ℕ) (owner queue ssem sval sop last : List ℕ) : Type 0 where
  pub own_semaphores : length p.owners ≡ semaphores
  pub room : length p.owners ≤ length last
  pub in_range : (i : ℕ) → i < count p → InRange p (op p i)
  pub owners_shown : OwnerColumn p owner
  pub queues_shown : QueueColumn p queue
  pub signals_shown : SignalColumns p signals ssem sval sop

-- the highest value signalled on each semaphore
unfoldable pub HighestColumn : Plan → (last : List ℕ) → Type 0
HighestColumn p last = (s : ℕ) → s < length p.owners → get_or last s 0 ≡ highest s p.operations

-- 7 as the rules give it, or the answer: 1 exactly if only owners signal, else 0; where 7 is not given, the last value
-- of a semaphore is its highest
pub record Judged (p : Plan) (r : Told) (last : List ℕ) : Type 0 where
  pub owned : Bool
  pub owned_means : (owned ≡ true) ↔ OnlyOwners p
  pub told : Tells (signals_refusal 0 [] p.operations) (cond owned 1 0) r
  pub highest_shown : r.number ≡ 0 → HighestColumn p last

-- nothing is signalled on the first semaphores; the places past them stay, and so does the length
unfoldable pub cleared : (semaphores : ℕ) → (last : List ℕ) → List ℕ
cleared zero last = last
cleared (suc s) last = set (cleared s last) s 0

-- 7 at the first of the signals from k on that is not above the last of its semaphore
unfoldable pub signals_walk : (ssem sval sop : List ℕ) → (left k : ℕ) → (last : List ℕ) → Refusal
signals_walk ssem sval sop zero k last = none_given
signals_walk ssem sval sop (suc left) k last =
    cond (leb (get_or sval k 0) (get_or last (get_or ssem k 0) 0)) (refusal 7 (get_or sop k 0))
    (signals_walk ssem sval sop left (suc k) (set last (get_or ssem k 0) (get_or sval k 0)))

-- the table of last values where that walk ends
unfoldable pub lasts_walk : (ssem sval : List ℕ) → (left k : ℕ) → (last : List ℕ) → List ℕ
lasts_walk ssem sval zero k last = last
lasts_walk ssem sval (suc left) k last =
    cond (leb (get_or sval k 0) (get_or last (get_or ssem k 0) 0)) last
    (lasts_walk ssem sval left (suc k) (set last (get_or ssem k 0) (get_or sval k 0)))

-- of so many signals, as many as columns of these lengths hold
unfoldable pub held_in : (signals ssem sval sop : ℕ) → ℕ
held_in signals ssem sval sop = min signals (min ssem (min sval sop))

-- 7, and the table afterwards, by the signals that the columns hold, from a table that is cleared
unfoldable pub signals_found : (semaphores signals : ℕ) → (ssem sval sop last : List ℕ) → Refusal
signals_found semaphores signals ssem sval sop last =
    signals_walk ssem sval sop (held_in signals (length ssem) (length sval) (length sop)) 0 (cleared semaphores last)

unfoldable pub lasts_found : (semaphores signals : ℕ) → (ssem sval sop last : List ℕ) → List ℕ
lasts_found semaphores signals ssem sval sop last =
    lasts_walk ssem sval (held_in signals (length ssem) (length sval) (length sop)) 0 (cleared semaphores last)
