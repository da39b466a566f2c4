-- What a reader of stored plans relies on beyond the definitions. Assumes nothing: these are statements.
use Rattle.std.specs.Prelude.{◌≡◌, true, ◌↔◌, List, [], ℕ, ◌≤◌, length}
use Rattle.plan_format.specs.Sizes.{plan_bytes, plan_numbers}
use Rattle.plan_format.specs.Refusal.{none_given}
use Rattle.plan_format.specs.Grammar.{scan}
use Rattle.plan_format.specs.Plan.{Plan, plan_of}
use Rattle.plan_format.specs.Stored.{all_bytes, scanned, listed, plan_in, spelled}
use Rattle.plan_format.specs.Limits.{Within, numbers_of, bytes_of}

-- R8, one string: bytes that are read as the same numbers are the same
unfoldable pub OneString : Type 0
OneString =
    (bs cs : List ℕ) → all_bytes bs ≡ true → all_bytes cs ≡ true → (scanned bs).fault.number ≡ 0 →
    (scanned cs).fault.number ≡ 0 →
    (scanned bs).got ≡ (scanned cs).got → bs ≡ cs

-- a plan is read from its bytes, and written from its numbers
pub record StoredPlan (p : Plan) : Type 0 where
  pub are_bytes : all_bytes (bytes_of p) ≡ true
  pub read : scanned (bytes_of p) ≡ scan [] (length (bytes_of p)) (numbers_of p) none_given
  pub plan_read : plan_in (bytes_of p) ≡ p
  pub taken : listed (numbers_of p) ≡ scan [] (length (numbers_of p)) (numbers_of p) none_given
  pub plan_taken : plan_of (numbers_of p) ≡ p
  pub written : spelled (numbers_of p) ≡ bytes_of p

-- R7, greatest sizes: no plan takes more bytes or numbers, and there is a plan that takes as many of both
pub record GreatestSizes : Type 0 where
  pub bytes : (p : Plan) → Within p → length (bytes_of p) ≤ plan_bytes
  pub numbers : (p : Plan) → Within p → length (numbers_of p) ≤ plan_numbers
  pub reached : (p : Plan) × Within p × (length (bytes_of p) ≡ plan_bytes) × (length (numbers_of p) ≡ plan_numbers)

-- R1 to R11: reader and writer take every plan within the limits, and nothing else
pub record TakesPlans : Type 0 where
  pub every : (p : Plan) → Within p → StoredPlan p
  pub read : (bs : List ℕ) → all_bytes bs ≡ true → ((scanned bs).fault.number ≡ 0) ↔
      (Within (plan_in bs) × (bs ≡ bytes_of (plan_in bs)))
  pub taken : (xs : List ℕ) → ((listed xs).fault.number ≡ 0) ↔ (Within (plan_of xs) × (xs ≡ numbers_of (plan_of xs)))

-- R1 to R8, of given bytes: they are taken exactly if they are those of a plan within the limits, which is the plan
-- read, in its numbers; no other bytes are read as the same numbers; and what is taken is no longer than a plan can be
pub record ReadsPlans (bs : List ℕ) : Type 0 where
  pub exactly : ((scanned bs).fault.number ≡ 0) ↔ ((p : Plan) × Within p × (bs ≡ bytes_of p))
  pub plan : (p : Plan) → Within p → bs ≡ bytes_of p → plan_in bs ≡ p
  pub numbers : (p : Plan) → Within p → bs ≡ bytes_of p → (scanned bs).got ≡ numbers_of p
  pub one_string :
      (scanned bs).fault.number ≡ 0 → (cs : List ℕ) → all_bytes cs ≡ true → (scanned cs).fault.number ≡ 0 →
      (scanned cs).got ≡ (scanned bs).got → cs ≡ bs
  pub few_bytes : (scanned bs).fault.number ≡ 0 → length bs ≤ plan_bytes
  pub few_numbers : (scanned bs).fault.number ≡ 0 → length (scanned bs).got ≤ plan_numbers

-- the like of a list of numbers: no bytes but those written are read as these numbers
pub record WritesPlans (xs : List ℕ) : Type 0 where
  pub exactly : ((listed xs).fault.number ≡ 0) ↔ ((p : Plan) × Within p × (xs ≡ numbers_of p))
  pub plan : (p : Plan) → Within p → xs ≡ numbers_of p → plan_of xs ≡ p
  pub bytes : (p : Plan) → Within p → xs ≡ numbers_of p → spelled xs ≡ bytes_of p
  pub one_string :
      (listed xs).fault.number ≡ 0 → (cs : List ℕ) → all_bytes cs ≡ true → (scanned cs).fault.number ≡ 0 →
      (scanned cs).got ≡ xs → cs ≡ spelled xs
  pub few_numbers : (listed xs).fault.number ≡ 0 → length xs ≤ plan_numbers
  pub few_bytes : (listed xs).fault.number ≡ 0 → length (spelled xs) ≤ plan_bytes
