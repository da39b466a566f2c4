-- What the second form leaves as it was, said by the first form alone; kept only to show that nothing else changes.
-- Assumes nothing: these are statements.
use Rattle.std.specs.Prelude.{◌≡◌, List, ℕ, get_or}
use Rattle.plan_format.specs.Sizes.{second_lead}
use Rattle.plan_format.specs.Refusal.{or_refusal}
use Rattle.plan_format.specs.Grammar.{bytes, numbers, Scan}
use Rattle.plan_format.specs.Form.{first_form, scanned_by, spelled_by}
use Rattle.plan_format.specs.Plan.{Plan, plan_of}
use Rattle.plan_format.specs.Sound.{rules_refusal}
use Rattle.plan_format.specs.Stored.{scanned, listed, plan_in, spelled, plan_refusal}

-- the reading in the first form
abbrev pub first_scan : List ℕ → Scan
first_scan bs = scanned_by bytes first_form bs

abbrev pub first_plan : List ℕ → Plan
first_plan bs = plan_of (first_scan bs).got

-- bytes that do not begin with the lead of the second form
abbrev pub NotSecond : List ℕ → Type 0
NotSecond bs = get_or bs 0 0 ≡ second_lead → ⊥

-- of such bytes: the reading, and with it the plan and its refusals 1 to 8 and 16, of which all that is asked of
-- a plan is made
pub record ReadAsBefore (bs : List ℕ) : Type 0 where
  pub read : scanned bs ≡ first_scan bs
  pub plan : plan_in bs ≡ first_plan bs
  pub refusal : plan_refusal bs ≡ or_refusal (first_scan bs).fault (rules_refusal (first_plan bs))

-- a list that the first form takes: it is taken, and spelled in that form
pub record WrittenAsBefore (xs : List ℕ) : Type 0 where
  pub taken : listed xs ≡ scanned_by numbers first_form xs
  pub written : spelled xs ≡ spelled_by first_form xs

-- each of given input, for a caller
abbrev pub ReadsAsBefore : List ℕ → Type 0
ReadsAsBefore bs = NotSecond bs → ReadAsBefore bs

abbrev pub WritesAsBefore : List ℕ → Type 0
WritesAsBefore xs = (scanned_by numbers first_form xs).fault.number ≡ 0 → WrittenAsBefore xs

pub record AsBefore : Type 0 where
  pub read : (bs : List ℕ) → ReadsAsBefore bs
  pub written : (xs : List ℕ) → WritesAsBefore xs
