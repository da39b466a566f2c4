-- What the second stored form leaves as it was, of all that is asked of a plan, said by the first form alone; kept only
-- to show that nothing else changes. Assumes nothing: these are definitions.
use Rattle.std.specs.Prelude.{◌≡◌, List, ℕ, length}
use Rattle.plan_format.specs.Stored.{plan_in}
use Rattle.plan_format.specs.AsBefore.{first_scan, first_plan, NotSecond}
use Rattle.plan_format.specs.declared.Told.{Told}
use Rattle.plan_order.specs.Check.{untouched, rows_and_run, Outcome, outcome, or_then, check_outcome}
use Rattle.plan_order.specs.Check.{plan_outcome, Says}
use Rattle.plan_order.specs.Reuse.{question_refusal, reuse_outcome}

-- R53 to R55: 1 to 5 and 16 of a reading in the first form, then what the plan decides
unfoldable pub first_outcome : (bytes : List ℕ) → (table list : ℕ) → Outcome
first_outcome bs t l = or_then (outcome (first_scan bs).fault untouched) (plan_outcome (first_plan bs) t l)

-- the outcomes of the check and of the reuse question; that of any other question is made of check and plan like this
pub record JudgedAsBefore (bs : List ℕ) : Type 0 where
  pub plan : plan_in bs ≡ first_plan bs
  pub check : (table list : ℕ) → check_outcome bs table list ≡ first_outcome bs table list
  pub reuse : (q b table list : ℕ) → reuse_outcome bs q b table list ≡
      or_then (first_outcome bs table list) (outcome (question_refusal (first_plan bs) q b) rows_and_run)

abbrev pub JudgesAsBefore : List ℕ → Type 0
JudgesAsBefore bs = NotSecond bs → JudgedAsBefore bs

-- what the check hands back and leaves
abbrev pub ChecksAsBefore : (bytes : List ℕ) → Told → (table table_now list list_now : List ℕ) → Type 0
ChecksAsBefore bs r t x l y =
    NotSecond bs → Says (first_outcome bs (length t) (length l)) 0 (first_plan bs) r t x l y
