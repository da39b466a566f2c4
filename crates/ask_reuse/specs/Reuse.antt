-- What a caller of the reuse question gets. Assumes nothing: these are definitions.
use Rattle.std.specs.Prelude.{◌≡◌, true, ◌↔◌, List, ℕ, ◌≤◌, length}
use Rattle.plan_format.specs.Stored.{plan_in}
use Rattle.plan_format.specs.declared.Told.{Told}
use Rattle.plan_order.specs.Reuse.{reuse_outcome, ReuseSays}
use Rattle.plan_order.specs.FiveVerdicts.{five_verdict}
use Rattle.plan_order.specs.Check.{Outcome, rows_and_run}
use Rattle.plan_order.specs.Meaning.{QuestionMeans, VerdictTable, FreeUnseen, LeftMeans}
use Rattle.plan_order.specs.AsBefore.{JudgesAsBefore}
use Rattle.plan_order.specs.Promise.{Safe, unrefused}

-- the outcome of the question in lent table and list
abbrev pub reuse_outcome_in : (bytes : List ℕ) → (q b : ℕ) → (table list : List ℕ) → Outcome
reuse_outcome_in bs q b t l = reuse_outcome bs q b (length t) (length l)

-- R57, R58: what it hands back and leaves, by its definition, by quantifiers and by index; each line of the table of
-- verdicts as an iff
pub record ReuseAsked (bytes : List ℕ) (q b : ℕ) (r : Told) (table table_now list list_now : List ℕ) : Type 0 where
  pub says : ReuseSays bytes q b r table table_now list list_now
  -- the number and the place are those of the outcome of which `means` speaks
  pub number : r.number ≡ (reuse_outcome_in bytes q b table list).refusal.number
  pub place : r.place ≡ (reuse_outcome_in bytes q b table list).refusal.place
  pub means : QuestionMeans bytes q b (length table) (length list) (reuse_outcome_in bytes q b table list)
  -- R57, R56: rows and run are left, by an answer or a refusal of the question, exactly where the plan passes
  pub passed :
      ((reuse_outcome_in bytes q b table list).leaves ≡ rows_and_run) ↔
      ((unrefused bytes (length table) (length list) ≡ true) × Safe (plan_in bytes))
  pub left : LeftMeans (plan_in bytes) (reuse_outcome_in bytes q b table list).leaves table table_now list list_now
  pub answer : r.number ≡ 0 → VerdictTable (plan_in bytes) q b r.answer
  pub most : r.answer ≤ 3
  -- R58, in a plan that passes: not ordered says that the last free is not seen
  pub not_ordered : r.number ≡ 0 → (r.answer ≡ 3) ↔ FreeUnseen (plan_in bytes) q b
  -- and each number is that of the table of five
  pub five : r.number ≡ 0 → r.answer ≡ five_verdict (plan_in bytes) q b
  pub no_answer : (r.number ≡ 0 → ⊥) → r.answer ≡ 0
  pub as_before : JudgesAsBefore bytes
