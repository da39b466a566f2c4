-- What a caller of the question for a wait gets. Assumes nothing: these are definitions.
use Rattle.std.specs.Prelude.{◌≡◌, true, ◌↔◌, List, ℕ, ◌<◌, length}
use Rattle.plan_format.specs.Sizes.{most_operations}
use Rattle.plan_format.specs.Plan.{count}
use Rattle.plan_format.specs.Stored.{plan_in}
use Rattle.plan_format.specs.declared.Told.{Told}
use Rattle.plan_order.specs.Check.{rows_and_run}
use Rattle.plan_order.specs.Meaning.{LeftMeans}
use Rattle.plan_order.specs.AsBefore.{JudgesAsBefore}
use Rattle.plan_order.specs.Promise.{Safe, unrefused}
use Rattle.plan_change.specs.Longer.{longer}
use Rattle.plan_suggest.specs.declared.Advice.{Advice}
use Rattle.plan_suggest.specs.declared.Advice.TheVariants.{NoneNeeded, Wait}
use Rattle.plan_suggest.specs.Numbers.{number_of}
use Rattle.plan_suggest.specs.Suggest.{suggest_outcome_in, SuggestSays}
use Rattle.plan_suggest.specs.Meaning.{OutcomeMeans, AdviceMeans, Freed}

-- what it hands back and leaves, by its definition, by quantifiers and by index
pub record SuggestRight (bytes : List ℕ) (q b : ℕ) (r : Told) (a : Advice)
    (table table_now list list_now : List ℕ) : Type 0 where
  pub says : SuggestSays bytes q b r a table table_now list list_now
  -- the number and the place are those of the outcome of which `outcome` speaks
  pub number : r.number ≡ (suggest_outcome_in bytes q b table list).refusal.number
  pub place : r.place ≡ (suggest_outcome_in bytes q b table list).refusal.place
  pub outcome : OutcomeMeans bytes q b (length table) (length list) (suggest_outcome_in bytes q b table list)
  -- rows and run are left, by an answer or a refusal of the question, exactly where the plan passes
  pub passed :
      ((suggest_outcome_in bytes q b table list).leaves ≡ rows_and_run) ↔
      ((unrefused bytes (length table) (length list) ≡ true) × Safe (plan_in bytes))
  pub left : LeftMeans (plan_in bytes) (suggest_outcome_in bytes q b table list).leaves table table_now list list_now
  pub advised : r.number ≡ 0 → AdviceMeans (plan_in bytes) q b a
  pub answer : r.answer ≡ number_of a
  pub nothing : (r.number ≡ 0 → ⊥) → a ≡ NoneNeeded
  -- R89: a plan that has room for it has what is wanted, once the operation with the wait is added
  pub freed : (s v : ℕ) → a ≡ Wait s v → count (plan_in bytes) < most_operations →
      Freed (longer (plan_in bytes) q (record { semaphore = s; value = v })) q b
  pub as_before : JudgesAsBefore bytes
