-- R69: the question on a plan that passes, and its rows as they lie: the axes among the numbers of a head, the epochs
-- in the table. Assumes nothing: these are definitions.
use Rattle.std.specs.Prelude.{◌≡◌, false, cond, List, [], ℕ, ◌+◌, ◌<◌, get_or}
use Rattle.base_lists.specs.Lists.{tabulate_from}
use Rattle.frontier_slots.specs.declared.Entry.{Entry}
use Rattle.frontier.specs.Frontiers.{pack}
use Rattle.plan_format.specs.Plan.{Plan, count, queues}
use Rattle.plan_format.specs.Refusal.{given}
use Rattle.plan_format.specs.Sound.{Sound}
use Rattle.plan_format.specs.Stored.{Tells}
use Rattle.check_columns.specs.Columns.{HeadColumn, RowColumns}
use Rattle.check_plan.specs.Counting.{outcome_told}
use Rattle.check_plan.specs.declared.Counted.{Counted}
use Rattle.check_plan.specs.declared.PlanCounts.{PlanCounts}
use Rattle.ask_frontier.specs.declared.Sent.{Sent}
use Rattle.ask_frontier.specs.Sent.{sent, sent_refusal, told}

-- a sound plan with its counts, its axes and its rows
pub record SentGiven (p : Plan) (c : PlanCounts) (head table : List ℕ) : Type 0 where
  pub sound : Sound p
  pub queues_are : c.queues ≡ queues p
  pub operations_are : c.operations ≡ count p
  pub head_shown : HeadColumn p head
  pub rows_shown : RowColumns p (λ j. j < count p) table

-- what is handed back for a plan that passes: 21, or 15, or the frontier sent out
pub record SentTells (p : Plan) (j capacity : ℕ) (r : Sent) : Type 0 where
  pub tells : Tells (sent_refusal p j capacity) 0 (told r)
  pub frontier_is : r.frontier ≡ cond (given (sent_refusal p j capacity)) (pack [] false) (sent p j capacity)

-- R70, what is handed back for an opened plan: the check's refusal, or what the question says of a plan that passes
pub record FrontierGiven (j capacity : ℕ) (c : Counted) (head table : List ℕ) (r : Sent) : Type 0 where
  pub refused : ((outcome_told c.outcome).number ≡ 0 → ⊥) →
      r ≡ record {
        number = (outcome_told c.outcome).number;
        place = (outcome_told c.outcome).place;
        frontier = pack [] false;
      }
  pub answered : (outcome_told c.outcome).number ≡ 0 → (p : Plan) → SentGiven p c.counts head table →
      SentTells p j capacity r

-- the entries of so many queues from one on, of the row that begins at `first` in the table; the axes come after their
-- count
unfoldable pub row_in : (head table : List ℕ) → (first many start : ℕ) → List Entry
row_in head table first many start =
    tabulate_from many start (λ q. record { axis = get_or head (1 + q) 0; epoch = get_or table (first + q) 0 })
