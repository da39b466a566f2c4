-- The four counts of a stored plan as they are handed back. Assumes nothing: these are definitions.
use Rattle.std.specs.Prelude.{◌≡◌, List, ℕ, Result, Ok, Err}
use Rattle.plan_format.specs.Stored.{scanned}
use Rattle.plan_format.specs.Told.{Refused, told_as}
use Rattle.plan_format.specs.declared.Told.{Told}
use Rattle.check_load.specs.Loading.{Sizes, ToldLoad}
use Rattle.check_plan.specs.declared.PlanCounts.{PlanCounts}
use Rattle.check_plan.specs.declared.Opened.{Opened}

-- R37, what a check tells: the number and the place of its refusal, or 0 and 0; it has no answer of its own
abbrev pub outcome_told : Result (Unit {0}) Refused → Told
outcome_told r =
    record { number = (told_as (λ _. 0) r).number; place = (told_as (λ _. 0) r).place; answer = 0 }

-- the counts of queues, semaphores, buffers and operations, each 0 where the reader refuses the plan
abbrev pub SizesTold : (bytes : List ℕ) → PlanCounts → Type 0
SizesTold bytes r = Sizes bytes r.queues r.semaphores r.buffers r.operations

-- R53, the counts, each 0 beside a refusal
abbrev pub counts_told : Result PlanCounts Refused → PlanCounts
counts_told (Ok c) = c
counts_told (Err e) = record { queues = 0; semaphores = 0; buffers = 0; operations = 0 }

-- the counts, with number and place as the reader has them
pub record CountsTold (bytes : List ℕ) (r : Result PlanCounts Refused) : Type 0 where
  pub number : (told_as (λ _. 0) r).number ≡ (scanned bytes).fault.number
  pub place : (told_as (λ _. 0) r).place ≡ (scanned bytes).fault.place
  pub sizes : SizesTold bytes (counts_told r)

-- what was loaded, and beside it what the check says
abbrev pub counts_of : ToldLoad → PlanCounts
counts_of l = record { queues = l.queues; semaphores = l.semaphores; buffers = l.buffers; operations = l.operations }

abbrev pub opened_of : ToldLoad → Result (Unit {0}) Refused → Opened
opened_of l r =
    record { counted = record { counts = counts_of l; outcome = r }; signals = l.signals; marks = l.marks }
