-- What the program prints for a check, as texts. Assumes nothing: these are definitions.
use Rattle.std.specs.Prelude.{List, [], ◌∷◌, ◌++◌, ℕ, ◌*◌, ◌≤◌, length, take, drop, replicate}
use Rattle.base_lists.specs.Lists.{join_from}
use Rattle.plan_format.specs.Sizes.{most_queues, most_operations, row_width, table_numbers, list_numbers}
use Rattle.plan_format.specs.declared.Told.{Told}
use Rattle.plan_order.specs.Promise.{Checked}
use Rattle.check_plan.specs.Counting.{outcome_told, SizesTold}
use Rattle.check_plan.specs.declared.Counted.{Counted}
use Rattle.check_plan.specs.declared.PlanCounts.{PlanCounts}
use Rattle.base_text.specs.Ascii.{ascii}
use Rattle.base_text.specs.Text.{Puts, decimal, blanked, spaced, or_refused}

-- R72: the counts in the order of their sections
unfoldable pub sizes_text : PlanCounts → List ℕ
sizes_text c = ascii "passed 0\nsize " ++ spaced (c.queues ∷ c.semaphores ∷ c.buffers ∷ c.operations ∷ [])

-- R72: the run and the ready numbers; without operations only the words
unfoldable pub runs_text : (n : ℕ) → (list : List ℕ) → List ℕ
runs_text n l = (ascii "\nrun" ++ blanked (take n l)) ++ (ascii "\nready" ++ blanked (take n (drop n l))) ++ ascii "\n"

-- R72: an operation, and its row's columns for the queues
unfoldable pub row_text : (queues : ℕ) → (table : List ℕ) → (i : ℕ) → List ℕ
row_text q t i = decimal i ++ (ascii ":" ++ blanked (take q (drop (row_width * i) t))) ++ ascii "\n"

-- R72, the text of a pass: counts, run and ready numbers, rows
unfoldable pub passed_text : PlanCounts → (table list : List ℕ) → List ℕ
passed_text c t l = sizes_text c ++ runs_text c.operations l ++ join_from c.operations 0 (row_text c.queues t)

-- counts within their limits, and a table with room for the rows of every plan
pub record RowsInside (operations queues : ℕ) (table : List ℕ) : Type 0 where
  pub few_operations : operations ≤ most_operations
  pub few_queues : queues ≤ most_queues
  pub table_long : table_numbers ≤ length table

-- number and place of a check, beside its counts
abbrev pub told_of : Counted → Told
told_of c = outcome_told c.outcome

-- the text of a check, to which room for the rows and the run of every plan is lent
pub record CheckPrinted (bytes room room_now : List ℕ) (end : ℕ) : Type 0 where
  pub counted : Counted
  pub table : List ℕ
  pub list : List ℕ
  pub checked : Checked bytes (told_of counted) (replicate table_numbers 0) table (replicate list_numbers 0) list
  pub sizes : SizesTold bytes counted.counts
  pub text : Puts (or_refused (told_of counted).number (told_of counted).place
      (passed_text counted.counts table list)) room 0
      room_now end
