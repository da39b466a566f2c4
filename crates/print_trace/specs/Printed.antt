-- What the program prints for a recorded trace, as texts (R85). Assumes nothing: these are definitions.
use Rattle.std.specs.Prelude.{List, ◌++◌, ℕ, get_or, take, drop, replicate}
use Rattle.base_lists.specs.Lists.{join_from}
use Rattle.plan_format.specs.Sizes.{most_queues, state_size, table_numbers, list_numbers}
use Rattle.plan_trace.specs.declared.Followed.{Followed}
use Rattle.plan_trace.specs.declared.Followed.TheVariants.{Full, Unfinished, Unknown, Repeated, NotFirst, WaitNotMet}
use Rattle.plan_trace.specs.declared.Traced.{Traced}
use Rattle.plan_trace.specs.Promise.{TraceRight}
use Rattle.check_plan.specs.Counting.{SizesTold}
use Rattle.ask_trace.specs.Answer.{told}
use Rattle.ask_trace.specs.declared.TraceTold.{TraceTold}
use Rattle.base_text.specs.Ascii.{ascii}
use Rattle.base_text.specs.Text.{Puts, after_blank, or_refused}

-- the first n numbers of a list, each after a blank
unfoldable pub number_text : (list : List ℕ) → (i : ℕ) → List ℕ
number_text xs i = after_blank (get_or xs i 0)

abbrev pub numbers_text : (list : List ℕ) → (n : ℕ) → List ℕ
numbers_text xs n = join_from n 0 (number_text xs)

-- R85: the step that departs, the rule that it breaks, and its operation
unfoldable pub departs_text : (step : ℕ) → (rule : List ℕ) → (operation : ℕ) → List ℕ
departs_text k rule i = ascii "trace departs" ++ after_blank k ++ rule ++ after_blank i

-- R85: what was followed
unfoldable pub followed_text : (step : ℕ) → Followed → List ℕ
followed_text k Full = ascii "trace full"
followed_text k Unfinished = ascii "trace unfinished" ++ after_blank k
followed_text k (Unknown i) = departs_text k (ascii " unknown") i
followed_text k (Repeated i) = departs_text k (ascii " repeated") i
followed_text k (NotFirst i) = departs_text k (ascii " not-first") i
followed_text k (WaitNotMet u) = departs_text k (ascii " wait-not-met") u.operation ++ after_blank u.wait

-- R85: then a line with a number for each queue of the plan, and one with a number for each semaphore
unfoldable pub trace_text : Traced → (queues semaphores : ℕ) → (state : List ℕ) → List ℕ
trace_text x q s state =
    followed_text x.step x.followed
    ++ ascii "\nqueues" ++ numbers_text (take most_queues state) q
    ++ ascii "\nsemaphores" ++ numbers_text (drop most_queues state) s ++ ascii "\n"

-- the text of a trace held against a plan
pub record TracePrinted (bytes trace room room_now : List ℕ) (end : ℕ) : Type 0 where
  pub answer : TraceTold
  pub table : List ℕ
  pub list : List ℕ
  pub state : List ℕ
  pub right :
      TraceRight bytes trace (told answer) answer.traced (replicate table_numbers 0) table
      (replicate list_numbers 0) list
      (replicate state_size 0) state
  pub sizes : SizesTold bytes answer.counted.counts
  pub text :
      Puts (or_refused answer.counted.number answer.counted.place
      (trace_text answer.traced answer.counted.counts.queues answer.counted.counts.semaphores state)) room 0 room_now
      end
