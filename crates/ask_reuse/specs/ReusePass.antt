-- The verdict of the reuse question by the columns of a plan and its rows: by the last mark on the buffer alone.
-- Assumes nothing: these are definitions.
use Rattle.std.specs.Prelude.{◌≡◌, Bool, false, ◌&&◌, cond, Some, None, List, ℕ, ◌/◌, ◌%◌, ◌≤◌, ◌<◌, ltb, eqb, length}
use Rattle.std.specs.Prelude.{get_or}
use Rattle.std.specs.Prelude as given
use Rattle.std.proofs.Math.Option.{Option, none, some}
use Rattle.base_lists.specs.Lists.{highest_below}
use Rattle.plan_format.specs.Sizes.{most_buffers, most_operations}
use Rattle.plan_format.specs.Plan.{Plan, count, queues}
use Rattle.plan_format.specs.Sound.{Sound}
use Rattle.plan_order.specs.Holdings.{Placed, buffer_marks}
use Rattle.plan_format.specs.Stored.{Tells}
use Rattle.plan_format.specs.declared.Told.{Told}
use Rattle.plan_order.specs.Reuse.{last_mark, verdict, number_of, question_refusal}
use Rattle.plan_order.specs.Meaning.{Forced}
use Rattle.plan_order.specs.declared.Verdict.{Verdict}
use Rattle.plan_order.specs.declared.Verdict.TheVariants.{Fresh, Reusable, Held, NotOrdered}
use Rattle.check_columns.specs.Columns.{QueueColumn, MarkColumns, RowColumns}
use Rattle.check_columns.specs.Shown.{mark_codes, ordered}
use Rattle.check_plan.specs.Counting.{outcome_told}
use Rattle.check_plan.specs.declared.PlanCounts.{PlanCounts}
use Rattle.check_plan.specs.declared.Opened.{Opened}
use Rattle.check_plan.specs.Opening.{Lent}
use Rattle.ask_reuse.specs.declared.Judged.{Judged}

-- a sound plan without broken marks, shown by columns, and its rows
pub record VerdictGiven (p : Plan) (n marks : ℕ) (queue mark operation rows : List ℕ) : Type 0 where
  pub sound : Sound p
  pub many : count p ≡ n
  pub few_buffers : length p.sizes ≤ most_buffers
  pub forced : (b k : ℕ) → b < length p.sizes → k < length (buffer_marks p b) → Forced p b k
  pub queues_shown : QueueColumn p queue
  pub marks_shown : MarkColumns p marks mark operation
  pub rows_shown : RowColumns p (λ j. j < count p) rows

-- the same with the plan's counts
pub record QuestionGiven (p : Plan) (c : PlanCounts) (marks : ℕ) (queue mark operation rows : List ℕ) : Type 0 where
  pub queues_are : c.queues ≡ queues p
  pub buffers_are : c.buffers ≡ length p.sizes
  pub shown : VerdictGiven p c.operations marks queue mark operation rows

-- R58: the queue's last operation, of n
unfoldable pub last_shown : (queue : List ℕ) → (q n : ℕ) → Option ℕ
last_shown queue q n = highest_below n (λ i. eqb (get_or queue i 0) q)

-- R58: i is seen by the queue with this last operation; a queue without operations sees none, and one past 1,024 of
-- them has no row
unfoldable pub seen : (queue rows : List ℕ) → (last : Option ℕ) → (i : ℕ) → Bool
seen queue rows none i = false
seen queue rows (some last) i = ltb last most_operations && ordered queue rows i last

-- the place of the last mark on the buffer, of n
unfoldable pub last_marked : (mark : List ℕ) → (b n : ℕ) → Option ℕ
last_marked mark b n = highest_below n (λ k. eqb (get_or mark k 0 % mark_codes / 2) b)

-- R58, verdicts: by whether the last mark is a free and whether its operation is seen
unfoldable pub verdict_after : (frees seen : Bool) → Verdict
verdict_after f s = cond f (cond s Reusable NotOrdered) Held

-- the verdict by the place of the last mark
unfoldable pub verdict_at : (seen : ℕ → Bool) → (mark operation : List ℕ) → (place : Option ℕ) → Verdict
verdict_at f mark operation none = Fresh
verdict_at f mark operation (some k) =
    verdict_after (eqb (get_or mark k 0 % mark_codes % 2) 1) (f (get_or operation k 0 % most_operations))

-- the operation of the last mark
unfoldable pub marked_by : (operation : List ℕ) → (place : Option ℕ) → given.Option ℕ
marked_by operation none = None
marked_by operation (some k) = Some (get_or operation k 0 % most_operations)

-- both, by the place of the last mark, and by the columns
unfoldable pub judged_at : (seen : ℕ → Bool) → (mark operation : List ℕ) → (place : Option ℕ) → Judged
judged_at f mark operation k =
    record { verdict = verdict_at f mark operation k; operation = marked_by operation k }

unfoldable pub judged_by : (queue mark operation rows : List ℕ) → (q b n marks : ℕ) → Judged
judged_by queue mark operation rows q b n marks =
    judged_at (seen queue rows (last_shown queue q n)) mark operation (last_marked mark b marks)

-- of a plan that is shown: its verdict, and the operation of the last mark on the buffer, where there is one
pub record JudgedRight (p : Plan) (q b : ℕ) (r : Judged) : Type 0 where
  pub verdict : r.verdict ≡ verdict p q b
  pub operation : (m : Placed) → last_mark (buffer_marks p b) ≡ some m → (r.operation ≡ Some m.by) × (m.by < count p)

-- R57, what is handed back for an opened plan: the check's refusal, or what the question says of a plan that passes
pub record AnswerGiven (q b : ℕ) (o : Opened) (c : Lent) (rows : List ℕ) (r : Told) : Type 0 where
  pub refused : ((outcome_told o.counted.outcome).number ≡ 0 → ⊥) → r ≡ outcome_told o.counted.outcome
  pub answered : (outcome_told o.counted.outcome).number ≡ 0 → (p : Plan) →
      QuestionGiven p o.counted.counts o.marks c.queue c.mark c.mark_operation rows →
      Tells (question_refusal p q b) (number_of (verdict p q b)) r
