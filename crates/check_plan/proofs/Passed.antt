-- What is known once the check has passed a plan: it is sound, its counts are those handed back, and its rows are in
-- front of the table. Assumes nothing.
use mathlib.Core.Path.{◌≡◌, sym, ap, ◌∙◌, subst}
use mathlib.Core.List.{List}
use Prim.Native.Nat.{ℕ, ◌+◌, ◌*◌, ◌<◌}
use native.Mathlib.Omega.{arith}
use lib.ListN.{length}
use Rattle.base_lists.specs.Lists.{in_front}
use Rattle.base_lists.proofs.Tests.{by_cases, clash}
use Rattle.base_lists.proofs.Fronts.{front_at}
use Rattle.plan_format.specs.Sizes.{row_width}
use Rattle.plan_format.specs.Plan.{Plan, count, queues}
use Rattle.plan_format.specs.Refusal.{none_given, given}
use Rattle.plan_format.specs.Sound.{Sound, rules_refusal}
use Rattle.plan_format.specs.Stored.{scanned, plan_in, plan_refusal}
use Rattle.plan_format.specs.declared.Told.{Told}
use Rattle.plan_format.proofs.Judged.{zero_not_given, not_given_zero, or_else_none}
use Rattle.plan_format.proofs.Plans.{sound_in, scanned_limits}
use Rattle.plan_order.specs.Check.{room_refusal, order_refusal, Leaves, untouched, zeros, rows_and_run, Outcome}
use Rattle.plan_order.specs.Check.{outcome, or_then, check_outcome, left_in, table_left, CheckSays}
use Rattle.plan_order.specs.Rows.{rows}
use Rattle.plan_order.specs.Promise.{Checked}
use Rattle.plan_order.proofs.OutcomeMeaning.{passed_leaves}
use Rattle.plan_order.proofs.Rows.{row_at, rows_at, rows_length}
use Rattle.check_columns.specs.Columns.{RowColumns}
use Rattle.check_plan.specs.Counting.{SizesTold}
use Rattle.check_plan.specs.Opening.{Lent, ReadPlan, OpenedPlan}
use Rattle.check_plan.specs.declared.PlanCounts.{PlanCounts}
use Rattle.check_plan.specs.declared.Opened.{Opened}

-- ---- the outcome of a passed check
-- nothing is refused by either of two outcomes
or_then_none : (a b : Outcome) → (or_then a b).refusal.number ≡ 0 → (a.refusal.number ≡ 0) × (or_then a b ≡ b)
unfolding or_then
or_then_none a b z =
    by_cases (given a.refusal)
    (λ g. let same : or_then a b ≡ a = rw g in
    clash (given a.refusal) g
    (zero_not_given a.refusal (sym (ap (λ (o : Outcome). o.refusal.number) same) ∙ z)))
    (λ f. (not_given_zero a.refusal f, rw f))

-- a passed check refuses nothing of the plan, and nothing of its order
pub record Passes (bs : List ℕ) : Type 0 where
  pub good : (plan_refusal bs).number ≡ 0
  pub order : (order_refusal (plan_in bs)).number ≡ 0

pub passes : (bs : List ℕ) (t l : ℕ) → (check_outcome bs t l).refusal.number ≡ 0 → Passes bs
unfolding check_outcome outcome
passes bs t l z =
    let p = plan_in bs in
    let last = outcome none_given rows_and_run in
    let third = outcome (order_refusal p) zeros in
    let second = outcome (room_refusal (count p) t l) untouched in
    let first = outcome (plan_refusal bs) untouched in
    let a = or_then_none first (or_then second (or_then third last)) z in
    let b = or_then_none second (or_then third last) (sym (ap (λ (o : Outcome). o.refusal.number) a.1) ∙ z) in
    let c = or_then_none third last (sym (ap (λ (o : Outcome). o.refusal.number) (a.1 ∙ b.1)) ∙ z) in
    record { good = a.0; order = c.0 }

-- rows in front of a table
rows_in_front : (p : Plan) (t : List ℕ) → RowColumns p (λ j. j < count p) (in_front (rows p) t)
unfolding RowColumns
rows_in_front p t j q l b =
    let inside : row_width * j + q < length (rows p) = omega (arith, rows_length p) in
    front_at (rows p) t (row_width * j + q) 0 inside ∙ rows_at p j q l b ∙ sym (row_at p j q b)

module _ {bs : List ℕ} {c : PlanCounts} {r : Told} {t x l y : List ℕ} (sizes : SizesTold bs c)
    (checked : Checked bs r t x l y) (passed : r.number ≡ 0) where
  none_refused : (check_outcome bs (length t) (length l)).refusal.number ≡ 0
  unfolding CheckSays
  none_refused = sym checked.says.tells.number ∙ passed

  good : (plan_refusal bs).number ≡ 0
  good = (passes bs (length t) (length l) none_refused).good

  sound : Sound (plan_in bs)
  sound = sound_in bs good

  read : (scanned bs).fault.number ≡ 0
  unfolding plan_refusal
  read = (or_else_none (scanned bs).fault (rules_refusal (plan_in bs)) good).0

  rows_lie : x ≡ in_front (rows (plan_in bs)) t
  unfolding CheckSays table_left left_in
  rows_lie =
      checked.says.table_holds
      ∙ ap (λ (v : Leaves). table_left v (plan_in bs) t) (passed_leaves bs (length t) (length l) none_refused)

  rows_shown : RowColumns (plan_in bs) (λ j. j < count (plan_in bs)) x
  rows_shown =
      subst (λ (z : List ℕ). RowColumns (plan_in bs) (λ j. j < count (plan_in bs)) z) (sym rows_lie)
      (rows_in_front (plan_in bs) t)

  -- ---- the counts
  queues_are : c.queues ≡ queues (plan_in bs)
  unfolding queues
  queues_are = sizes.queues ∙ rw (zero_not_given (scanned bs).fault read)

  semaphores_are : c.semaphores ≡ length (plan_in bs).owners
  semaphores_are = sizes.semaphores ∙ rw (zero_not_given (scanned bs).fault read)

  buffers_are : c.buffers ≡ length (plan_in bs).sizes
  buffers_are = sizes.buffers ∙ rw (zero_not_given (scanned bs).fault read)

  operations_are : c.operations ≡ count (plan_in bs)
  operations_are = sizes.operations ∙ rw (zero_not_given (scanned bs).fault read)

  -- ---- the opened plan
  pub opened_plan : {o : Opened} {lent : Lent} → o.counted.counts ≡ c → ReadPlan (plan_in bs) o lent →
      OpenedPlan (plan_in bs) o lent x
  opened_plan same read_plan = record {
    limits = scanned_limits bs read;
    sound = sound;
    passes = (passes bs (length t) (length l) none_refused).order;
    queues_are = ap (λ (k : PlanCounts). k.queues) same ∙ queues_are;
    semaphores_are = ap (λ (k : PlanCounts). k.semaphores) same ∙ semaphores_are;
    buffers_are = ap (λ (k : PlanCounts). k.buffers) same ∙ buffers_are;
    operations_are = ap (λ (k : PlanCounts). k.operations) same ∙ operations_are;
    read = read_plan;
    sources_shown = read_plan.sources_shown sound.rules;
    rows_shown = rows_shown;
  }
