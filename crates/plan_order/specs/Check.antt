-- The check of a plan: refusals 9, 10, 17 and 11, what a call tells and what it leaves in table and list. Assumes
-- nothing: these are definitions.
use Rattle.std.specs.Prelude.{◌≡◌, cond, List, ℕ, ◌*◌, length, replicate}
use Rattle.std.proofs.Math.Option.{Option, none, some}
use Rattle.base_lists.specs.Lists.{in_front}
use Rattle.plan_format.specs.Sizes.{row_width}
use Rattle.plan_format.specs.Refusal.{Refusal, refusal, none_given, given, or_refusal}
use Rattle.plan_format.specs.Plan.{Plan, count}
use Rattle.plan_format.specs.Sound.{rules_refusal}
use Rattle.plan_format.specs.Stored.{plan_in, plan_refusal, room_for, Tells}
use Rattle.plan_format.specs.declared.Told.{Told}
use Rattle.plan_order.specs.Rows.{rows}
use Rattle.plan_order.specs.Runs.{missing, run_list}
use Rattle.plan_order.specs.Holdings.{broken}
use Rattle.plan_order.specs.Handovers.{disordered}

-- R46, refusal 9: sixteen numbers of the table and two of the run list for each operation; R55: the table first
unfoldable pub room_refusal : (n table list : ℕ) → Refusal
room_refusal n t l = or_refusal (room_for (row_width * n) t) (room_for (2 * n) l)

unfoldable pub refused_at : (number : ℕ) → (place : Option ℕ) → (otherwise : Refusal) → Refusal
refused_at n none r = r
refused_at n (some i) r = refusal n i

-- R47, R94, R48: 10 at the lowest operation that no run has, then 17 at the lowest with a signal out of turn, then 11
-- at the lowest with a broken mark
unfoldable pub order_refusal : Plan → Refusal
order_refusal p = refused_at 10 (missing p) (refused_at 17 (disordered p) (refused_at 11 (broken p) none_given))

-- R56: what is left in table and list
pub data Leaves : Type 0 where
  untouched : Leaves
  zeros : Leaves
  rows_and_run : Leaves

pub record Outcome : Type 0 where
  pub refusal : Refusal
  pub leaves : Leaves

unfoldable pub outcome : Refusal → Leaves → Outcome
outcome f l = record { refusal = f; leaves = l }

-- the first of two whose refusal is given, else the second
unfoldable pub or_then : Outcome → Outcome → Outcome
or_then a b = cond (given a.refusal) a b

-- R55, the order of 9 and those of the order, each with what it leaves by R56; a pass leaves rows and run
abbrev pub order_outcome : Plan → (table list : ℕ) → Outcome
order_outcome p t l =
    or_then (outcome (room_refusal (count p) t l) untouched)
    (or_then (outcome (order_refusal p) zeros) (outcome none_given rows_and_run))

-- R53 to R55: the plan first
unfoldable pub check_outcome : (bytes : List ℕ) → (table list : ℕ) → Outcome
check_outcome bs t l = or_then (outcome (plan_refusal bs) untouched) (order_outcome (plan_in bs) t l)

-- the same for a plan that the reader takes, whatever its bytes
unfoldable pub plan_outcome : Plan → (table list : ℕ) → Outcome
plan_outcome p t l = or_then (outcome (rules_refusal p) untouched) (order_outcome p t l)

-- R56: the front holds zeros or what is new, and what is past it stays
unfoldable pub left_in : Leaves → (size : ℕ) → (new old : List ℕ) → List ℕ
left_in untouched k new old = old
left_in zeros k new old = in_front (replicate k 0) old
left_in rows_and_run k new old = in_front new old

unfoldable pub table_left : Leaves → Plan → (table : List ℕ) → List ℕ
table_left l p t = left_in l (row_width * count p) (rows p) t

unfoldable pub list_left : Leaves → Plan → (list : List ℕ) → List ℕ
list_left l p t = left_in l (2 * count p) (run_list p) t

-- what a call on a plan hands back and leaves
pub record Says (o : Outcome) (answer : ℕ) (p : Plan) (r : Told) (table table_now list list_now : List ℕ) : Type 0 where
  pub tells : Tells o.refusal answer r
  pub table_holds : table_now ≡ table_left o.leaves p table
  pub list_holds : list_now ≡ list_left o.leaves p list

unfoldable pub PlanCheckSays : Plan → Told → (table table_now list list_now : List ℕ) → Type 0
PlanCheckSays p r t x l y = Says (plan_outcome p (length t) (length l)) 0 p r t x l y

unfoldable pub CheckSays : (bytes : List ℕ) → Told → (table table_now list list_now : List ℕ) → Type 0
CheckSays bs r t x l y = Says (check_outcome bs (length t) (length l)) 0 (plan_in bs) r t x l y
