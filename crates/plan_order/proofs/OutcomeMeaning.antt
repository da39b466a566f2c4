-- What an outcome leaves in table and list; rows and run are left exactly where the plan passes. Assumes nothing.
use mathlib.Core.Path.{◌≡◌, sym, ap, ◌∙◌}
use mathlib.Core.Bool.{true}
use mathlib.Core.Logic.{◌↔◌}
use mathlib.Core.List.{List, []}
use mathlib.Core.Option.{Option, none}
use Prim.Native.Nat.{ℕ, ◌<◌}
use native.Mathlib.Omega.{arith}
use lib.ListN.{length}
use Rattle.base_lists.proofs.Tests.{either}
use Rattle.base_lists.proofs.Members.{member_nil, member_cons}
use Rattle.plan_format.specs.Plan.{Plan, count, op, queues}
use Rattle.plan_format.specs.Refusal.{refusal}
use Rattle.plan_format.specs.Stored.{plan_in, plan_refusal}
use Rattle.plan_format.specs.declared.Told.{Told}
use Rattle.plan_format.proofs.RefusalNumbers.{none_or_zero}
use Rattle.plan_format.proofs.Plans.{sound_in}
use Rattle.plan_order.specs.Check.{room_refusal, Leaves, untouched, zeros, rows_and_run, Outcome, check_outcome}
use Rattle.plan_order.specs.Check.{table_left, list_left, Says, CheckSays}
use Rattle.plan_order.specs.Meaning.{LeftMeans}
use Rattle.plan_order.specs.Promise.{Safe, unrefused, Demand3Stored, check_outcome_in}
use Rattle.plan_order.specs.Runs.{missing, standard}
use Rattle.plan_order.proofs.LeftMeaning.{table_untouched, list_untouched, table_zeros, list_zeros, table_rows}
use Rattle.plan_order.proofs.LeftMeaning.{list_run_left}
use Rattle.plan_order.proofs.Standard.{standard_full, missing_none, full_run}
use Rattle.plan_order.proofs.CheckMeaning.{CheckCase, plan_case, room_case, stuck_case, turn_case}
use Rattle.plan_order.proofs.CheckMeaning.{broken_case, pass_case, check_case, gives_of, check_means}
use Rattle.plan_order.proofs.CheckMeaning.{passed_unrefused}
use Rattle.plan_order.proofs.Promises.{demand_3_stored}

-- ---- what is left, by the outcome
pub record RunsWhole (p : Plan) : Type 0 where
  pub in_range : (j : ℕ) → j < count p → (op p j).queue < queues p
  pub full : length (standard p) ≡ count p

module _ (p : Plan) (o : Outcome) (answer : ℕ) (r : Told) (t x l y : List ℕ) (s : Says o answer p r t x l y) where
  table_is : (v : Leaves) → o.leaves ≡ v → x ≡ table_left v p t
  table_is v e = s.table_holds ∙ ap (λ (z : Leaves). table_left z p t) e

  list_is : (v : Leaves) → o.leaves ≡ v → y ≡ list_left v p l
  list_is v e = s.list_holds ∙ ap (λ (z : Leaves). list_left z p l) e

  pub left_by : (o.leaves ≡ rows_and_run → RunsWhole p) → LeftMeans p o.leaves t x l y
  left_by whole = record {
    untouched = λ e. (table_is untouched e ∙ table_untouched p t, list_is untouched e ∙ list_untouched p l);
    zeros = λ e. (rw (table_is zeros e) (table_zeros p t), rw (list_is zeros e) (list_zeros p l));
    rows_and_run = λ e. let w = whole e in (
      rw (table_is rows_and_run e) (table_rows p t),
      rw (list_is rows_and_run e)
          (list_run_left p l w.in_range w.full),
    );
  }

-- ---- of the check
runs_whole : (bs : List ℕ) → (plan_refusal bs).number ≡ 0 → ◌≡◌ {A = Option ℕ} (missing (plan_in bs)) none →
    RunsWhole (plan_in bs)
runs_whole bs good m =
    let p = plan_in bs in
    let known : (j : ℕ) → j < count p → (op p j).queue < queues p = λ j l. ((sound_in bs good).in_range j l).queue in
    record { in_range = known; full = (full_run p (standard p) (standard_full p known (missing_none p known m))).1 }

module _ (bs : List ℕ) (t l : ℕ) where
  pub passed_leaves : (check_outcome bs t l).refusal.number ≡ 0 → (check_outcome bs t l).leaves ≡ rows_and_run
  passed_leaves z = (check_means bs t l).leaves.rows_and_run.1
      (none_or_zero [] (check_outcome bs t l).refusal.number z)

  pub leaves_passed : (check_outcome bs t l).leaves ≡ rows_and_run → (check_outcome bs t l).refusal.number ≡ 0
  leaves_passed e =
      let n = (check_outcome bs t l).refusal.number in
      either (member_cons n 0 [] ((check_means bs t l).leaves.rows_and_run.0 e)) (λ z. sym z) (λ h. member_nil n h)

  case_whole : (o : Outcome) → CheckCase bs t l o → o.refusal.number ≡ 0 → RunsWhole (plan_in bs)
  unfolding refusal
  case_whole o (plan_case bad e) z = absurd (bad (sym (gives_of o (plan_refusal bs) untouched e).0.0 ∙ z))
  case_whole o (room_case good nine e) z = absurd (omega
      (arith, (gives_of o (room_refusal (count (plan_in bs)) t l) untouched e).0.0))
  case_whole o (stuck_case i good enough m e) z = absurd (omega (arith, (gives_of o (refusal 10 i) zeros e).0.0))
  case_whole o (turn_case i good enough m d e) z = absurd (omega (arith, (gives_of o (refusal 17 i) zeros e).0.0))
  case_whole o (broken_case i good enough m d b e) z = absurd (omega (arith, (gives_of o (refusal 11 i) zeros e).0.0))
  case_whole o (pass_case good enough m d b e) z = runs_whole bs good m

  -- where rows and run are left, the standard run is full
  pub whole_run : (check_outcome bs t l).leaves ≡ rows_and_run → RunsWhole (plan_in bs)
  whole_run e = case_whole (check_outcome bs t l) (check_case bs t l) (leaves_passed e)

  -- and they are left exactly where the plan passes
  pub passed_safe : ((check_outcome bs t l).leaves ≡ rows_and_run) ↔ ((unrefused bs t l ≡ true) × Safe (plan_in bs))
  unfolding Demand3Stored
  passed_safe = (
    (λ e. let z = leaves_passed e in let u = passed_unrefused bs t l z in (u, (demand_3_stored bs t l u).exactly.0 z)),
    (λ w. passed_leaves ((demand_3_stored bs t l w.0).exactly.1 w.1)),
  )

pub check_left : (bs : List ℕ) (r : Told) (t x l y : List ℕ) → CheckSays bs r t x l y →
    LeftMeans (plan_in bs) (check_outcome_in bs t l).leaves t x l y
unfolding CheckSays
check_left bs r t x l y s = left_by (plan_in bs) (check_outcome_in bs t l) 0 r t x l y s
    (whole_run bs (length t) (length l))
