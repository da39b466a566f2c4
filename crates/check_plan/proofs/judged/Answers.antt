-- `judged` meets its contract: the reader's refusal of an operation, or what `check_passes` says of the columns that
-- are loaded. Assumes nothing.
use mathlib.Core.Path.{refl, ◌∙◌}
use Prim.Native.Nat.{◌+◌}
use native.Mathlib.Omega.{arith}
use Rattle.plan_format.proofs.Telling.{tells_as}
use Rattle.plan_order.proofs.Checks.{checked}
use Rattle.stored_numbers.proofs.Fields.{reason_given}
use Rattle.check_load.proofs.Outcomes.{head_long}
use Rattle.check_passes.proofs.Kept.{sources_kept}
use Rattle.check_plan.proofs.Told.{not_read, read_says}
use Rattle.check_plan.proofs.Columns.{loaded_none, loaded_read, loaded_clean, loaded_given, owners_part}
use Rattle.check_plan.proofs.Left.{kept_refused, kept_judged}
use Rattle.check_plan.proofs.Passed.{opened_plan}
use Rattle.check_plan.proofs.judged.Goals as goal

pub returns-in-Err : goal.returns-in-Err
returns-in-Err c =
    let loaded = c.in-Err.ensures _ c.requires.0 in
    let l = loaded.0 in
    let bad = reason_given c.in-Err.e.reason in
    rw c.unread.ensures (record {
      checked = checked _ _ _ _ _ _ (not_read _ _ _ _ (tells_as l.number l.place) bad);
      sizes = l.sizes;
      refused = loaded_none l;
      read = loaded_read l _ (λ z. absurd (bad (l.number ∙ z)));
      opened = λ z. absurd (bad z);
      kept = kept_refused l loaded.2 _ bad;
    })

pub overflow_add-first : goal.overflow_add-first
overflow_add-first c =
    omega (arith, (head_long c.requires.0.read refl).0)

pub offset_bounds-head-first : goal.offset_bounds-head-first
offset_bounds-head-first c =
    omega (arith, (head_long c.requires.0.read refl).0)

pub slice_bounds-owner-count : goal.slice_bounds-owner-count
slice_bounds-owner-count c =
    omega (arith, (head_long c.requires.0.read refl).1)

pub slice_bounds-owner-start : goal.slice_bounds-owner-start
slice_bounds-owner-start c =
    omega (arith, (head_long c.requires.0.read refl).1)

pub returns : goal.returns
returns c =
    let loaded = c.in-Ok.ensures _ c.requires.0 in
    let l = loaded.0 in
    let owners = owners_part _ c.args.head.now (2 + c.args.h.queues) c.args.h.semaphores
    loaded.1 in
    let of_plan = c.judge_columns-outcome.ensures.of_plans _ (loaded_given l refl _ owners) in
    let whole = checked _ _ _ _ _ _ (read_says _ _ _ _ _ _ (loaded_clean l refl) of_plan.0) in
    let read = loaded_read l _ (λ _. of_plan.1) in
    rw c.with_lists.ensures (record {
      checked = whole;
      sizes = l.sizes;
      refused = loaded_none l;
      read = read;
      opened = λ z. opened_plan l.sizes whole z refl (read (loaded_clean l refl));
      kept = kept_judged l loaded.2 _ refl (sources_kept c.judge_columns-outcome.ensures.sources);
    })
