-- `in_first_form` meets its contract: the reader's refusal of the head, or the check in columns that have room.
-- Assumes nothing.
use mathlib.Core.Path.{sym, ◌∙◌}
use Rattle.plan_format.proofs.Telling.{tells_as}
use Rattle.plan_order.proofs.Checks.{checked}
use Rattle.stored_numbers.proofs.Fields.{reason_given}
use Rattle.check_plan.proofs.Told.{not_read}
use Rattle.check_plan.proofs.Columns.{head_known, in_first, head_loads, no_columns}
use Rattle.check_plan.proofs.in_first_form.Goals as goal

pub returns-in-Err : goal.returns-in-Err
returns-in-Err c =
    let l = head_loads c.in-Err.stop (in_first c.requires c.in-Err.ensures.means) no_columns in
    rw (c.unread.ensures, c.at.ensures) (record {
      checked = checked _ _ _ _ _ _ (not_read _ _ _ _ (tells_as l.number l.place) (reason_given c.in-Err.stop.reason));
      sizes = l.sizes;
    })

pub by_room-requires : goal.by_room-requires
by_room-requires c =
    head_known (c.in-Ok.ensures.form ∙ sym c.requires) (in_first c.requires c.in-Ok.ensures.means)
