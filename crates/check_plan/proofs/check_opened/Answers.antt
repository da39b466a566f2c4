-- `check_opened` meets its contract: the reader's refusal of the head, or what `judged` says. Assumes nothing.
use mathlib.Core.Path.{refl, ◌∙◌}
use Rattle.plan_format.proofs.Telling.{tells_as}
use Rattle.plan_order.proofs.Checks.{checked}
use Rattle.stored_numbers.proofs.Fields.{reason_given}
use Rattle.check_plan.proofs.Told.{not_read}
use Rattle.check_plan.proofs.Columns.{head_loads, no_columns}
use Rattle.check_plan.proofs.Left.{left_after, left_head}
use Rattle.check_plan.proofs.check_opened.Goals as goal

pub returns-in-Err : goal.returns-in-Err
returns-in-Err c =
    let l = head_loads c.in-Err.stop c.in-Err.ensures.means no_columns in
    let bad = reason_given c.in-Err.stop.reason in
    rw (c.unread.ensures, c.at.ensures) (record {
      checked = checked _ _ _ _ _ _ (not_read _ _ _ _ (tells_as l.number l.place) bad);
      sizes = l.sizes;
      refused = λ _. (refl, refl);
      read = λ z. absurd (bad (l.number ∙ z));
      opened = λ z. absurd (bad z);
      left = left_head c.in-Err.ensures.told (λ z. bad (l.number ∙ z));
    })

pub returns : goal.returns
returns c =
    record {
      checked = c.judged.ensures.checked;
      sizes = c.judged.ensures.sizes;
      refused = c.judged.ensures.refused;
      read = c.judged.ensures.read;
      opened = c.judged.ensures.opened;
      left = left_after c.in-Ok.ensures.told c.judged.ensures.kept;
    }
