-- `lead` meets its contract: the second form has one byte in front.
use Rattle.std.proofs.Common.{sym, ap, Bool, length}
use Rattle.plan_format.specs.Form.{form_by, first_form, second_form}
use Rattle.stored_numbers.proofs.section.lead.Goals as goal

pub returns-then-wide : goal.returns-then-wide
unfolding form_by first_form second_form
returns-then-wide c =
    sym (ap (λ (b : Bool). length (form_by b).lead) c.if-wide.true)

pub returns-else-wide : goal.returns-else-wide
unfolding form_by first_form second_form
returns-else-wide c =
    sym (ap (λ (b : Bool). length (form_by b).lead) c.if-wide.false)
