-- `semaphores` meets its contract: the width and the limits are the form's.
use Rattle.plan_format.specs.Form.{form_by, first_form, second_form}
use Rattle.stored_numbers.proofs.reader.Reader.semaphores.Goals as goal

pub returns-then-wide : goal.returns-then-wide
unfolding form_by first_form second_form
returns-then-wide c =
    rw c.if-wide.true c.count.ensures

pub returns-else-wide : goal.returns-else-wide
unfolding form_by first_form second_form
returns-else-wide c =
    rw c.if-wide.false c.count-else-wide.ensures
