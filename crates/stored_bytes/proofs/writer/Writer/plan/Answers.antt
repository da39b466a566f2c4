-- `plan` meets its contract: a list is tried as the form says.
use Rattle.std.proofs.Common.{◌+◌, arith}
use Rattle.plan_format.specs.Sizes.{most_semaphores, second_width}
use Rattle.plan_format.specs.Form.{first_form, list_form, list_by}
use Rattle.stored_bytes.specs.Writing.{sections_most}
use Rattle.stored_bytes.proofs.Writers.{wrote_within}
use Rattle.stored_bytes.proofs.writer.Writer.plan.Goals as goal

pub returns-then-wide-clause-wrote : goal.returns-then-wide-clause-wrote
unfolding list_by first_form list_form
returns-then-wide-clause-wrote c = rw c.if-wide.true c.sections.ensures.wrote

pub returns-else-wide-clause-wrote : goal.returns-else-wide-clause-wrote
unfolding list_by first_form list_form
returns-else-wide-clause-wrote c =
    rw c.if-wide.false (wrote_within (sections_most (second_width + most_semaphores)) (omega arith)
    c.sections-else-wide.ensures.wrote)
