-- `read_head` meets its contract: the head in the form that the first byte tells. Assumes nothing.
use Rattle.std.proofs.Common.{arith}
use Rattle.plan_format.proofs.Forms.{proper_by}
use Rattle.stored_numbers.specs.Reading.{front_numbers}
use Rattle.stored_numbers.proofs.Counts.{lead_inside}
use Rattle.stored_numbers.proofs.Heads.{head_in}
use Rattle.stored_numbers.proofs.read_head.Goals as goal

pub front-requires-clause-room : goal.front-requires-clause-room
unfolding front_numbers
front-requires-clause-room c =
    omega (arith, (proper_by c.in_second_form-wide.result).few)

pub returns-clause-form : goal.returns-clause-form
returns-clause-form c =
    rw (← c.in_second_form-wide.ensures) c.front.ensures.form

pub returns-clause-told : goal.returns-clause-told
returns-clause-told c =
    rw (← head_in _ c.in_second_form-wide.ensures) c.front.ensures.told

pub returns-clause-means : goal.returns-clause-means
returns-clause-means c =
    rw (← c.in_second_form-wide.ensures) c.front.ensures.means

pub invariant_of-reader : goal.invariant_of-reader
invariant_of-reader c =
    omega (arith, lead_inside c.args.plan.now c.in_second_form-wide.ensures)
