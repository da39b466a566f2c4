-- `read_first_head` meets its contract: the head in the first form. Assumes nothing.
use Rattle.std.proofs.Common.{refl, arith}
use Rattle.plan_format.specs.Form.{first_form, form_by}
use Rattle.stored_numbers.specs.Reading.{front_numbers}
use Rattle.stored_numbers.proofs.read_first_head.Goals as goal

pub front-requires-clause-begins : goal.front-requires-clause-begins
unfolding form_by first_form
front-requires-clause-begins c =
    record { at = refl; got = refl }

pub front-requires-clause-room : goal.front-requires-clause-room
unfolding front_numbers form_by first_form
front-requires-clause-room c =
    omega arith

pub returns-clause-form : goal.returns-clause-form
returns-clause-form c =
    c.front.ensures.form

pub returns-clause-told : goal.returns-clause-told
unfolding form_by
returns-clause-told c =
    c.front.ensures.told

pub returns-clause-means : goal.returns-clause-means
unfolding first_form form_by
returns-clause-means c =
    c.front.ensures.means
