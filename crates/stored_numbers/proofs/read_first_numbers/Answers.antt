-- `read_first_numbers` meets its contract: the plan in the first form.
use Rattle.std.proofs.Common.{arith, refl}
use Rattle.plan_format.specs.Form.{first_form, form_by}
use Rattle.stored_numbers.specs.Reading.{front_numbers, form_numbers}
use Rattle.stored_numbers.proofs.read_first_numbers.Goals as goal

pub whole-requires-clause-begins : goal.whole-requires-clause-begins
unfolding form_by first_form
whole-requires-clause-begins c =
    record { at = refl; got = refl }

pub whole-requires-clause-room : goal.whole-requires-clause-room
unfolding front_numbers form_numbers form_by first_form
whole-requires-clause-room c =
    omega arith

pub returns-clause-told : goal.returns-clause-told
unfolding form_by
returns-clause-told c =
    c.whole.ensures.told

pub returns-clause-array : goal.returns-clause-array
unfolding form_by
returns-clause-array c =
    c.whole.ensures.array

pub returns-clause-few : goal.returns-clause-few
unfolding front_numbers form_numbers form_by first_form
returns-clause-few c =
    omega (arith, c.whole.ensures.few)
