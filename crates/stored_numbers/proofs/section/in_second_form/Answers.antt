-- `in_second_form` meets its contract: the first byte, and none where there are no bytes.
use Rattle.std.proofs.Common.{◌≡◌, arith, rules, length}
use Rattle.std.proofs.Math.ListN.{get_or-eq_default}
use Rattle.plan_format.specs.Form.{is_second}
use Rattle.stored_numbers.proofs.section.in_second_form.Goals as goal

pub returns-then-not-is_empty : goal.returns-then-not-is_empty
unfolding is_second
returns-then-not-is_empty c =
    search rules

pub returns-else-not-is_empty : goal.returns-else-not-is_empty
unfolding is_second
returns-else-not-is_empty c =
    let none : length c.args.plan.now ≡ 0 = grind arith in
    rw (c.if-not-is_empty.false, get_or-eq_default c.args.plan.now 0 {n = 0} (omega (arith, none)))
