-- `checked` meets its contract.
use Rattle.std.proofs.Common.{arith, rules}
use mathlib.Core.Path.{◌≡◌, refl}
use Rattle.plan_format.specs.Told.{number_of}
use Rattle.check_plan.proofs.Told.{refusal_given}
use Rattle.base_lists.specs.Lists.{join_from}
use Rattle.base_text.proofs.Putting.{adds_none, adds_both, adds_join, lent, line_refused, line_answered}
use Rattle.print_check.specs.CheckText.{row_text, passed_text}
use Rattle.print_check.proofs.checked.Goals as goal

pub returns-in-Err : goal.returns-in-Err
returns-in-Err c =
    let e = c.in-Err.e in
    rw (c.in-Err.is, line_refused (number_of e.reason) e.place _ (refusal_given e))
    (rw c.number.ensures at c.refused.ensures)

pub loop-i-init : goal.loop-i-init
unfolding join_from
loop-i-init c = adds_none _

pub loop-i-preserved : goal.loop-i-preserved
loop-i-preserved c =
    adds_join (row_text c.args.counted.counts.queues c.args.table.now) c.loop-i.i c.loop-i.invariant c.row.ensures

pub returns : goal.returns
unfolding passed_text
returns c =
    let e : c.loop-i.i ≡ c.args.counted.counts.operations = omega arith in
    rw (c.in_default.is, line_answered 0 0 _ refl)
    (lent c.new-text.ensures.room_is c.new-text.ensures.none
    (adds_both (adds_both c.sizes.ensures c.runs.ensures) (rw e at c.loop-i.invariant))
    (search rules) (search rules))
