-- `axis` meets its contract, by the law of each way out.
use Rattle.std.proofs.Common.{rules, refl, ◌≡◌, arith}
use Rattle.std.specs.Prelude.{Err}
use Rattle.plan_format.specs.declared.refusal.Reason.TheVariants.{AxisTwice}
use Rattle.plan_format.proofs.Axes.{axis_again, axis_new}
use Rattle.stored_numbers.proofs.Fields.{cut, wrong, kept}
use Rattle.stored_numbers.proofs.reader.Reader.axis.Goals as goal

pub returns-in_err-value : goal.returns-in_err-value
returns-in_err-value c =
    let gone : c.from_residual.result ≡ Err c.in_err-value.field-0.0 = search rules in
    cut gone c.in_err-value.ensures (omega arith)

pub returns-then-has_axis : goal.returns-then-has_axis
returns-then-has_axis c =
    wrong AxisTwice (record { plan = refl; room = refl }) refl refl c.in_ok-value.ensures
    (axis_again _ _ _ c.has_axis.ensures c.if-has_axis.true)

pub returns : goal.returns
returns c =
    kept tt c.keep.ensures.same c.keep.ensures.cursor c.keep.ensures.stored c.in_ok-value.ensures
    (omega (arith, c.requires)) (axis_new _ _ _ c.has_axis.ensures c.if-has_axis.false)
