-- `value` meets its contract, by the law of each way out.
use Rattle.std.proofs.Common.{rules, refl, ◌≡◌, arith}
use Rattle.std.specs.Prelude.{Err}
use Rattle.plan_format.specs.declared.refusal.Reason.TheVariants.{WaitForZero}
use Rattle.plan_format.proofs.ChecksMeaning.{value_means}
use Rattle.plan_format.proofs.Blocks.{passes_at_least}
use Rattle.stored_numbers.proofs.Fields.{cut, wrong, kept}
use Rattle.stored_numbers.proofs.reader.Reader.value.Goals as goal

pub returns-in_err-value : goal.returns-in_err-value
returns-in_err-value c =
    let gone : c.from_residual.result ≡ Err c.in_err-value.field-0.0 = search rules in
    cut gone c.in_err-value.ensures (omega arith)

pub returns-then-value-least : goal.returns-then-value-least
returns-then-value-least c =
    wrong WaitForZero (record { plan = refl; room = refl }) refl refl c.in_ok-value.ensures
    ((value_means c.args.least _ _).yes c.if-value-least.true)

pub returns : goal.returns
returns c =
    kept tt c.keep.ensures.same c.keep.ensures.cursor c.keep.ensures.stored c.in_ok-value.ensures
    (omega (arith, c.requires)) (passes_at_least c.args.least _ _ c.if-value-least.false)
