-- `count` meets its contract, by the law of each way out.
use Rattle.std.proofs.Common.{rules, refl, ◌≡◌, arith}
use Rattle.std.specs.Prelude.{Err}
use Rattle.plan_format.specs.declared.refusal.Reason.TheVariants.{CountOverLimit}
use Rattle.stored_numbers.proofs.Fields.{cut_number, wrong_number, kept_number, count_out, count_right}
use Rattle.stored_numbers.proofs.reader.Reader.count.Goals as goal

pub returns-in_err-value : goal.returns-in_err-value
returns-in_err-value g c =
    let gone : c.from_residual.result ≡ Err c.in_err-value.field-0.0 = search rules in
    cut_number gone c.in_err-value.ensures (omega arith)

pub returns-then-value-least : goal.returns-then-value-least
returns-then-value-least g c =
    wrong_number CountOverLimit (record { plan = refl; room = refl }) refl refl c.in_ok-value.ensures
    (count_out c.args.least c.args.most _ c.then-value-least.either)

pub returns : goal.returns
returns g c =
    kept_number c.keep.ensures.same c.keep.ensures.cursor c.keep.ensures.stored c.in_ok-value.ensures
    (omega (arith, c.requires.room))
    (count_right c.args.least c.args.most _ c.if-value-least.false c.if-most-value.false) c.if-most-value.false
