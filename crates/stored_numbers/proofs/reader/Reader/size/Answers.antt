-- `size` meets its contract, by the law of each way out.
use Rattle.std.proofs.Common.{rules, refl, ◌≡◌, arith}
use Rattle.std.specs.Prelude.{Err}
use Rattle.plan_format.specs.Form.{any_number}
use Rattle.stored_numbers.proofs.Fields.{cut, kept}
use Rattle.stored_numbers.proofs.reader.Reader.size.Goals as goal

pub returns-in_err-value : goal.returns-in_err-value
returns-in_err-value c =
    let gone : c.from_residual.result ≡ Err c.in_err-value.field-0.0 = search rules in
    cut gone c.in_err-value.ensures (omega arith)

pub returns : goal.returns
unfolding any_number
returns c =
    kept tt c.keep.ensures.same c.keep.ensures.cursor c.keep.ensures.stored c.in_ok-value.ensures
    (omega (arith, c.requires)) refl
