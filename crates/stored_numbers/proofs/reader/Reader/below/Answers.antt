-- `below` meets its contract, by the law of each way out.
use Rattle.std.proofs.Common.{rules, refl, ◌≡◌, arith}
use Rattle.std.specs.Prelude.{Err}
use Rattle.plan_format.specs.Told.{number_of}
use Rattle.stored_numbers.proofs.Fields.{cut_number, wrong_number, kept_number, over_limit, below_limit}
use Rattle.stored_numbers.proofs.reader.Reader.below.Goals as goal

pub returns-in_err-value : goal.returns-in_err-value
returns-in_err-value g c =
    let gone : c.from_residual.result ≡ Err c.in_err-value.field-0.0 = search rules in
    cut_number gone c.in_err-value.ensures (omega arith)

pub returns-then-limit-value : goal.returns-then-limit-value
returns-then-limit-value g c =
    wrong_number c.args.over (record { plan = refl; room = refl }) refl refl c.in_ok-value.ensures
    (over_limit c.args.limit (number_of c.args.over) _ _ c.if-limit-value.true)

pub returns : goal.returns
returns g c =
    kept_number c.keep.ensures.same c.keep.ensures.cursor c.keep.ensures.stored c.in_ok-value.ensures
    (omega (arith, c.requires.room)) (below_limit c.args.limit (number_of c.args.over) _ _ c.if-limit-value.false)
    (omega (arith, c.if-limit-value.false))
