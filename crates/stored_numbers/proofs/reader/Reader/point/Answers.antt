-- `point` meets its contract: one field after the other, or the first one refused.
use Rattle.std.proofs.Common.{rules, ◌≡◌, arith}
use Rattle.std.specs.Prelude.{Err}
use Rattle.plan_format.specs.Sections.{point_below}
use Rattle.stored_numbers.proofs.Cursors.{then_reads, refused_reads}
use Rattle.stored_numbers.proofs.reader.Reader.point.Goals as goal

pub returns-in_err-below : goal.returns-in_err-below
unfolding point_below
returns-in_err-below g c =
    let gone : c.from_residual.result ≡ Err c.in_err-below.field-0.0 = search rules in
    refused_reads gone _ _ (omega arith) c.in_err-below.ensures.field.reads

pub returns : goal.returns
unfolding point_below
returns g c =
    then_reads c.in_ok-below.ensures.field.reads c.value.ensures.reads
