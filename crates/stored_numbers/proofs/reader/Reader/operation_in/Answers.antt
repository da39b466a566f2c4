-- `operation_in` meets its contract: one part after the other, or the first one refused.
use Rattle.std.proofs.Common.{rules, ◌≡◌, arith}
use Rattle.std.specs.Prelude.{Err}
use Rattle.plan_format.specs.Sections.{operation_below}
use Rattle.stored_numbers.proofs.Cursors.{then_reads, refused_reads}
use Rattle.stored_numbers.proofs.reader.Reader.operation_in.Goals as goal

pub returns-in_err-below : goal.returns-in_err-below
unfolding operation_below
returns-in_err-below g c =
    let gone : c.from_residual.result ≡ Err c.in_err-below.field-0.0 = search rules in
    refused_reads gone _ _ (omega arith) c.in_err-below.ensures.field.reads

pub returns-in_err-points : goal.returns-in_err-points
unfolding operation_below
returns-in_err-points g c =
    let gone : c.from_residual-in_err-points.result ≡ Err c.in_err-points.field-0.0 = search rules in
    then_reads c.in_ok-below.ensures.field.reads
    (refused_reads gone _ 21 (omega arith) c.in_err-points.ensures)

pub returns-in_err-points-2 : goal.returns-in_err-points-2
unfolding operation_below
returns-in_err-points-2 g c =
    let gone : c.from_residual-in_err-points-2.result ≡ Err c.in_err-points-2.field-0.0 = search rules in
    then_reads c.in_ok-below.ensures.field.reads
    (then_reads c.in_ok-points.ensures (refused_reads gone _ 14 (omega arith) c.in_err-points-2.ensures))

pub returns : goal.returns
unfolding operation_below
returns g c =
    then_reads c.in_ok-below.ensures.field.reads
    (then_reads c.in_ok-points.ensures (then_reads c.in_ok-points-2.ensures c.marks.ensures))
