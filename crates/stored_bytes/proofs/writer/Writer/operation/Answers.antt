-- `operation` meets its contract: one part after the other, or the first one refused.
use Rattle.std.proofs.Common.{rules, ◌≡◌, Err, arith}
use Rattle.plan_format.specs.Sizes.{block_bytes}
use Rattle.plan_format.specs.Sections.{operation_below}
use Rattle.stored_bytes.proofs.Writers.{wrote_field, wrote_seq, wrote_stop}
use Rattle.stored_bytes.proofs.writer.Writer.operation.Goals as goal

pub returns-in_err-below-clause-wrote : goal.returns-in_err-below-clause-wrote
unfolding operation_below
returns-in_err-below-clause-wrote g c =
    let e : c.from_residual.result ≡ Err c.in_err-below.field-0.0 = search rules in
    rw e (wrote_stop _ block_bytes (omega arith) (wrote_field c.in_err-below.ensures.wrote))

pub returns-in_err-points-clause-wrote : goal.returns-in_err-points-clause-wrote
unfolding operation_below
returns-in_err-points-clause-wrote g c =
    let e : c.from_residual-in_err-points.result ≡ Err c.in_err-points.field-0.0 = search rules in
    rw e (wrote_seq (wrote_field c.in_ok-below.ensures.wrote)
    (wrote_stop _ 65 (omega arith) c.in_err-points.ensures.wrote))

pub returns-in_err-points-2-clause-wrote : goal.returns-in_err-points-2-clause-wrote
unfolding operation_below
returns-in_err-points-2-clause-wrote g c =
    let e : c.from_residual-in_err-points-2.result ≡ Err c.in_err-points-2.field-0.0 = search rules in
    rw e (wrote_seq (wrote_field c.in_ok-below.ensures.wrote) (wrote_seq c.in_ok-points.ensures.wrote
    (wrote_stop _ 34 (omega arith) c.in_err-points-2.ensures.wrote)))

pub returns-clause-wrote : goal.returns-clause-wrote
unfolding operation_below
returns-clause-wrote g c =
    wrote_seq (wrote_field c.in_ok-below.ensures.wrote) (wrote_seq c.in_ok-points.ensures.wrote
    (wrote_seq c.in_ok-points-2.ensures.wrote c.marks.ensures.wrote))
