-- `point` meets its contract: one field after the other, or the first one refused.
use Rattle.std.proofs.Common.{rules, ◌≡◌, Err, arith}
use Rattle.plan_format.specs.Form.{at_least}
use Rattle.plan_format.specs.Grammar.{field}
use Rattle.plan_format.specs.Sections.{point_below}
use Rattle.stored_bytes.specs.Writing.{point_most}
use Rattle.stored_bytes.proofs.Writers.{wrote_field, wrote_seq, wrote_stop, wrote_within}
use Rattle.stored_bytes.proofs.writer.Writer.point.Goals as goal

pub returns-in_err-below-clause-wrote : goal.returns-in_err-below-clause-wrote
unfolding point_below
returns-in_err-below-clause-wrote g c =
    let e : c.from_residual.result ≡ Err c.in_err-below.field-0.0 = search rules in
    rw e (wrote_stop (field 8 (at_least c.args.least)) point_most (omega arith)
    (wrote_field c.in_err-below.ensures.wrote))

pub returns-clause-wrote : goal.returns-clause-wrote
unfolding point_below
returns-clause-wrote g c =
    wrote_within point_most (omega arith) (wrote_seq (wrote_field c.in_ok-below.ensures.wrote) c.at_least.ensures.wrote)
