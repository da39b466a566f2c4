-- `mark` meets its contract: one field after the other, or the first one refused.
use Rattle.std.proofs.Common.{rules, ◌≡◌, Err, arith}
use Rattle.plan_format.specs.Grammar.{field}
use Rattle.plan_format.specs.Sections.{mark_below, limited}
use Rattle.stored_bytes.proofs.Writers.{wrote_field, wrote_ok, wrote_err, wrote_seq, wrote_stop}
use Rattle.stored_bytes.proofs.writer.Writer.mark.Goals as goal

pub returns-in_err-below-clause-wrote : goal.returns-in_err-below-clause-wrote
unfolding mark_below
returns-in_err-below-clause-wrote c =
    let e : c.from_residual.result ≡ Err c.in_err-below.field-0.0 = search rules in
    rw e (wrote_stop (field 1 (limited 2 4)) 3 (omega arith) (wrote_field c.in_err-below.ensures.wrote))

pub returns-in_err-below-2-clause-wrote : goal.returns-in_err-below-2-clause-wrote
unfolding mark_below
returns-in_err-below-2-clause-wrote c =
    let e : c.from_residual-in_err-below-2.result ≡ Err c.in_err-below-2.field-0.0 = search rules in
    rw e (wrote_err (wrote_seq (wrote_field c.in_ok-below.ensures.wrote) (wrote_field c.in_err-below-2.ensures.wrote)))

pub returns-clause-wrote : goal.returns-clause-wrote
unfolding mark_below
returns-clause-wrote c =
    wrote_ok (tt {0}) (wrote_seq (wrote_field c.in_ok-below.ensures.wrote) (wrote_field c.in_ok-below-2.ensures.wrote))
