-- `mark` meets its contract: one field after the other, or the first one refused.
use Rattle.std.proofs.Common.{rules, ◌≡◌, arith}
use Rattle.std.specs.Prelude.{Err}
use Rattle.plan_format.specs.Sections.{mark_below}
use Rattle.stored_numbers.proofs.Cursors.{then_reads, as_reads, handed_on, refused_reads}
use Rattle.stored_numbers.proofs.reader.Reader.mark.Goals as goal

pub returns-in_err-below : goal.returns-in_err-below
unfolding mark_below
returns-in_err-below c =
    let gone : c.from_residual.result ≡ Err c.in_err-below.field-0.0 = search rules in
    refused_reads gone _ _ (omega arith) c.in_err-below.ensures.field.reads

pub returns-in_err-below-2 : goal.returns-in_err-below-2
unfolding mark_below
returns-in_err-below-2 c =
    let gone : c.from_residual-in_err-below-2.result ≡ Err c.in_err-below-2.field-0.0 = search rules in
    handed_on gone 2 (omega arith) (then_reads c.in_ok-below.ensures.field.reads c.in_err-below-2.ensures.field.reads)

pub returns : goal.returns
unfolding mark_below
returns c =
    as_reads (then_reads c.in_ok-below.ensures.field.reads c.in_ok-below-2.ensures.field.reads)
