-- `more` meets its contract.
use Rattle.std.proofs.Common.{◌∙◌}
use Rattle.base_decimal.specs.Decimal.{more_of}
use Rattle.base_decimal.proofs.Decimals.{more_past, more_sum}
use Rattle.base_decimal.proofs.more.Goals as goal

pub returns-in_err-value : goal.returns-in_err-value
unfolding more_of
returns-in_err-value c = rw c.in_err-value.was c.from_residual.ensures

pub returns-in_err-tens : goal.returns-in_err-tens
returns-in_err-tens c =
    rw c.in_ok-value.was
    (c.from_residual-in_err-tens.ensures ∙ more_past _ _ c.in_err-tens.ensures)

pub returns : goal.returns
returns c =
    rw c.in_ok-value.was
    (more_sum _ _ c.checked_add.result c.in_ok-tens.ensures.1 c.from.ensures c.checked_add.ensures)
