-- `digit` meets its contract.
use Rattle.std.proofs.Common.{arith}
use Rattle.base_decimal.proofs.Decimals.{value_below, value_above, value_inside}
use Rattle.base_decimal.proofs.digit.Goals as goal

pub returns-in-48-to-57 : goal.returns-in-48-to-57
returns-in-48-to-57 c = value_inside c.args.b (omega arith) (omega arith)

pub returns-in_default : goal.returns-in_default
returns-in_default c = value_below c.args.b (omega arith)

pub returns-in_default-2 : goal.returns-in_default-2
returns-in_default-2 c = value_above c.args.b (omega arith)
