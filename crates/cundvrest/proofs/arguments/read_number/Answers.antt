-- `read_number` is safe: a number of the word is within its limit.
use Rattle.std.proofs.Common.{arith}
use Rattle.base_decimal.proofs.Decimals.{word_limit}
use Rattle.cundvrest.proofs.arguments.read_number.Goals as goal

pub overflow_cast-result : goal.overflow_cast-result
overflow_cast-result c = omega (arith, word_limit 4294967295 _ _ c.in-Ok.ensures)
