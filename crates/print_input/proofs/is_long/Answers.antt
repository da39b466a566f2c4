-- `is_long` tells by the length and the first byte. Assumes nothing.
use Rattle.std.proofs.Common.{arith, ◌∙◌, rules}
use borrow.Author.Tests.{le-ltb}
use Rattle.print_input.proofs.Long.{few, many}
use Rattle.print_input.proofs.is_long.Goals as goal

pub returns-then-bytes-gt-MOST_INPUT : goal.returns-then-bytes-gt-MOST_INPUT
returns-then-bytes-gt-MOST_INPUT c = many c.args.bytes.now (omega arith)

pub returns-else-bytes-gt-MOST_INPUT : goal.returns-else-bytes-gt-MOST_INPUT
returns-else-bytes-gt-MOST_INPUT c = le-ltb 65536 _ (omega arith) ∙ few c.args.bytes.now (omega arith)
