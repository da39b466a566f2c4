-- `copy` meets its contract: the numbers copied, and the array past them.
use Rattle.std.proofs.Common.{rules, arith, length-take-le}
use Rattle.base_lists.specs.Lists.{in_front}
use Rattle.stored_numbers.proofs.copy.Goals as goal

pub returns : goal.returns
unfolding in_front
returns c =
    rw (length-take-le c.args.many c.args.front.now (omega arith)) (search rules)
