-- `say_long` puts the line. Assumes nothing.
use Rattle.std.proofs.Common.{rules}
use Rattle.base_text.proofs.Putting.{lent}
use Rattle.print_input.specs.Inputs.{too_long_text}
use Rattle.print_input.proofs.say_long.Goals as goal

pub returns : goal.returns
unfolding too_long_text
returns c = lent c.new-text.ensures.room_is c.new-text.ensures.none c.words.ensures (search rules) (search rules)
