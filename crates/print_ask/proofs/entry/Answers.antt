-- `entry` meets its contract.
use Rattle.base_text.proofs.Putting.{adds_both}
use Rattle.print_ask.proofs.entry.Goals as goal

pub returns : goal.returns
returns c = adds_both (adds_both c.next.ensures c.byte.ensures) c.number.ensures
