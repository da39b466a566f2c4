-- `next` meets its contract.
use Rattle.base_text.proofs.Putting.{adds_both}
use Rattle.base_text.proofs.Text.next.Goals as goal

pub returns : goal.returns
returns c = adds_both c.byte.ensures c.number.ensures
