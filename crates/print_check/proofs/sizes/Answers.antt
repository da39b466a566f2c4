-- `sizes` meets its contract.
use Rattle.base_text.proofs.Putting.{adds_both}
use Rattle.print_check.specs.CheckText.{sizes_text}
use Rattle.print_check.proofs.sizes.Goals as goal

pub returns : goal.returns
unfolding sizes_text
returns c = adds_both c.words.ensures c.line.ensures
