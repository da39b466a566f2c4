-- `departs` meets its contract. Assumes nothing.
use Rattle.base_text.proofs.Putting.{adds_both}
use Rattle.print_trace.specs.Printed.{departs_text}
use Rattle.print_trace.proofs.departs.Goals as goal

pub returns : goal.returns
unfolding departs_text
returns c =
    adds_both (adds_both (adds_both c.words.ensures c.next.ensures) c.words-2.ensures) c.next-2.ensures
