-- `numbers` meets its contract: the first numbers have been put. Assumes nothing.
use Rattle.base_lists.specs.Lists.{join_from}
use Rattle.base_text.proofs.Putting.{adds_none, adds_join}
use Rattle.print_trace.specs.Printed.{number_text}
use Rattle.print_trace.proofs.numbers.Goals as goal

pub loop-i-init : goal.loop-i-init
unfolding join_from
loop-i-init c = adds_none _

pub loop-i-preserved : goal.loop-i-preserved
unfolding number_text
loop-i-preserved c =
    adds_join (number_text c.args.list.now) c.loop-i.i c.loop-i.invariant (rw c.get_or.ensures at c.next.ensures)
