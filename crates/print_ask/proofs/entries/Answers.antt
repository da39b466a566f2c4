-- `entries` meets its contract: the first entries have been put.
use Rattle.base_lists.specs.Lists.{join_from}
use Rattle.base_text.proofs.Putting.{adds_none, adds_join}
use Rattle.print_ask.specs.Questions.{entry_text}
use Rattle.print_ask.proofs.entries.Goals as goal

pub loop-i-init : goal.loop-i-init
unfolding join_from
loop-i-init c = adds_none _

pub loop-i-preserved : goal.loop-i-preserved
unfolding entry_text
loop-i-preserved c =
    adds_join (entry_text c.args.axes.now c.args.epochs.now) c.loop-i.i c.loop-i.invariant
    (rw (c.get_or.ensures, c.get_or-in-loop-i.ensures) at c.entry.ensures)
