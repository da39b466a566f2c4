-- `list` meets its contract: what has been put is a first part of the list.
use Rattle.std.proofs.Common.{arith, ap, ◌∙◌}
use Rattle.base_text.specs.Text.{blanked}
use Rattle.base_text.proofs.Putting.{adds_none, adds_number}
use Rattle.base_text.proofs.Text.list.Goals as goal

pub loop-n-init : goal.loop-n-init
unfolding blanked
loop-n-init g c = adds_none _

pub loop-n-preserved : goal.loop-n-preserved
loop-n-preserved g c =
    adds_number g.T.Number.value c.args.numbers.now c.loop-n.n-index c.n-item.result (omega arith)
    c.loop-n.invariant (rw (c.wide.ensures ∙ ap g.T.Number.value c.n-item.is) at c.next.ensures)
