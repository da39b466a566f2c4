-- `least` meets its contract: the loop's invariant is `LeastBefore`: the least of the slots before i. Assumes nothing.
use Rattle.frontier_slots.specs.Slots.{slot}
use Rattle.frontier.proofs.Trim.{least_first, least_more, least_end}
use Rattle.frontier.proofs.cuts.least.Goals as goal

pub loop-i-init : goal.loop-i-init
unfolding slot
loop-i-init c = least_first _ _

pub loop-i-preserved : goal.loop-i-preserved
unfolding slot
loop-i-preserved c =
    least_more _ _ _ _ _ c.loop-i.invariant c.lesser-best.ensures

pub returns : goal.returns
returns c =
    least_end _ _ _ _ _ c.loop-i.invariant (c.loop-i.auto.i-end c.requires.len_nonzero)
    c.loop-i-test.false c.requires.len_in_bounds.2
