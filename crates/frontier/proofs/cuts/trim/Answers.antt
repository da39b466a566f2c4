-- `trim` meets its contract: the loop's invariant is `Trim`. Assumes nothing.
use mathlib.Core.Path.{refl}
use Rattle.frontier_slots.specs.Slots.{slot}
use Rattle.frontier.proofs.Trim.{trim_none, trim_more, trim_end}
use Rattle.frontier.proofs.cuts.trim.Goals as goal

pub loop-i-init : goal.loop-i-init
loop-i-init c = trim_none _ _ _ _ _ _ refl refl c.requires.1 c.requires.0

pub loop-i-preserved : goal.loop-i-preserved
unfolding slot
loop-i-preserved c =
    trim_more _ _ _ _ _ _ _ _ _ _ c.loop-i.invariant c.loop-i-test.true c.exceeds.ensures
    c.after-n.ensures

pub returns : goal.returns
returns c = trim_end _ _ _ _ _ _ _ _ c.loop-i.invariant c.loop-i-test.false
