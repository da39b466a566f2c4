-- `count_above` meets its contract: the loop's invariant: those counted, and those of the rest, are all. Assumes
-- nothing.
use borrow.Author.Rules.{rules}
use Rattle.frontier_slots.specs.Slots.{slot}
use Rattle.frontier.proofs.Trim.{count_none, count_turn, count_end}
use Rattle.frontier.proofs.cuts.count_above.Goals as goal

pub loop-i-init : goal.loop-i-init
loop-i-init c = (search rules, count_none _ _ _ _)

pub loop-i-preserved : goal.loop-i-preserved
unfolding slot
loop-i-preserved c = (
  search rules,
  count_turn _ _ _ _ _ _ _ c.loop-i-test.true c.exceeds.ensures c.loop-i.invariant.1,
)

pub returns : goal.returns
returns c = count_end _ _ _ _ _ _ c.loop-i-test.false c.loop-i.invariant.1
