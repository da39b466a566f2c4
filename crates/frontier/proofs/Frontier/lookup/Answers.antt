-- `lookup` meets its contract: the taint does not matter. Assumes nothing.
use Rattle.frontier.specs.Frontiers.{looked_up}
use Rattle.frontier.proofs.Lookups.{looked}
use Rattle.frontier.proofs.Frontier.lookup.Goals as goal

pub returns : goal.returns
unfolding looked_up
returns c = looked _ _ _ c.lookup.ensures.by_halving
