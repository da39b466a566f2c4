-- `dominates` meets its contract: by what it calls. Assumes nothing.
use Rattle.frontier.proofs.Dominates.{dominance_means}
use Rattle.frontier.proofs.lent.dominates.Goals as goal

pub returns-clause-means : goal.returns-clause-means
returns-clause-means c = dominance_means _ _ _ c.dominates.ensures
