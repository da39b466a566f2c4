-- `lookup` meets its contract: by what the search by halving gives. Assumes nothing.
use mathlib.Core.Path.{ap}
use Rattle.frontier_slots.specs.declared.Found.{Found}
use Rattle.frontier.specs.Frontiers.{looked_up}
use Rattle.frontier_slots.specs.Slots.{found_by_halving}
use Rattle.frontier.proofs.Lookups.{looked}
use Rattle.frontier.proofs.lent.lookup.Goals as goal

pub returns : goal.returns
unfolding found_by_halving looked_up
returns c = looked _ _ _ (ap (λ (r : Found). r.epoch) c.lookup_by_halving.ensures)
