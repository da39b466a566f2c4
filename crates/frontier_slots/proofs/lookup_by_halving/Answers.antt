-- `lookup_by_halving` meets its contract: the slot that the search gave lies below sixteen. Assumes nothing.
use Rattle.std.proofs.Common.{arith}
use Rattle.std.proofs.lemmas.Grind.{common_steps}
use Rattle.frontier_slots.specs.Slots.{lookup_at, found_by_halving}
use Rattle.frontier_slots.proofs.Halved.{halved_below}
use Rattle.frontier_slots.proofs.lookup_by_halving.Goals as goal

pub returns : goal.returns
unfolding found_by_halving lookup_at
returns c = grind (arith, common_steps, halved_below _ _ _ _ _ c.search-at.ensures.means c.in-Some.is)
