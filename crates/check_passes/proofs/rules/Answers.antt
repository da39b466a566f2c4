-- `rules` meets its contract: `ruled`'s, with places for the last values of the plan's semaphores. Assumes nothing.
use Rattle.check_passes.proofs.Columns.{zeros_few, zeros_many}
use Rattle.check_passes.proofs.rules.Goals as goal

pub ruled-requires-clause-enough : goal.ruled-requires-clause-enough
ruled-requires-clause-enough c = zeros_few _ c.if-semaphores-le-FIRST_SEMAPHORES.true

pub ruled-requires-else-semaphores-le-FIRST_SEMAPHORES-clause-enough :
    goal.ruled-requires-else-semaphores-le-FIRST_SEMAPHORES-clause-enough
ruled-requires-else-semaphores-le-FIRST_SEMAPHORES-clause-enough c =
    zeros_many _ c.if-semaphores-le-FIRST_SEMAPHORES.false
