-- `cundvrest_read` meets its contract: what it calls says, and `told` reads so. Assumes nothing.
use Rattle.cundvrest_c.proofs.cundvrest_read.Goals as goal

-- look: clauses says, means
pub returns : goal.returns
returns c = rw (c.tell.ensures, c.as_told.ensures) c.read_plan.ensures
