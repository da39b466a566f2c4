-- `cundvrest_check` meets its contract: what it calls says, and `told` reads so. Assumes nothing.
use Rattle.cundvrest_c.proofs.cundvrest_check.Goals as goal

pub returns : goal.returns
returns c =
    rw (c.tell.ensures, c.passed.ensures) c.check_plan.ensures
