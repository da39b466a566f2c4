-- `cundvrest_reuse` meets its contract: what it calls says, and `told` reads so. Assumes nothing.
use Rattle.cundvrest_c.proofs.cundvrest_reuse.Goals as goal

pub returns : goal.returns
returns c =
    rw c.tell.ensures c.reuse_question.ensures
