-- `cundvrest_suggest` meets its contract: what is advised is told and stored. Assumes nothing.
use Rattle.c_suggest.proofs.Handed.{handed}
use Rattle.c_suggest.proofs.cundvrest_suggest.Goals as goal

pub returns : goal.returns
returns c =
    handed _ _ _ _ _ _ _ _ _ _ _ _ _ _ c.suggest_question-r.ensures c.tell.ensures c.number_of.ensures
    c.semaphore_of-semaphore.ensures c.value_of-value.ensures
