-- `cundvrest_trace` meets its contract: what was traced is told and stored. Assumes nothing.
use Rattle.c_trace.proofs.Handed.{handed}
use Rattle.c_trace.proofs.cundvrest_trace.Goals as goal

pub returns : goal.returns
returns c =
    handed _ _ _ _ _ _ _ _ _ _ _ _ _ _ c.trace_question-r.ensures.right c.tell.ensures c.number_of.ensures
    c.put.ensures
