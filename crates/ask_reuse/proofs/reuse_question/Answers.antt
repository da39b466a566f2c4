-- `reuse_question` meets its contract: what `asked` says of the opened plan. Assumes nothing.
use Rattle.ask_reuse.proofs.ReuseAsked.{asked_of}
use Rattle.ask_reuse.proofs.reuse_question.Goals as goal

pub returns : goal.returns
returns c = asked_of _ _ c.open-o.ensures c.asked.ensures
