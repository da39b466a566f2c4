-- `suggest_question` meets its contract: what `asked` says of the opened plan. Assumes nothing.
use Rattle.ask_suggest.proofs.SuggestAsked.{asked_of}
use Rattle.ask_suggest.proofs.suggest_question.Goals as goal

pub returns : goal.returns
returns c = asked_of _ _ c.open-o.ensures c.asked.ensures
