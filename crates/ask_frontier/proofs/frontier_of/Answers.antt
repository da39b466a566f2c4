-- `frontier_of` meets its contract: what `asked` says of the opened plan. Assumes nothing.
use Rattle.ask_frontier.proofs.SentCalls.{asked_of}
use Rattle.ask_frontier.proofs.frontier_of.Goals as goal

pub returns : goal.returns
returns c = asked_of _ _ c.open-o.ensures c.asked.ensures
