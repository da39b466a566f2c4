-- `send` meets its contract: what is gathered, merged with the empty frontier at the capacity. Assumes nothing.
use Rattle.ask_frontier.proofs.SentWalk.{cut_merged}
use Rattle.ask_frontier.proofs.send.Goals as goal

pub returns : goal.returns
returns c =
    cut_merged _ _ _ _ _ _ _ _ c.requires.0 c.requires.1 c.requires.2
    c.gather-whole.ensures c.empty.ensures c.merge.ensures.answers
