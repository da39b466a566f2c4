-- `cundvrest_frontier` meets its contract: what is sent out is told and stored. Assumes nothing.
use Rattle.cundvrest_c.proofs.SentTold.{sent_answered}
use Rattle.cundvrest_c.proofs.cundvrest_frontier.Goals as goal

pub returns : goal.returns
returns c =
    let all =
    sent_answered _ _ _ _ _ _ _ _ _ _ c.hand.ensures c.frontier_of-r.ensures in
    record {
      right = all.0;
      says = all.1;
    }
