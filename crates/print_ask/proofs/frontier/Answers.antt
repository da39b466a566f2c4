-- `frontier` meets its contract.
use Rattle.print_ask.proofs.frontier.Goals as goal

pub returns : goal.returns
returns c =
    record {
      sent = c.frontier_of-sent.result;
      table = _;
      list = _;
      right = c.frontier_of-sent.ensures;
      text = c.entered.ensures;
    }
