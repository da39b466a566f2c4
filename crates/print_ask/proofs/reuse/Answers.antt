-- `reuse` meets its contract.
use Rattle.print_ask.proofs.reuse.Goals as goal

pub returns : goal.returns
returns c =
    record {
      told = c.reuse_question-told.result;
      table = _;
      list = _;
      asked = c.reuse_question-told.ensures;
      text = c.judged.ensures;
    }
