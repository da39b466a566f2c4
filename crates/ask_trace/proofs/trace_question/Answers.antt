-- `trace_question` meets its contract: what `answer` hands back of the opened plan. Assumes nothing.
use Rattle.check_plan.specs.Opening.{lent_of}
use Rattle.ask_trace.proofs.Asked.{asked, sizes_kept}
use Rattle.ask_trace.proofs.trace_question.Goals as goal

pub returns : goal.returns
returns c =
    record {
      right = asked _ _ _ _ _ _ _ _ (lent_of c.open-o.new.self) c.open-o.ensures.checked c.open-o.ensures.opened _ _
          c.answer.ensures.handed c.answer.ensures.left;
      sizes = sizes_kept _ _ _ _ _ _ _ _ c.answer.ensures.handed c.open-o.ensures.sizes;
    }
