-- `tell` goes from the first signal on: the state from here is the whole. Assumes nothing.
use mathlib.Core.Path.{ap, ◌∙◌}
use borrow.Author.Rules.{rules}
use Rattle.ask_trace.specs.Raising.{raised_from}
use Rattle.ask_trace.proofs.Raising.{raising_more, raising_end, begun_front}
use Rattle.ask_trace.proofs.state.tell.Goals as goal

pub loop-k-preserved : goal.loop-k-preserved
loop-k-preserved c = raising_more _ _ _ _ _ _ _ _ _ _ _ c.loop-k.invariant c.loop-k-test.true c.raise.ensures

pub returns : goal.returns
returns c =
    raising_end _ _ _ _ _ _ _ _ _ _ c.loop-k.invariant c.loop-k-test.false
    ∙ ap (raised_from _ _ _ _ _ _ _ 0) (begun_front _ _ c.requires (search rules) _ c.begin.ensures)
