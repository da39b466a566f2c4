-- `gather` meets its contract. The loop's invariant: the axes that are left, raised on what is gathered, give what all
-- give on the empty frontier. Assumes nothing.
use mathlib.Core.Path.{sym, ◌∙◌}
use Rattle.ask_frontier.proofs.SentWalk.{raised_none, raised_more, raised_all, raised_whole}
use Rattle.ask_frontier.proofs.gather.Goals as goal

pub loop-q-init : goal.loop-q-init
loop-q-init c = raised_none _ _ _ _ _ c.empty-f.ensures

pub loop-q-preserved : goal.loop-q-preserved
loop-q-preserved c =
    raised_more _ _ _ _ _ _ _ _ c.loop-q-test.true (c.from-epoch.ensures ∙ c.get_or.ensures) c.raise.ensures.answers
    ∙ c.loop-q.invariant

pub returns : goal.returns
returns c =
    sym (raised_all _ _ _ _ _ _ c.loop-q-test.false) ∙ c.loop-q.invariant ∙ raised_whole _ _ _ _ c.requires
