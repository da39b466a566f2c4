-- `freeing` goes over the signals: none of those before is of the free's operation or of one after it. Assumes nothing.
use mathlib.Core.Path.{◌∙◌}
use native.Mathlib.Omega.{arith}
use Rattle.ask_suggest.proofs.SuggestTurns.{past_none, past_more, past_here, past_end}
use Rattle.ask_suggest.proofs.freeing.Goals as goal

pub loop-k-init : goal.loop-k-init
loop-k-init c = past_none _ _ _ _ (c.from-q.ensures ∙ c.get_or.ensures) c.get_or-own.ensures

pub returns-then-own-other : goal.returns-then-own-other
returns-then-own-other c =
    past_here _ _ _ _ c.loop-k.invariant (c.from-j.ensures ∙ c.get_or-in-loop-k.ensures) c.get_or-other.ensures _
    c.loop-k-test.true c.if-own-other.true

pub loop-k-preserved : goal.loop-k-preserved
loop-k-preserved c =
    past_more _ _ _ _ c.loop-k.invariant (c.from-j.ensures ∙ c.get_or-in-loop-k.ensures) c.get_or-other.ensures
    c.if-own-other.false

pub returns : goal.returns
returns c = past_end _ _ _ _ c.loop-k.invariant _ c.loop-k-test.false
