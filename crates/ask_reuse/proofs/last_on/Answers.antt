-- `last_on` goes from the last operation to the first: the queue's last one is among those left. Assumes nothing.
use mathlib.Core.Path.{sym, ◌∙◌}
use native.Mathlib.Omega.{arith}
use borrow.Author.Tests.{eq-eqb, ne_eqb}
use Rattle.ask_reuse.specs.ReusePass.{last_shown}
use Rattle.ask_reuse.proofs.ReuseTurns.{passed_more, passed_here, passed_none}
use Rattle.ask_reuse.proofs.last_on.Goals as goal

pub returns-then-from-q : goal.returns-then-from-q
unfolding last_shown
returns-then-from-q c =
    passed_here _ c.loop-i.invariant _ (omega (arith, c.loop-i-test.true))
    (eq-eqb _ _ (sym (c.from.ensures ∙ c.get_or.ensures) ∙ c.if-from-q.true))

pub loop-i-preserved : goal.loop-i-preserved
loop-i-preserved c =
    passed_more _ c.loop-i.invariant _ (omega (arith, c.loop-i-test.true))
    (ne_eqb _ _ (λ z. c.if-from-q.false (c.from.ensures ∙ c.get_or.ensures ∙ z)))

pub returns : goal.returns
unfolding last_shown
returns c = passed_none _ c.loop-i.invariant (omega (arith, c.loop-i-test.false))
