-- `unmet` gives the first wait that is held: none before it is. Assumes nothing.
use Rattle.ask_trace.specs.Walk.{wait_unmet}
use borrow.Author.Count.{below_more}
use mathlib.Core.Path.{refl, sym, ◌∙◌}
use native.Mathlib.Omega.{arith}
use Rattle.ask_trace.proofs.Turns.{unmet_at, unmet_nowhere}
use Rattle.ask_trace.proofs.steps.unmet.Goals as goal

pub returns-then-holds : goal.returns-then-holds
unfolding wait_unmet
returns-then-holds c =
    unmet_at _ _ _ _ c.args.j _ c.loop-k-test.true (sym c.holds.ensures ∙ c.if-holds.true) c.loop-k.invariant.1

pub loop-k-preserved : goal.loop-k-preserved
unfolding wait_unmet
loop-k-preserved c =
    (refl, below_more _ _ c.loop-k.invariant.1 (sym c.holds.ensures ∙ c.if-holds.false))

pub returns : goal.returns
returns c = unmet_nowhere _ _ _ _ _ (λ i l. c.loop-k.invariant.1 i (omega (arith, l, c.loop-k-test.false)))
