-- `seek` meets its contract: what is skipped of the rest is what is skipped of the whole. Assumes nothing.
use Prim.Native.Nat.{◌≤◌}
use mathlib.Core.Path.{sym, ◌∙◌}
use native.Mathlib.Omega.{arith}
use borrow.Author.Rules.{rules}
use Rattle.frontier_slots.proofs.Slots.{rest_none}
use Rattle.frontier.proofs.Steps.{skip_more, skip_stop, skip_none}
use Rattle.frontier.proofs.side.Formed.seek.Goals as goal

pub returns-then-axis-self : goal.returns-then-axis-self
returns-then-axis-self c = (
  search rules,
  λ l. c.if-axis-self.true,
  skip_stop _ _ _ _ _ c.loop-i-test.true c.if-axis-self.true ∙ c.loop-i.invariant,
)

pub loop-i-preserved : goal.loop-i-preserved
loop-i-preserved c = sym (skip_more _ _ _ _ _ c.loop-i-test.true c.if-axis-self.false) ∙ c.loop-i.invariant

pub returns : goal.returns
returns c =
    let past : c.args.self.len ≤ c.loop-i.i = omega (arith, c.loop-i-test.false) in (
      search rules,
      λ l. absurd (omega arith),
      rest_none c.args.self.axes.now c.args.self.epochs.now _ c.args.self.len (search rules)
          ∙ sym (rest_none _ _ _ c.loop-i.i past) ∙ skip_none _ _ _ _ _ past ∙ c.loop-i.invariant,
    )
