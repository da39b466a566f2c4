-- `bound_of` meets its contract: the loop's invariant is `CutBound`: the bounds are right, and so is every slot seen.
-- Assumes nothing.
use native.Mathlib.Omega.{arith}
use mathlib.Core.Path.{sym, ◌∙◌}
use borrow.Author.Rules.{rules}
use Rattle.frontier_slots.specs.Slots.{slot}
use Rattle.frontier.proofs.Trim.{bounded_none, bounded_lost, bounded_kept, bounded_low, bounded_high}
use Rattle.frontier.proofs.Trim.{bounded_end, bounded_one}
use Rattle.frontier.proofs.cuts.bound_of.Goals as goal

pub least-requires : goal.least-requires
least-requires c =
    record {
      len_in_bounds = c.requires.len_in_bounds;
      len_nonzero = search rules;
    }

pub returns-then-len-capacity : goal.returns-then-len-capacity
returns-then-len-capacity c = bounded_one _ _ _ _ _ c.least.ensures c.if-len-capacity.true

pub loop-i-init : goal.loop-i-init
loop-i-init c =
    bounded_none _ _ _ _ _ c.requires.len_in_bounds.2 c.requires.le_capacity.1
    c.requires.le_capacity.0 (λ k. omega (arith, c.type_inv.axes k))
    (λ k. omega (arith, c.type_inv.epochs k))

pub loop-i-preserved-then-not-exceeds : goal.loop-i-preserved-then-not-exceeds
unfolding slot
loop-i-preserved-then-not-exceeds c =
    bounded_lost _ _ _ _ _ _ _ c.loop-i.invariant
    (sym c.exceeds.ensures ∙ c.if-not-exceeds.true)

pub loop-i-preserved-then-not-exceeds-2 : goal.loop-i-preserved-then-not-exceeds-2
unfolding slot
loop-i-preserved-then-not-exceeds-2 c =
    bounded_kept _ _ _ _ _ _ _ c.loop-i.invariant (sym c.exceeds-in-loop-i.ensures ∙ c.if-not-exceeds-2.true)

pub loop-i-preserved-then-count_above-capacity : goal.loop-i-preserved-then-count_above-capacity
unfolding slot
loop-i-preserved-then-count_above-capacity c =
    bounded_low _ _ _ _ _ _ _ _ c.loop-i.invariant c.count_above.ensures c.if-count_above-capacity.true

pub loop-i-preserved : goal.loop-i-preserved
unfolding slot
loop-i-preserved c =
    bounded_high _ _ _ _ _ _ _ _ c.loop-i.invariant (sym c.exceeds.ensures
    ∙ c.if-not-exceeds.false) c.count_above.ensures c.if-count_above-capacity.false

pub returns : goal.returns
returns c = bounded_end _ _ _ _ _ _ _ c.loop-i.invariant c.loop-i-test.false
