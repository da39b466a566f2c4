-- `by_last_mark` goes from the last mark to the first: the last one on the buffer is among those left. Assumes nothing.
use mathlib.Core.Path.{ap, ◌∙◌}
use Prim.Native.Nat.{ℕ, ◌%◌}
use native.Mathlib.Omega.{arith}
use Rattle.plan_format.specs.Sizes.{most_operations}
use Rattle.check_columns.specs.Shown.{mark_codes}
use Rattle.ask_reuse.proofs.ReuseTurns.{left_none, left_other, left_own}
use Rattle.ask_reuse.proofs.by_last_mark.Goals as goal

pub returns-then-m-b : goal.returns-then-m-b
returns-then-m-b c o m =
    left_own c.args.mark.now c.args.b c.loop-k.invariant _ (omega (arith, c.loop-k-test.true))
    (ap (λ (z : ℕ). z % mark_codes) (c.from-m.ensures ∙ c.get_or.ensures)) _ _ c.if-m-b.true
    (ap (λ (z : ℕ). z % most_operations) (c.from-i.ensures ∙ c.get_or-then-m-b.ensures)) (c.seen.ensures o m)
    c.after.ensures

pub loop-k-preserved : goal.loop-k-preserved
loop-k-preserved c =
    left_other c.args.mark.now c.args.b c.loop-k.invariant _ (omega (arith, c.loop-k-test.true))
    (ap (λ (z : ℕ). z % mark_codes) (c.from-m.ensures ∙ c.get_or.ensures)) c.if-m-b.false

pub returns : goal.returns
returns c o m = left_none c.args.mark.now c.args.b c.loop-k.invariant _ _ (omega (arith, c.loop-k-test.false))
