-- `leave::rows` meets its contract: after i turns the first i numbers of the rows are in front. Assumes nothing.
use mathlib.Core.Path.{◌≡◌, ◌∙◌}
use native.Mathlib.Omega.{arith}
use Rattle.check_passes.proofs.Zeroed.{taken}
use Rattle.check_passes.proofs.leave.rows.Goals as goal

pub returns : goal.returns
returns c =
    let e : c.loop-i.i ≡ c.args.n = omega (arith, c.loop-i.auto.i-end, c.loop-i-test.false) in
    rw e at c.loop-i.invariant ∙ taken _ _ _ c.requires.0
