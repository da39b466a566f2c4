-- `queues::blocker` gives the first source that has not run. Assumes nothing.
use Rattle.std.proofs.Common.{rules, ◌≡◌}
use native.Mathlib.Omega.{arith}
use lib.ListN.{get_or}
use Rattle.check_run.proofs.Looks.{held_at, held_none}
use Rattle.check_run.proofs.queues.blocker.Goals as goal

pub returns-then-get_or-eq0 : goal.returns-then-get_or-eq0
returns-then-get_or-eq0 c =
    let waits : get_or c.args.ran.now c.get_or-at.result 0 ≡ 0 = search rules in
    held_at _ _ _ c.loop-k.k _ c.loop-k.invariant c.loop-k-test.true c.get_or-at.ensures waits

pub returns : goal.returns
returns c =
    let e : c.loop-k.k ≡ 3 = omega (arith, c.loop-k.auto.k-end, c.loop-k-test.false) in
    held_none _ _ _ (rw e at c.loop-k.invariant)
