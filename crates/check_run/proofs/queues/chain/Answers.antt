-- `queues::chain` chains the operations from the last to the first: the invariant says so of those passed. Assumes
-- nothing.
use Rattle.std.proofs.Common.{rules, ◌≡◌, ◌-◌}
use native.Mathlib.Omega.{arith}
use lib.ListN.{get_or, set}
use Rattle.check_run.proofs.Chains.{chained_none, chained_more}
use Rattle.check_run.proofs.queues.chain.Goals as goal

pub loop-i-init : goal.loop-i-init
loop-i-init c = (omega arith, chained_none _ _ c.requires.0 _ _ c.requires.1 c.requires.2)

pub loop-i-preserved : goal.loop-i-preserved
loop-i-preserved c =
    let k = c.loop-i.i - 1 in
    let q_is : c.from-q.result ≡ get_or c.args.queue.now k 0 = search rules in
    let next_is : c.put.new.a ≡ set c.loop-i.next k c.get_or-first.result = search rules in (
      omega (arith, c.loop-i.invariant.0),
      chained_more _ _ c.requires.0 k _ _ _ _ _ _ (omega (arith, c.loop-i.invariant.0, c.loop-i-test.true)) c.loop-i.i
          (omega (arith, c.loop-i-test.true)) c.loop-i.invariant.1 q_is c.get_or-first.ensures next_is
          c.put-in-loop-i.ensures,
    )
