-- `queues::look` looks at one queue. Assumes nothing.
use Rattle.std.proofs.Common.{rules, ◌≡◌, ◌+◌}
use native.Mathlib.Omega.{arith}
use lib.ListN.{length}
use Rattle.plan_format.specs.Sizes.{no_operation}
use Rattle.check_run.proofs.Looks.{unit_shifted, looked_closed, looked_unblocked, looked_held}
use Rattle.check_run.proofs.queues.look.Goals as goal

pub returns-then-j-ge-NO_OPERATION_STORED : goal.returns-then-j-ge-NO_OPERATION_STORED
returns-then-j-ge-NO_OPERATION_STORED c =
    looked_closed _ _ _ _ _ _ _ c.get_or-j.ensures c.if-j-ge-NO_OPERATION_STORED.true

pub returns-then-b-eq-NO_OPERATION_STORED : goal.returns-then-b-eq-NO_OPERATION_STORED
returns-then-b-eq-NO_OPERATION_STORED c =
    looked_unblocked _ _ _ _ _ _ _ c.get_or-j.ensures c.if-j-ge-NO_OPERATION_STORED.false _
    (rw c.from.ensures at c.blocker-b.ensures) c.if-b-eq-NO_OPERATION_STORED.true
    _ (unit_shifted c.args.q 65536 c.requires (omega arith))

pub returns : goal.returns
returns c =
    let long : length c.args.waiter.now ≡ no_operation + 1 = search rules in
    looked_held _ _ _ _ _ _ _ c.get_or-j.ensures long _ (rw c.from.ensures at c.blocker-b.ensures)
    c.if-b-eq-NO_OPERATION_STORED.false
    _ (unit_shifted c.args.q 65536 c.requires (omega arith)) _
    (rw c.from-2.ensures at c.get_or-w.ensures) _ (rw c.from-3.ensures at c.put.ensures)
