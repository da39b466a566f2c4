-- `put_signals` stores semaphores, values and the operation, one after the other.
use Rattle.std.proofs.Common.{refl}
use Rattle.check_columns.proofs.Putting.{putting_next, putting_end}
use Rattle.check_columns.proofs.put_signals.Goals as goal

pub loop-j-preserved : goal.loop-j-preserved
loop-j-preserved c =
    let l = c.loop-j.invariant in
    let on = c.loop-j-test.true in record {
      semaphores = putting_next l.semaphores on c.put.ensures c.low.ensures;
      values = putting_next l.values on c.put-in-loop-j.ensures refl;
      operations = putting_next l.operations on c.put-in-loop-j-2.ensures refl;
    }

pub returns-clause-semaphores : goal.returns-clause-semaphores
returns-clause-semaphores c = putting_end c.loop-j-test.false c.loop-j.invariant.semaphores

pub returns-clause-values : goal.returns-clause-values
returns-clause-values c = putting_end c.loop-j-test.false c.loop-j.invariant.values

pub returns-clause-operations : goal.returns-clause-operations
returns-clause-operations c = putting_end c.loop-j-test.false c.loop-j.invariant.operations
