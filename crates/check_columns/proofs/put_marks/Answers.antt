-- `put_marks` stores buffers with kinds, and the operation, one after the other.
use Rattle.std.proofs.Common.{refl}
use Rattle.check_columns.proofs.Putting.{putting_next, putting_end}
use Rattle.check_columns.proofs.put_marks.Goals as goal

pub loop-j-preserved : goal.loop-j-preserved
loop-j-preserved c =
    let l = c.loop-j.invariant in
    let on = c.loop-j-test.true in record {
      marks = putting_next l.marks on c.put.ensures refl;
      operations = putting_next l.operations on c.put-in-loop-j.ensures refl;
    }

pub returns-clause-marks : goal.returns-clause-marks
returns-clause-marks c = putting_end c.loop-j-test.false c.loop-j.invariant.marks

pub returns-clause-operations : goal.returns-clause-operations
returns-clause-operations c = putting_end c.loop-j-test.false c.loop-j.invariant.operations
