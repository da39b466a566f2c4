-- `put_waits` stores three semaphores and three values.
use Rattle.std.proofs.Common.{refl, ap, ◌∙◌, ℕ, ◌%◌}
use Rattle.check_columns.proofs.Putting.{putting_next, putting_end}
use Rattle.check_columns.proofs.put_waits.Goals as goal

pub loop-j-preserved : goal.loop-j-preserved
loop-j-preserved c =
    let l = c.loop-j.invariant in
    let on = c.loop-j-test.true in record {
      semaphores = putting_next l.semaphores on refl (c.low.ensures ∙ ap (λ (z : ℕ). z % 65536) c.waited.ensures);
      values = putting_next l.values on refl c.waited-in-loop-j.ensures;
    }

pub returns-clause-semaphores : goal.returns-clause-semaphores
returns-clause-semaphores c = putting_end c.loop-j-test.false c.loop-j.invariant.semaphores

pub returns-clause-values : goal.returns-clause-values
returns-clause-values c = putting_end c.loop-j-test.false c.loop-j.invariant.values
