-- The loop's invariant: the waits before j stand in their places.
use Rattle.std.proofs.Common.{◌*◌, ◌%◌}
use Rattle.check_columns.specs.Filling.{first_at, second_at, three}
use Rattle.check_columns.proofs.Putting.{Putting}
use Rattle.check_columns.proofs.put_waits.Given as goal

abbrev pub invariant-loop-j : goal.invariant-loop-j
invariant-loop-j l = record {
  semaphores : Putting (λ j. three l.many (first_at l.window 1) j % 65536) (3 * l.i) 3 l.initial.semaphore l.semaphore
      l.j;
  values : Putting (three l.many (second_at l.window 1)) (3 * l.i) 3 l.initial.value l.value l.j;
}
