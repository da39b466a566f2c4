-- The loop's invariant: the signals before j stand in their columns.
use Rattle.std.proofs.Common.{◌%◌}
use Rattle.check_columns.specs.Filling.{first_at, second_at}
use Rattle.check_columns.proofs.Putting.{Putting}
use Rattle.check_columns.proofs.put_signals.Given as goal

abbrev pub invariant-loop-j : goal.invariant-loop-j
invariant-loop-j l = record {
  semaphores : Putting (λ j. first_at l.window l.at j % 65536) l.had l.many l.initial.semaphore l.semaphore l.j;
  values : Putting (λ j. second_at l.window l.at j) l.had l.many l.initial.value l.value l.j;
  operations : Putting (λ j. l.i) l.had l.many l.initial.operation l.operation l.j;
}
