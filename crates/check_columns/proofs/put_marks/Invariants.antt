-- The loop's invariant: the marks before j stand in their columns.
use Rattle.std.proofs.Common.{◌+◌, ◌*◌, ◌%◌}
use Rattle.check_columns.specs.Filling.{first_at, second_at}
use Rattle.check_columns.proofs.Putting.{Putting}
use Rattle.check_columns.proofs.put_marks.Given as goal

abbrev pub invariant-loop-j : goal.invariant-loop-j
invariant-loop-j l = record {
  marks : Putting (λ j. 2 * (first_at l.window l.at j % 256) + second_at l.window l.at j % 2) l.had l.many
      l.initial.mark l.mark l.j;
  operations : Putting (λ j. l.i) l.had l.many l.initial.operation l.operation l.j;
}
