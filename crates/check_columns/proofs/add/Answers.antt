-- `add` adds one operation to each column, where its parts are.
use Rattle.std.proofs.Common.{refl, ap, ◌∙◌, ℕ, set}
use Rattle.check_columns.proofs.Parts.{wait_semaphores_put, wait_values_put, signal_semaphores_put, signal_values_put}
use Rattle.check_columns.proofs.Parts.{signal_operations_put, marks_put, mark_operations_put, signals_more}
use Rattle.check_columns.proofs.Parts.{marks_more}
use Rattle.check_columns.proofs.add.Goals as goal

pub returns-clause-added : goal.returns-clause-added
returns-clause-added c =
    let a = c.args in
    let w = c.put_waits-w.ensures.many in
    let s = c.put_signals-s.ensures.many in
    let m = c.put_marks-m.ensures.many in
    λ _. record {
      queues_added = record {
        stored = c.put.ensures ∙ ap (λ (z : ℕ). set a.queue.now a.i z) c.low.ensures;
      };
      wait_semaphores_added = wait_semaphores_put _ 0 w s m a.i c.put_waits-w.ensures.semaphores;
      wait_values_added = wait_values_put _ 0 w s m a.i c.put_waits-w.ensures.values;
      signal_semaphores_added = signal_semaphores_put _ 0 w s m a.i c.put_signals-s.ensures.semaphores;
      signal_values_added = signal_values_put _ 0 w s m a.i c.put_signals-s.ensures.values;
      signal_operations_added = signal_operations_put _ 0 w s m a.i c.put_signals-s.ensures.operations;
      marks_added = marks_put _ 0 w s m a.i c.put_marks-m.ensures.marks;
      mark_operations_added = mark_operations_put _ 0 w s m a.i c.put_marks-m.ensures.operations;
      next = refl;
      more_signals = signals_more _ 0 w s m _;
      more_marks = marks_more _ 0 w s m _;
    }
