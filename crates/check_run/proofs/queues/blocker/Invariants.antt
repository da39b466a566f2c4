-- `queues::blocker` gives the first source that has not run: those passed have. Assumes nothing.
use Rattle.check_run.proofs.Looks.{Passed}
use Rattle.check_run.proofs.queues.blocker.Given as goal

abbrev pub invariant-loop-k : goal.invariant-loop-k
invariant-loop-k l = Passed l.source l.ran l.j l.k
