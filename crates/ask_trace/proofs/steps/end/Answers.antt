-- `end` compares as the definition does. Assumes nothing.
use Rattle.ask_trace.proofs.Turns.{ended_full, ended_not}
use Rattle.ask_trace.proofs.steps.end.Goals as goal

pub returns-then-k-n : goal.returns-then-k-n
returns-then-k-n c = ended_full _ _ c.if-k-n.true

pub returns-else-k-n : goal.returns-else-k-n
returns-else-k-n c = ended_not _ _ c.if-k-n.false
