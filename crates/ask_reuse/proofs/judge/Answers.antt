-- `judge` takes the queue's last operation, and then the last mark. Assumes nothing.
use Rattle.ask_reuse.proofs.ReuseTurns.{judged_is}
use Rattle.ask_reuse.proofs.ReuseVerdict.{judged_right}
use Rattle.ask_reuse.proofs.judge.Goals as goal

pub returns-clause-found : goal.returns-clause-found
returns-clause-found c = judged_is _ _ _ _ _ _ _ _ (c.by_last_mark.ensures _ c.last_on-last.ensures)

pub returns-clause-of_plans : goal.returns-clause-of_plans
returns-clause-of_plans c = λ p known shown. judged_right shown _ _ known
    (judged_is _ _ _ _ _ _ _ _ (c.by_last_mark.ensures _ c.last_on-last.ensures))
