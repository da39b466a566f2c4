-- `answered` meets its contract: each question is answered by the function for it.
use Rattle.print_input.specs.Inputs.{Answered}
use Rattle.print_input.proofs.answered.Goals as goal

pub returns-in-Check : goal.returns-in-Check
unfolding Answered
returns-in-Check c = rw c.in-Check.is c.check.ensures

pub returns-in-Reuse : goal.returns-in-Reuse
unfolding Answered
returns-in-Reuse c = rw c.in-Reuse.is c.reuse.ensures

pub returns-in-Suggest : goal.returns-in-Suggest
unfolding Answered
returns-in-Suggest c = rw c.in-Suggest.is c.suggest.ensures

pub returns-in-Frontier : goal.returns-in-Frontier
unfolding Answered
returns-in-Frontier c = rw c.in-Frontier.is c.frontier.ensures

pub returns-in-Read : goal.returns-in-Read
unfolding Answered
returns-in-Read c = rw c.in-Read.is c.read.ensures
