-- `nothing` hands back nothing traced. Assumes nothing.
use Rattle.plan_trace.specs.State.{nothing_traced}
use borrow.Author.Rules.{rules}
use Rattle.ask_trace.proofs.nothing.Goals as goal

pub returns : goal.returns
unfolding nothing_traced
returns c = search rules
