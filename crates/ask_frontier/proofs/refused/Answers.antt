-- `refused` meets its contract: the frontier is the empty one. Assumes nothing.
use mathlib.Core.Path.{ap}
use Rattle.frontier.specs.declared.Frontier.{Frontier}
use Rattle.ask_frontier.proofs.refused.Goals as goal

pub returns : goal.returns
returns c =
    ap (λ (f : Frontier). record { number = c.args.number; place = c.args.place; frontier = f })
    c.empty.ensures
