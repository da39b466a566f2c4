-- `cundvrest_dominates` meets its contract: what is answered is told. Assumes nothing.
use mathlib.Core.Path.{ap, ◌∙◌}
use Rattle.c_lent.specs.Lent.{dominance_told}
use Rattle.c_lent.proofs.FrontierCalls.{dominance_answered}
use Rattle.c_lent.proofs.cundvrest_dominates.Goals as goal

pub returns : goal.returns
returns c =
    let all =
    dominance_answered _ _ _ (c.tell.ensures ∙ c.dominance.ensures
    ∙ ap dominance_told c.dominates_numbers-r.ensures) in
    record {
      says = all.0;
      means = all.1.0;
      oversized_sides = all.1.1;
    }
