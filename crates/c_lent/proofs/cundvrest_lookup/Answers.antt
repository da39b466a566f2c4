-- `cundvrest_lookup` meets its contract: absent or listed, told and stored. Assumes nothing.
use mathlib.Core.Path.{◌∙◌}
use Rattle.c_lent.proofs.FrontierCalls.{lookup_answered}
use Rattle.c_lent.proofs.Lending.{absent_says, listed_says}
use Rattle.c_lent.proofs.cundvrest_lookup.Goals as goal

pub returns-in_default : goal.returns-in_default
returns-in_default c =
    let all =
    lookup_answered _ _ _ _
    (absent_says _ _ _ c.lookup_numbers.ensures c.in_default.is
    (c.tell.ensures ∙ c.answered.ensures)) in
    record {
      says = all.0;
      means = all.1;
    }

pub returns : goal.returns
returns c =
    let all =
    lookup_answered _ _ _ _ (listed_says _ _ _ _ c.lookup_numbers.ensures c.in-Some.is
    (c.tell-2.ensures ∙ c.answered-2.ensures)) in
    record {
      says = all.0;
      means = all.1;
    }
