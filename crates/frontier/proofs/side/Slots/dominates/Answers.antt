-- `dominates` meets its contract: the judgements in their order, then what the walk reached. Assumes nothing.
use Rattle.std.proofs.Common.{rules}
use Rattle.frontier.proofs.Sides.{no_left, no_right, dominates_by}
use Rattle.frontier.proofs.side.Slots.dominates.Goals as goal

pub returns-in_err-x : goal.returns-in_err-x
returns-in_err-x c = no_left _ _ _ c.formed.ensures _ c.in_err-x.was _ (search rules)

pub returns-in_err-y : goal.returns-in_err-y
returns-in_err-y c =
    no_right _ _ _ _ c.formed.ensures c.formed-2.ensures _ c.in_ok-x.was _ c.in_err-y.was _ (search rules)

pub returns : goal.returns
returns c =
    dominates_by _ _ _ _ c.formed.ensures c.formed-2.ensures _ _ c.in_ok-x.was c.in_ok-y.was _ _
    c.answer_of.ensures c.reaches.ensures
