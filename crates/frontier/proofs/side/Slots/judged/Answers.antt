-- `judged` meets its contract: the capacity, then the form. Assumes nothing.
use Rattle.frontier.proofs.Merge.{judged_small, judged_large}
use Rattle.frontier.proofs.Sides.{judged_form}
use mathlib.Core.Path.{sym}
use Rattle.frontier.proofs.side.Slots.judged.Goals as goal

pub returns-then-capacity-lt-LEAST : goal.returns-then-capacity-lt-LEAST
returns-then-capacity-lt-LEAST c = sym (judged_small _ _ c.if-capacity-lt-LEAST.true)

pub returns-then-capacity-gt-MOST : goal.returns-then-capacity-gt-MOST
returns-then-capacity-gt-MOST c = sym (judged_large _ _ c.if-capacity-gt-MOST.true)

pub returns : goal.returns
returns c = judged_form _ _ _ c.if-capacity-lt-LEAST.false c.if-capacity-gt-MOST.false c.formed.ensures
