-- `halve` meets its contract. Assumes nothing.
use Rattle.std.proofs.Common.{refl}
use Rattle.axis_search.proofs.Searching.{searching_none, searching_end, searching_found, searching_more}
use Rattle.axis_search.proofs.halve.Goals as goal

pub loop-many-init : goal.loop-many-init
loop-many-init c = searching_none c.requires.0 c.requires.1

pub returns-then-x-axis : goal.returns-then-x-axis
returns-then-x-axis c = searching_found c.loop-many.invariant c.loop-many-test.true refl c.if-x-axis.true

pub loop-many-preserved : goal.loop-many-preserved
loop-many-preserved c =
    searching_more c.loop-many.invariant c.loop-many-test.true refl c.if-x-axis.false c.only_if-low.ensures.answers
    c.only_if.ensures.answers

pub returns : goal.returns
returns c = searching_end c.loop-many.invariant c.loop-many-test.false
