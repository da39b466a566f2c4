-- `reaching` meets its contract: by the two tests. Assumes nothing.
use Rattle.std.proofs.Common.{sym, ◌∙◌}
use Rattle.frontier_rows.specs.Rows.{reaching_row}
use Rattle.frontier_rows.proofs.reaching.Goals as goal

pub returns-then-row_reaches-clause-row : goal.returns-then-row_reaches-clause-row
unfolding reaching_row
returns-then-row_reaches-clause-row c = rw (sym c.row_reaches.ensures ∙ c.if-row_reaches.true)

pub returns-then-row_reaches-2-clause-row : goal.returns-then-row_reaches-2-clause-row
unfolding reaching_row
returns-then-row_reaches-2-clause-row c =
    rw (sym c.row_reaches.ensures ∙ c.if-row_reaches.false, sym c.row_reaches-2.ensures ∙ c.if-row_reaches-2.true)

pub returns-clause-row : goal.returns-clause-row
unfolding reaching_row
returns-clause-row c =
    rw (sym c.row_reaches.ensures ∙ c.if-row_reaches.false, sym c.row_reaches-2.ensures ∙ c.if-row_reaches-2.false)
