-- `checked` meets its contract: the rows of the first operations have been put.
use Rattle.base_lists.specs.Lists.{join_from}
use Rattle.base_text.specs.Text.{Adds}
use Rattle.print_check.specs.CheckText.{row_text}
use Rattle.print_check.proofs.checked.Given as goal

abbrev pub invariant-loop-i : goal.invariant-loop-i
invariant-loop-i l = Adds (join_from l.i 0 (row_text l.counts.queues l.table)) l.initial.text l.text
