-- `entries` meets its contract: the first entries have been put.
use Rattle.base_lists.specs.Lists.{join_from}
use Rattle.base_text.specs.Text.{Adds}
use Rattle.print_ask.specs.Questions.{entry_text}
use Rattle.print_ask.proofs.entries.Given as goal

abbrev pub invariant-loop-i : goal.invariant-loop-i
invariant-loop-i l = Adds (join_from l.i 0 (entry_text l.fn.axes l.fn.epochs)) l.fn.text l.text
