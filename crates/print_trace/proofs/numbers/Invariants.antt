-- `numbers` meets its contract: the first numbers have been put. Assumes nothing.
use Rattle.base_lists.specs.Lists.{join_from}
use Rattle.base_text.specs.Text.{Adds}
use Rattle.print_trace.specs.Printed.{number_text}
use Rattle.print_trace.proofs.numbers.Given as goal

abbrev pub invariant-loop-i : goal.invariant-loop-i
invariant-loop-i l = Adds (join_from l.i 0 (number_text l.fn.list)) l.fn.text l.text
