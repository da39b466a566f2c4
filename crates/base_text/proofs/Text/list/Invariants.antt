-- `list` meets its contract: what has been put is a first part of the list.
use Rattle.std.proofs.Common.{take, map}
use Rattle.base_text.specs.Text.{Adds, blanked}
use Rattle.base_text.proofs.Text.list.Given as goal

abbrev pub invariant-loop-n : goal.invariant-loop-n
invariant-loop-n g l = Adds (blanked (map g.T.Number.value (take l.n-index l.fn.numbers))) l.fn.self l.self
