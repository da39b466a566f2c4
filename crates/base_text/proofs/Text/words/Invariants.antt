-- `words` meets its contract: what has been put is a first part of the text.
use Rattle.std.proofs.Common.{take}
use Rattle.base_text.specs.Text.{Adds}
use Rattle.base_text.proofs.Text.words.Given as goal

abbrev pub invariant-loop-b : goal.invariant-loop-b
invariant-loop-b l = Adds (take l.b-index l.fn.text) l.fn.self l.self
