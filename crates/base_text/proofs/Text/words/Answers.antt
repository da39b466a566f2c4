-- `words` meets its contract: what has been put is a first part of the text.
use Rattle.std.proofs.Common.{arith}
use Rattle.base_text.proofs.Putting.{adds_none, adds_more}
use Rattle.base_text.proofs.Text.words.Goals as goal

pub loop-b-init : goal.loop-b-init
loop-b-init c = adds_none _

pub loop-b-preserved : goal.loop-b-preserved
loop-b-preserved c = adds_more c.args.text.now c.loop-b.b-index (omega arith) c.loop-b.invariant c.byte.ensures
