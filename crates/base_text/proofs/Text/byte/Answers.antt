-- `byte` meets its contract.
use Rattle.std.proofs.Common.{arith, refl}
use Rattle.base_text.proofs.Putting.{puts_byte, puts_full}
use Rattle.base_text.proofs.Text.byte.Goals as goal

pub returns-then-self : goal.returns-then-self
returns-then-self c = record { puts = puts_byte _ _ _ (omega arith); same_room = refl }

pub returns-else-self : goal.returns-else-self
returns-else-self c = record { puts = puts_full _ _ _ (omega arith); same_room = refl }
