-- `zeros` is as long as it says.
use Rattle.std.proofs.Common.{ℕ}
use Rattle.std.proofs.lemmas.List.{length-replicate}
use Rattle.try_read.proofs.zeros.Goals as goal

pub returns : goal.returns
returns c = length-replicate {0} {A = ℕ} 1048672 0
