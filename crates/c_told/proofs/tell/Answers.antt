-- `tell` meets its contract: the three numbers are read as they were stored. Assumes nothing.
use mathlib.Core.Path.{refl}
use Rattle.c_told.specs.Told.{told_of}
use Rattle.c_told.proofs.tell.Goals as goal

pub returns : goal.returns
unfolding told_of
returns c = refl
