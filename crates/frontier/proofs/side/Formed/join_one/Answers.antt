-- `join_one` meets its contract: joined with one entry as slots. Assumes nothing.
use mathlib.Core.Path.{refl}
use Rattle.frontier.proofs.Raise.{one_fits, one_joined}
use Rattle.frontier.proofs.Fill.{left_same}
use Rattle.frontier.proofs.side.Formed.join_one.Goals as goal

pub invariant_of-one : goal.invariant_of-one
invariant_of-one c = let o = one_fits _ _ _ _ in record { few = o.0; sixteen = (refl, refl); rising = o.1 }

pub returns : goal.returns
returns c = left_same (one_joined _ _ _ _ _ _ _) c.join.ensures
