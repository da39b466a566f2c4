-- `dominates_numbers` meets its contract: by the slots that are lent. Assumes nothing.
use native.Mathlib.Omega.{arith}
use Rattle.c_lent.proofs.Lending.{first_long, dominance_lent}
use Rattle.c_lent.proofs.dominates_numbers.Goals as goal

pub slice_bounds-dominates-end : goal.slice_bounds-dominates-end
slice_bounds-dominates-end c =
    first_long c.args.left.now c.requires.0 (omega arith)

pub slice_bounds-dominates-end-3 : goal.slice_bounds-dominates-end-3
slice_bounds-dominates-end-3 c =
    first_long c.args.right.now c.requires.1 (omega arith)

pub returns : goal.returns
returns c =
    dominance_lent c.args.left.now c.args.right.now _ _ _ c.length_of-xn.ensures
    c.length_of-yn.ensures c.dominates.ensures.answers
