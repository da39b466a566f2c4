-- `lookup_numbers` meets its contract: by the slots that are lent. Assumes nothing.
use native.Mathlib.Omega.{arith}
use Rattle.c_lent.proofs.Lending.{first_long, lookup_lent}
use Rattle.c_lent.proofs.lookup_numbers.Goals as goal

pub slice_bounds-lookup-end : goal.slice_bounds-lookup-end
slice_bounds-lookup-end c =
    first_long c.args.numbers.now c.requires (omega arith)

pub returns : goal.returns
returns c =
    lookup_lent c.args.numbers.now _ _ _ c.length_of-len.ensures
    c.lookup.ensures.by_halving
