-- `raise_numbers` meets its contract: what is left in the room is stored. Assumes nothing.
use mathlib.Core.Path.{sym}
use native.Mathlib.Omega.{arith}
use borrow.Author.Rules.{rules}
use Rattle.frontier.proofs.Raise.{raise_formed}
use Rattle.frontier.proofs.Fill.{fills_room}
use Rattle.frontier.specs.Walks.{laid}
use Rattle.c_lent.proofs.Lending.{first_long, raise_stored}
use Rattle.c_lent.proofs.raise_numbers.Goals as goal

pub slice_bounds-raise-end : goal.slice_bounds-raise-end
slice_bounds-raise-end c =
    first_long c.args.old.now c.requires.0 (omega arith)

pub slice_bounds-axes-end : goal.slice_bounds-axes-end
slice_bounds-axes-end c = omega (arith, (fills_room _ _ _ _ (raise_formed _ _ _ _) c.raise-r.ensures.answers).0)

pub slice_bounds-put_left-end : goal.slice_bounds-put_left-end
slice_bounds-put_left-end c =
    first_long c.raise-r.new.axes (fills_room _ _ _ _ (raise_formed _ _ _ _) c.raise-r.ensures.answers).0
    (omega arith)

pub slice_bounds-epochs-end : goal.slice_bounds-epochs-end
slice_bounds-epochs-end c = omega (arith, (fills_room _ _ _ _ (raise_formed _ _ _ _) c.raise-r.ensures.answers).1)

pub slice_bounds-put_left-end-2 : goal.slice_bounds-put_left-end-2
slice_bounds-put_left-end-2 c =
    first_long c.raise-r.new.epochs (fills_room _ _ _ _ (raise_formed _ _ _ _) c.raise-r.ensures.answers).1
    (omega arith)

pub put_left-requires : goal.put_left-requires
put_left-requires c =
    let w = fills_room _ _ _ _ (raise_formed _ _ _ _) c.raise-r.ensures.answers in (
      (
        sym (first_long c.raise-r.new.axes w.0 (omega arith)),
        sym (first_long c.raise-r.new.epochs w.1 (omega arith)),
      ),
      search rules,
    )

pub returns : goal.returns
returns c =
    rw c.put_left.ensures.number
    (raise_stored c.args.old.now c.length_of-xn.result c.args.axis c.args.epoch
    c.args.capacity (laid c.raise-r.result) _ _ c.raise-r.ensures.answers _ c.length_of-xn.ensures
    c.put_left.ensures.stored)
