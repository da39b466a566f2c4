-- `merge_numbers` meets its contract: what is left in the room is stored. Assumes nothing.
use mathlib.Core.Path.{sym}
use native.Mathlib.Omega.{arith}
use Rattle.frontier.proofs.Merge.{merge_formed}
use Rattle.frontier.proofs.Fill.{fills_room}
use Rattle.frontier.specs.Walks.{laid}
use Rattle.c_lent.proofs.Lending.{first_long, merge_stored}
use Rattle.c_lent.proofs.merge_numbers.Goals as goal

pub slice_bounds-merge-end : goal.slice_bounds-merge-end
slice_bounds-merge-end c =
    first_long c.args.left.now c.requires.0 (omega arith)

pub slice_bounds-merge-end-3 : goal.slice_bounds-merge-end-3
slice_bounds-merge-end-3 c =
    first_long c.args.right.now c.requires.1 (omega arith)

pub slice_bounds-axes-end : goal.slice_bounds-axes-end
slice_bounds-axes-end c = omega (arith, (fills_room _ _ _ _ (merge_formed _ _ _) c.merge-r.ensures.answers).0)

pub slice_bounds-put_left-end : goal.slice_bounds-put_left-end
slice_bounds-put_left-end c =
    first_long c.merge-r.new.axes (fills_room _ _ _ _ (merge_formed _ _ _) c.merge-r.ensures.answers).0
    (omega arith)

pub slice_bounds-epochs-end : goal.slice_bounds-epochs-end
slice_bounds-epochs-end c = omega (arith, (fills_room _ _ _ _ (merge_formed _ _ _) c.merge-r.ensures.answers).1)

pub slice_bounds-put_left-end-2 : goal.slice_bounds-put_left-end-2
slice_bounds-put_left-end-2 c =
    first_long c.merge-r.new.epochs (fills_room _ _ _ _ (merge_formed _ _ _) c.merge-r.ensures.answers).1
    (omega arith)

pub put_left-requires : goal.put_left-requires
put_left-requires c =
    let w = fills_room _ _ _ _ (merge_formed _ _ _) c.merge-r.ensures.answers in (
      (
        sym (first_long c.merge-r.new.axes w.0 (omega arith)),
        sym (first_long c.merge-r.new.epochs w.1 (omega arith)),
      ),
      c.requires.2,
    )

pub returns : goal.returns
returns c =
    rw c.put_left.ensures.number
    (merge_stored c.args.left.now c.args.right.now c.length_of-xn.result
    c.length_of-yn.result c.args.capacity (laid c.merge-r.result) _ _ c.merge-r.ensures.answers _
    c.length_of-xn.ensures c.length_of-yn.ensures c.put_left.ensures.stored)
