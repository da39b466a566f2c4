-- `merged` meets its contract: the refusals in their order, then the union and its cut. Assumes nothing.
use Rattle.std.proofs.Common.{◌≡◌, Err, refl, rules}
use Rattle.frontier.proofs.Fill.{left_same, left_refused}
use Rattle.frontier.proofs.Sides.{refused_merge, refused_other, fits_capacity, merge_by}
use Rattle.frontier.proofs.side.Slots.merged.Goals as goal

pub returns-in_err-x : goal.returns-in_err-x
returns-in_err-x c =
    let gone : c.from_residual.result ≡ Err c.in_err-x.field-0.0 = search rules in
    rw gone (left_refused _ _ _ _ _ (refused_merge _ _ _ c.judged.ensures _ _ c.in_err-x.was) c.requires refl)

pub returns-in_err-y : goal.returns-in_err-y
returns-in_err-y c =
    let gone : c.from_residual-in_err-y.result ≡ Err c.in_err-y.field-0.0 = search rules in
    rw gone (left_refused _ _ _ _ _
    (refused_other _ _ _ c.judged.ensures _ _ c.formed.ensures _ c.in_ok-x.was _ c.in_err-y.was) c.requires refl)

pub join-requires-clause-le_capacity : goal.join-requires-clause-le_capacity
join-requires-clause-le_capacity c = fits_capacity _ _ _ c.judged.ensures _ c.in_ok-x.was

pub returns : goal.returns
returns c =
    left_same (merge_by _ _ _ c.judged.ensures _ _ c.formed.ensures _ c.in_ok-x.was _ c.in_ok-y.was) c.join.ensures
