-- `raised` meets its contract: refused, one slot with another epoch, or joined with one entry. Assumes nothing.
use Rattle.std.proofs.Common.{◌≡◌, ◌<◌, Err, refl, arith, rules}
use Rattle.frontier_slots.specs.Entries.{most_entries}
use Rattle.frontier.proofs.Fill.{left_same, left_refused, left_stored}
use Rattle.frontier.proofs.Sides.{kept, refused_raise, fits_capacity, raise_stored_by, raise_joined_by}
use Rattle.frontier.proofs.side.Slots.raised.Goals as goal
use Rattle.frontier.proofs.side.Slots.raised.Goals.{In-Some}

below : (c : In-Some) → c.in-Some.at < most_entries
below c = let w = c.search.ensures.means.of_axis _ c.in-Some.is in omega (arith, w.0, w.1)

pub returns-in_err-x : goal.returns-in_err-x
returns-in_err-x c =
    let gone : c.from_residual.result ≡ Err c.in_err-x.field-0.0 = search rules in
    rw gone (left_refused _ _ _ _ _ (refused_raise _ _ _ c.judged.ensures _ _ _ c.in_err-x.was) c.requires refl)

pub offset_bounds-epochs-at : goal.offset_bounds-epochs-at
offset_bounds-epochs-at c =
    record { fits = omega (arith, below (goal.at.offset_bounds-epochs-at c).In-Some) }

pub bounds-epochs-at : goal.bounds-epochs-at
bounds-epochs-at c =
    omega (arith, below (goal.at.bounds-epochs-at c).In-Some, c.copy-in-Some.ensures.long)

pub offset_bounds-x-at : goal.offset_bounds-x-at
offset_bounds-x-at c = record { fits = omega (arith, below (goal.at.offset_bounds-x-at c).In-Some) }

pub bounds-x-at : goal.bounds-x-at
bounds-x-at c =
    omega (arith, below (goal.at.bounds-x-at c).In-Some, (kept _ _ c.in_ok-x.was).1.1)

pub returns-in-Some : goal.returns-in-Some
returns-in-Some c =
    let l = (goal.at.returns-in-Some c).In-Some in
    let k = kept _ _ c.in_ok-x.was in
    let w = c.search.ensures.means.of_axis _ c.in-Some.is in
    left_stored _ _ _ _ _ _ _ _ _ c.copy.ensures c.copy-in-Some.ensures k.0 (below l) k.1.1
    (raise_stored_by _ _ _ c.judged.ensures _ c.in_ok-x.was _ _ _ _ w.0 w.3 c.max.ensures c.if-x-capacity.true)

pub join_one-requires-clause-le_capacity : goal.join_one-requires-clause-le_capacity
join_one-requires-clause-le_capacity c = fits_capacity _ _ _ c.judged.ensures _ c.in_ok-x.was

pub returns : goal.returns
returns c = left_same (raise_joined_by _ _ _ c.judged.ensures _ c.in_ok-x.was _ _) c.join_one.ensures
