-- `read_rest` meets its contract: what was read goes into the room.
use Rattle.std.proofs.Common.{rules, ◌≡◌, refl, Err}
use Rattle.plan_format.specs.Form.{width_by}
use Rattle.stored_numbers.specs.Reading.{head_told_by, is_wide, Ends, rest_scan}
use Rattle.stored_numbers.proofs.Rests.{told_on}
use Rattle.stored_read.specs.Rest.{RestSays}
use Rattle.stored_read.proofs.ReadRoom.{refused_rest, numbers_read, rest_taken}
use Rattle.stored_read.proofs.read_rest.Goals as goal

pub returns-in_err-many : goal.returns-in_err-many
unfolding RestSays Ends
returns-in_err-many g c =
    let e : c.from_residual.result ≡ Err c.in_err-many.field-0.0 = search rules in
    let h = c.args.h.head in
    let n = g.R.Why.number in
    let scan = rest_scan (width_by (is_wide h)) c.args.plan.now c.args.at (head_told_by n h) c.args.h.numbers in
    rw e (refused_rest scan.got n g.met.R.Why.given c.in_err-many.field-0.0 c.in_err-many.ensures.told
    c.args.room.now)

pub returns-in_err-into_room : goal.returns-in_err-into_room
unfolding RestSays Ends
returns-in_err-into_room g c =
    let h = c.args.h.head in
    let n = g.R.Why.number in
    let scan = rest_scan (width_by (is_wide h)) c.args.plan.now c.args.at (head_told_by n h) c.args.h.numbers in
    let told = told_on n c.from_residual-in_err-into_room.result c.in_err-into_room.field-0.0
    c.from_residual-in_err-into_room.ensures.1 in
    rw told
    (numbers_read scan.got _ c.in_ok-many.ensures.told refl
    (rest_taken scan _ _ c.in_ok-many.ensures.told c.in_ok-many.ensures.array) _ _ _ c.in_err-into_room.ensures)

pub returns : goal.returns
unfolding RestSays Ends
returns g c =
    let h = c.args.h.head in
    let n = g.R.Why.number in
    let scan = rest_scan (width_by (is_wide h)) c.args.plan.now c.args.at (head_told_by n h) c.args.h.numbers in
    numbers_read scan.got _ c.in_ok-many.ensures.told refl
    (rest_taken scan _ _ c.in_ok-many.ensures.told c.in_ok-many.ensures.array) _ _ _ c.in_ok-into_room.ensures
