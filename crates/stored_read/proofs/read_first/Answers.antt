-- `read_first` meets its contract: what was read in the first form goes into the room.
use Rattle.std.proofs.Common.{rules, ◌≡◌, refl, Err}
use Rattle.plan_format.specs.Form.{first_form, scanned_by}
use Rattle.plan_format.specs.Grammar.{bytes}
use Rattle.stored_numbers.specs.Reading.{Ends}
use Rattle.stored_read.proofs.ReadRoom.{refused_read, numbers_read, rest_taken, first_says}
use Rattle.stored_read.proofs.read_first.Goals as goal

pub returns-in_err-many : goal.returns-in_err-many
unfolding Ends
returns-in_err-many c =
    let e : c.from_residual.result ≡ Err c.in_err-many.field-0.0 = search rules in
    let scan = scanned_by bytes first_form c.args.plan.now in
    rw e (first_says c.args.plan.now c.requires _ _ _
    (refused_read scan.got c.in_err-many.field-0.0 c.in_err-many.ensures.told c.args.room.now))

pub returns : goal.returns
unfolding Ends
returns c =
    let scan = scanned_by bytes first_form c.args.plan.now in
    first_says c.args.plan.now c.requires _ _ _
    (numbers_read scan.got _ c.in_ok-many.ensures.told refl
    (rest_taken scan _ _ c.in_ok-many.ensures.told c.in_ok-many.ensures.array) _ _ _ c.into_room.ensures)
