-- `read_either` meets its contract: what was read goes into the room.
use Rattle.std.proofs.Common.{rules, ◌≡◌, refl, Err}
use Rattle.plan_format.specs.Stored.{scanned, read_refusal, ReadSays}
use Rattle.stored_read.proofs.ReadRoom.{refused_read, numbers_read}
use Rattle.stored_read.proofs.read_either.Goals as goal

pub returns-in_err-many : goal.returns-in_err-many
unfolding ReadSays read_refusal
returns-in_err-many c =
    let e : c.from_residual.result ≡ Err c.in_err-many.field-0.0 = search rules in
    rw e (refused_read (scanned c.args.plan.now).got c.in_err-many.field-0.0 c.in_err-many.ensures.told.told
    c.args.room.now)

pub returns : goal.returns
unfolding ReadSays read_refusal
returns c =
    numbers_read (scanned c.args.plan.now).got _ c.in_ok-many.ensures.told.told refl
    (c.in_ok-many.ensures.told.numbers refl) _ _ _ c.into_room.ensures
