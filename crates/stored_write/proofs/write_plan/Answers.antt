-- `write_plan` meets its contract: a refusal, too little room, or the bytes in front of the room.
use Rattle.std.proofs.Common.{rules, ◌≡◌, Err}
use Rattle.stored_write.proofs.WrittenRoom.{written_refused, written_short, written_stored}
use Rattle.stored_write.proofs.write_plan.Goals as goal

pub returns-in_err-length-clause-says : goal.returns-in_err-length-clause-says
returns-in_err-length-clause-says c =
    let e : c.from_residual.result ≡ Err c.in_err-length.field-0.0 = search rules in
    rw e (written_refused c.in_err-length.field-0.0 c.in_err-length.ensures).0

pub returns-in_err-length-clause-means : goal.returns-in_err-length-clause-means
returns-in_err-length-clause-means c =
    let e : c.from_residual.result ≡ Err c.in_err-length.field-0.0 = search rules in
    rw e (written_refused c.in_err-length.field-0.0 c.in_err-length.ensures).1

pub returns-then-room-many-clause-says : goal.returns-then-room-many-clause-says
returns-then-room-many-clause-says c = rw c.at.ensures (written_short _ c.in_ok-length.ensures c.if-room-many.true).0

pub returns-then-room-many-clause-means : goal.returns-then-room-many-clause-means
returns-then-room-many-clause-means c = rw c.at.ensures (written_short _ c.in_ok-length.ensures c.if-room-many.true).1

pub returns-clause-says : goal.returns-clause-says
returns-clause-says c =
    (written_stored _ c.in_ok-length.ensures c.if-room-many.false c.copy_from_slice.ensures.after).0

pub returns-clause-means : goal.returns-clause-means
returns-clause-means c =
    (written_stored _ c.in_ok-length.ensures c.if-room-many.false c.copy_from_slice.ensures.after).1
