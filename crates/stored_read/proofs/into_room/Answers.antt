-- `into_room` meets its contract: too little room, or the numbers in front of it.
use Rattle.stored_read.proofs.ReadRoom.{too_short, in_room}
use Rattle.stored_read.proofs.into_room.Goals as goal

pub returns-then-room-many : goal.returns-then-room-many
returns-then-room-many c = rw c.at.ensures (too_short c.args.numbers.now c.args.room.now c.if-room-many.true)

pub returns : goal.returns
returns c = rw c.copy_from_slice.ensures.after (in_room c.args.numbers.now c.args.room.now c.if-room-many.false)
