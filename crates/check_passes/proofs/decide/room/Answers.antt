-- `decide::room` meets its contract: a short table, a short list, or enough of both. Assumes nothing.
use Rattle.plan_format.proofs.Telling.{tells}
use Rattle.check_passes.proofs.Untouched.{short_table, short_list, room_enough}
use Rattle.check_passes.proofs.decide.room.Goals as goal

pub returns-then-table-many : goal.returns-then-table-many
returns-then-table-many c =
    rw (c.at.ensures, c.from-many.ensures) (tells (short_table _ _ _ (rw c.from-many.ensures at c.if-table-many.true)))

pub returns-then-list-many : goal.returns-then-list-many
returns-then-list-many c =
    rw (c.at-then-list-many.ensures, c.from-many.ensures)
    (tells (short_list _ _ _ (rw c.from-many.ensures at c.if-table-many.false)
    (rw c.from-many.ensures at c.if-list-many.true)))

pub returns : goal.returns
returns c =
    tells (room_enough _ _ _ (rw c.from-many.ensures at c.if-table-many.false)
    (rw c.from-many.ensures at c.if-list-many.false))
