-- `tried` meets its contract: the first form takes the list, or the second decides.
use Rattle.std.proofs.Common.{refl}
use Rattle.stored_bytes.proofs.Writers.{reason_given}
use Rattle.stored_write.proofs.WrittenRoom.{tried_first, tried_second}
use Rattle.stored_write.proofs.tried.Goals as goal

pub returns-in-Ok : goal.returns-in-Ok
returns-in-Ok c = tried_first c.in-Ok.ensures refl

pub returns-in-Err : goal.returns-in-Err
returns-in-Err c = tried_second c.in-Err.ensures (reason_given c.in-Err.field-0.reason) c.write_bytes-in-Err.ensures
