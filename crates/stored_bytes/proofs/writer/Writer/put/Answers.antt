-- `put` meets its contract: the bytes in front stay, then come those of the number, then the rest.
use Rattle.stored_bytes.proofs.Digits.{number_put}
use Rattle.stored_bytes.proofs.writer.Writer.put.Goals as goal

pub returns-clause-put : goal.returns-clause-put
returns-clause-put g c = number_put _ _ _ _ c.requires.room c.write_uint.ensures
