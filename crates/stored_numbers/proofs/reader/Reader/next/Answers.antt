-- `next` meets its contract: a word of the bytes that are left.
use Rattle.std.proofs.Common.{arith}
use Rattle.stored_numbers.proofs.Words.{word_read}
use Rattle.stored_numbers.proofs.reader.Reader.next.Goals as goal

pub returns : goal.returns
returns g c = word_read g.row.WIDTH _ _ c.args.self.now.plan.now (omega arith) c.read_uint.ensures
