-- `head` meets its contract: what is read from its cursor on.
use Rattle.std.proofs.Common.{◌≡◌, refl}
use Rattle.stored_numbers.proofs.reader.Reader.head.Goals as goal

pub returns-clause-reads : goal.returns-clause-reads
returns-clause-reads c =
    record {
      same = record { plan = refl; room = refl };
      told = c.head_from-read.ensures.told;
      means = c.head_from-read.ensures.means;
      past = c.head_from-read.ensures.past;
      few = c.head_from-read.ensures.few;
    }
