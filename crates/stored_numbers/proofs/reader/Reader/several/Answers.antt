-- `several` meets its contract: what is read from its cursor on.
use Rattle.std.proofs.Common.{◌≡◌, refl}
use Rattle.stored_numbers.proofs.reader.Reader.several.Goals as goal

pub returns-clause-reads : goal.returns-clause-reads
returns-clause-reads c =
    record { same = record { plan = refl; room = refl }; reads = c.from_cursor-read.ensures }
