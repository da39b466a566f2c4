-- `whole` meets its contract: what the sections read in the form that is told, and how it ends.
use Rattle.std.proofs.Common.{arith}
use Rattle.stored_numbers.proofs.ReadingEnds.{form_ends, form_array, form_few}
use Rattle.stored_numbers.proofs.reader.Reader.whole.Goals as goal

pub returns-clause-told : goal.returns-clause-told
returns-clause-told c =
    form_ends c.sections-read.ensures.reads.read
    (omega (arith, c.requires.room, c.sections-read.ensures.reads.few, c.sections-read.ensures.reads.past.as_long)) _
    (rw c.sections-read.ensures.reads.same.plan at c.finished.ensures)

pub returns-clause-array : goal.returns-clause-array
returns-clause-array c =
    form_array c.sections-read.ensures.reads.read
    (omega (arith, c.requires.room, c.sections-read.ensures.reads.few, c.sections-read.ensures.reads.past.as_long))
    c.sections-read.ensures.reads.past

pub returns-clause-few : goal.returns-clause-few
returns-clause-few c =
    form_few c.sections-read.ensures.reads.read
    (omega (arith, c.requires.room, c.sections-read.ensures.reads.few, c.sections-read.ensures.reads.past.as_long)) _
    c.sections-read.ensures.reads.few _
    (rw c.sections-read.ensures.reads.same.plan at c.finished.ensures)

pub returns-clause-long : goal.returns-clause-long
returns-clause-long c =
    c.sections-read.ensures.reads.past.as_long
