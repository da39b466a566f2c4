-- `front` meets its contract: what comes before the operations, in the form that is told. Assumes nothing.
use Rattle.stored_numbers.proofs.reader.Reader.front.Goals as goal

pub returns-clause-told : goal.returns-clause-told
returns-clause-told c =
    c.in-Ok.ensures.reads.told

pub returns-clause-means : goal.returns-clause-means
returns-clause-means c =
    c.in-Ok.ensures.reads.means

pub returns-in-Err-clause-told : goal.returns-in-Err-clause-told
returns-in-Err-clause-told c =
    c.in-Err.ensures.reads.told

pub returns-in-Err-clause-means : goal.returns-in-Err-clause-means
returns-in-Err-clause-means c =
    c.in-Err.ensures.reads.means
