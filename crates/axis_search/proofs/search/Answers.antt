-- `search` meets its contract: of too many nothing is read. Assumes nothing.
use Rattle.axis_search.proofs.Halves.{searched_none, searched_means}
use Rattle.axis_search.proofs.search.Goals as goal

pub returns-then-len-gt-SLOTS : goal.returns-then-len-gt-SLOTS
returns-then-len-gt-SLOTS c =
    let e = searched_none _ _ _ c.then-len-gt-SLOTS.either in record { answers = e; means = searched_means _ _ _ e }

pub returns-clause-means : goal.returns-clause-means
returns-clause-means c = searched_means _ _ _ c.halve.ensures
