-- `check_marks::broken` gives the lower of what the two passes find, and none where it is the number that stands for
-- none. Assumes nothing.
use Rattle.check_marks.proofs.Found.{lower_found, lower_apart, plans_by, below_by}
use Rattle.check_marks.proofs.broken.Goals as goal

pub returns : goal.returns
returns c =
    let apart = lower_apart _ _ _ _ c.from-none.ensures c.then_some.ensures in
    let found = lower_found _ _ _ _ _ _ _ _ _ _ _ _ _ c.from-none.ensures c.min.ensures c.min-many.ensures
    c.uses-late.ensures c.reuses-early.ensures c.min-lowest.ensures c.then_some.ensures in
    record {
      found = found;
      apart = apart;
      below = λ p given. below_by _ found apart given;
      of_plans = λ p given. plans_by found given;
    }
