-- `finished` meets its contract: a refusal on the way, bytes after the end, or a whole plan.
use Rattle.std.proofs.Common.{refl}
use Rattle.stored_numbers.proofs.Fields.{reason_given}
use Rattle.stored_numbers.proofs.ReadingEnds.{ends_refused, ends_more, ends_whole}
use Rattle.stored_numbers.proofs.finished.Goals as goal

pub returns-in-Err : goal.returns-in-Err
returns-in-Err c nums l =
    rw (c.at.ensures, c.in-Err.is) (ends_refused _ _ nums (reason_given c.in-Err.reason))

pub returns-then-cursor-plan : goal.returns-then-cursor-plan
returns-then-cursor-plan c nums l =
    rw (c.at-then-cursor-plan.ensures, c.in_default.is) (ends_more _ _ nums refl c.if-cursor-plan.true)

pub returns : goal.returns
returns c nums l =
    rw c.in_default.is (ends_whole _ _ nums refl c.if-cursor-plan.false l)
