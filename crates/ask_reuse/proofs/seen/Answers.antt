-- `seen` compares the two rows as the definition does. Assumes nothing.
use mathlib.Core.Path.{◌∙◌}
use Rattle.ask_reuse.proofs.ReuseTurns.{seen_none, seen_past, seen_some}
use Rattle.ask_reuse.proofs.seen.Goals as goal

pub returns-in_default : goal.returns-in_default
returns-in_default c o m = seen_none _ _ o _ (rw c.in_default.is at m)

pub returns-then-last-ge-MOST_OPERATIONS : goal.returns-then-last-ge-MOST_OPERATIONS
returns-then-last-ge-MOST_OPERATIONS c o m =
    seen_past _ _ o _ _ (rw c.in-Some.is at m) c.if-last-ge-MOST_OPERATIONS.true

pub returns : goal.returns
returns c o m =
    seen_some _ _ o _ _ _ _ _ (rw c.in-Some.is at m) c.if-last-ge-MOST_OPERATIONS.false
    (c.from-q.ensures ∙ c.get_or.ensures) c.get_or-2.ensures c.get_or-3.ensures
