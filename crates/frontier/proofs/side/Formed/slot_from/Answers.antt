-- `slot_from` meets its contract: slot `from`, or the slot that the search came to, if it is of the axis. Assumes
-- nothing.
use Rattle.std.proofs.Common.{refl}
use Rattle.frontier.proofs.Lookups.{came_end, came_first, came_later, slot_is}
use Rattle.frontier.proofs.side.Formed.slot_from.Goals as goal
use Rattle.frontier.proofs.side.Formed.slot_from.Goals.{else-from-self-via-then-from-self+else-self-from}
use Rattle.frontier.proofs.side.Formed.slot_from.Goals.{else-from-self-via-else-from-self}

pub returns-then-self-from : goal.returns-then-self-from
returns-then-self-from c =
    slot_is _ _ _ _ _ _
    (came_later _ c.args.self.epochs.now _ _ _ _
    c.if-from-self.true c.if-self-from.true _ c.seek.ensures.1 c.seek.ensures.2 refl) _
    c.slot_at.ensures

pub returns : goal.returns
returns c =
    slot_is _ _ _ _ _ _
    (elim c.else-from-self.branch [
      | else-from-self-via-then-from-self+else-self-from w ↦
          came_first _ c.args.self.epochs.now _ _ _ _ w.if-from-self.true w.if-self-from.false refl
      | else-from-self-via-else-from-self w ↦ came_end _ c.args.self.epochs.now _ _ _ _ w.if-from-self.false refl
    ]) _ c.slot_at-2.ensures
