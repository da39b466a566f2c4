-- `gather` meets its contract. The loop's invariant: the axes that are left, raised on what is gathered, give what all
-- give on the empty frontier. Assumes nothing.
use mathlib.Core.Path.{◌≡◌}
use mathlib.Core.Bool.{false}
use mathlib.Core.List.{[]}
use Prim.Native.Nat.{◌*◌}
use Rattle.frontier.specs.Frontiers.{pack}
use Rattle.frontier.proofs.Raising.{raises}
use Rattle.ask_frontier.proofs.SentWalk.{left_from}
use Rattle.ask_frontier.proofs.gather.Given as goal

abbrev pub invariant-loop-q : goal.invariant-loop-q
invariant-loop-q l =
    raises (left_from l.head l.table (16 * l.operation) l.queues l.q) l.f ≡
    raises (left_from l.head l.table (16 * l.operation) l.queues 0) (pack [] false)
