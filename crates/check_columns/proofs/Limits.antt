-- The limits of a plan, by its counts. Assumes nothing.
use Prim.Native.Nat.{◌≤◌}
use Rattle.plan_format.specs.Sizes.{most_queues, most_operations}
use Rattle.plan_format.specs.Limits.{Limits}
use Rattle.plan_format.specs.Plan.{Plan, count, queues}

pub few_operations : {p : Plan} → Limits p → count p ≤ most_operations
unfolding count
few_operations l = l.few_operations

pub few_queues : {p : Plan} → Limits p → queues p ≤ most_queues
unfolding queues
few_queues l = l.few_queues
