-- The counts that a check hands back are within their limits. Assumes nothing.
use mathlib.Core.List.{List}
use Prim.Native.Nat.{ℕ, ◌≤◌}
use native.Mathlib.Omega.{arith}
use Rattle.base_lists.proofs.Tests.{by_cases}
use Rattle.plan_format.specs.Sizes.{most_queues, most_operations}
use Rattle.plan_format.specs.Plan.{count, queues}
use Rattle.plan_format.specs.Refusal.{given}
use Rattle.plan_format.specs.Stored.{scanned}
use Rattle.plan_format.proofs.Judged.{not_given_zero}
use Rattle.plan_format.proofs.Plans.{scanned_limits}
use Rattle.check_plan.specs.Counting.{SizesTold}
use Rattle.check_plan.specs.declared.PlanCounts.{PlanCounts}

pub few_counts : (bs : List ℕ) (c : PlanCounts) → SizesTold bs c →
    (c.operations ≤ most_operations) × (c.queues ≤ most_queues)
unfolding count queues
few_counts bs c s =
    by_cases (given (scanned bs).fault)
    (λ g. (omega (arith, rw g at s.operations), omega (arith, rw g at s.queues)))
    (λ n.
    let within = scanned_limits bs (not_given_zero (scanned bs).fault n) in (
      omega (arith, rw n at s.operations, within.few_operations),
      omega (arith, rw n at s.queues, within.few_queues),
    ))
