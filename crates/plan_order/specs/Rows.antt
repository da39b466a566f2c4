-- Epochs and frontier rows: vector clocks of operations. Assumes nothing: these are definitions.
use Rattle.std.specs.Prelude.{◌&&◌, ◌||◌, List, ℕ, suc, eqb}
use Rattle.base_lists.specs.Lists.{member, tally, tabulate_from, join_from}
use Rattle.plan_format.specs.Sizes.{row_width}
use Rattle.plan_format.specs.Plan.{Plan, count, op}
use Rattle.plan_order.specs.Precedence.{same_queue, all_before}

-- R14, epoch: the rank of an operation on its queue, from 1
unfoldable pub epoch : Plan → (i : ℕ) → ℕ
epoch p i = tally (suc i) (λ k. same_queue p k i)

-- R20, row: how many operations of queue q are before j, or j itself; 0 for a queue that the plan does not have
unfoldable pub column : Plan → (j : ℕ) → (earlier : List ℕ) → (q : ℕ) → ℕ
column p j xs q = tally (count p) (λ i. eqb (op p i).queue q && (eqb i j || member i xs))

unfoldable pub row : Plan → (j : ℕ) → List ℕ
row p j = let xs = all_before p j in tabulate_from row_width 0 (λ q. column p j xs q)

-- R56: the table, row after row
unfoldable pub rows : Plan → List ℕ
rows p = join_from (count p) 0 (λ j. row p j)
