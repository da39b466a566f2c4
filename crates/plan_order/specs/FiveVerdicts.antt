-- A table of five verdicts, for one comparison alone: on a plan that passes, the four of R58 have the numbers of this
-- table, and its number 4 is never given. Nothing else is defined by it. Assumes nothing: these are definitions.
use Rattle.std.specs.Prelude.{not, cond, List, ℕ}
use Rattle.std.proofs.Math.Option.{Option, none, some}
use Rattle.base_lists.specs.Lists.{all}
use Rattle.plan_format.specs.Plan.{Plan}
use Rattle.plan_order.specs.Holdings.{Placed, is_free, buffer_marks}
use Rattle.plan_order.specs.Reuse.{last_on, seen_by, last_mark}

-- 3 goes by the last free alone; 4 is left for a last free that is seen where another operation with a mark is not
unfoldable pub five_on : Plan → (last : Option ℕ) → (marks : List Placed) → (last_mark : Option Placed) → ℕ
five_on p j ms none = 0
five_on p j ms (some m) =
    cond (not (is_free m)) 2 (cond (not (seen_by p j m.by)) 3 (cond (all (λ n. seen_by p j n.by) ms) 1 4))

unfoldable pub five_verdict : Plan → (q b : ℕ) → ℕ
five_verdict p q b = let ms = buffer_marks p b in five_on p (last_on p q) ms (last_mark ms)
