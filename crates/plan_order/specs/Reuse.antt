-- The reuse question: its verdicts, refusals and outcome. Assumes nothing: these are definitions.
use Rattle.std.specs.Prelude.{Bool, false, not, cond, List, [], ◌∷◌, ℕ, leb, eqb, length}
use Rattle.std.proofs.Math.Option.{Option, none, some}
use Rattle.base_lists.specs.Lists.{all, highest_below}
use Rattle.plan_format.specs.Refusal.{Refusal, refusal, none_given, or_refusal}
use Rattle.plan_format.specs.Plan.{Plan, count, op, queues}
use Rattle.plan_format.specs.Stored.{plan_in}
use Rattle.plan_format.specs.declared.Told.{Told}
use Rattle.plan_order.specs.Precedence.{at_or_before}
use Rattle.plan_order.specs.Holdings.{Placed, is_free, buffer_marks}
use Rattle.plan_order.specs.Check.{Outcome, outcome, or_then, rows_and_run, check_outcome, Says}
use Rattle.plan_order.specs.declared.Verdict.{Verdict}
use Rattle.plan_order.specs.declared.Verdict.TheVariants.{Fresh, Reusable, Held, NotOrdered}

-- R58: the number of a verdict
unfoldable pub number_of : Verdict → ℕ
number_of Fresh = 0
number_of Reusable = 1
number_of Held = 2
number_of NotOrdered = 3

-- the queue's last operation
unfoldable pub last_on : Plan → (q : ℕ) → Option ℕ
last_on p q = highest_below (count p) (λ i. eqb (op p i).queue q)

-- R58: seen by the queue, i is its last operation or before it; a queue without operations sees none
unfoldable pub seen_by : Plan → (last : Option ℕ) → (i : ℕ) → Bool
seen_by p none i = false
seen_by p (some j) i = at_or_before p i j

unfoldable pub last_mark : List Placed → Option Placed
last_mark [] = none
last_mark (m ∷ []) = some m
last_mark (m ∷ n ∷ ms) = last_mark (n ∷ ms)

-- R58, verdicts: by the last mark on the buffer, and by whether every operation with a mark is seen
unfoldable pub verdict_on : Plan → (last : Option ℕ) → (marks : List Placed) → (last_mark : Option Placed) → Verdict
verdict_on p j ms none = Fresh
verdict_on p j ms (some m) = cond (not (is_free m)) Held (cond (all (λ n. seen_by p j n.by) ms) Reusable NotOrdered)

unfoldable pub verdict : Plan → (q b : ℕ) → Verdict
verdict p q b = let ms = buffer_marks p b in verdict_on p (last_on p q) ms (last_mark ms)

-- R49, refusals 12 and 13: no such queue, then no such buffer, with the number that was asked
unfoldable pub question_refusal : Plan → (q b : ℕ) → Refusal
question_refusal p q b =
    or_refusal (cond (leb (queues p) q) (refusal 12 q) none_given)
    (cond (leb (length p.sizes) b) (refusal 13 b) none_given)

-- R57: the check first, then the question; R56: the question leaves rows and run
unfoldable pub reuse_outcome : (bytes : List ℕ) → (q b table list : ℕ) → Outcome
reuse_outcome bs q b t l =
    or_then (check_outcome bs t l) (outcome (question_refusal (plan_in bs) q b) rows_and_run)

unfoldable pub ReuseSays : (bytes : List ℕ) → (q b : ℕ) → Told → (table table_now list list_now : List ℕ) → Type 0
ReuseSays bs q b r t x l y =
    Says (reuse_outcome bs q b (length t) (length l)) (number_of (verdict (plan_in bs) q b)) (plan_in bs) r t x l y
