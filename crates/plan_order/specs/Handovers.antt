-- Semaphores handed from queue to queue: each signal of a semaphore is in the operation of the signal before it, or
-- after that operation. Assumes nothing: these are definitions.
use Rattle.std.specs.Prelude.{Bool, true, ◌||◌, not, cond, List, [], ◌∷◌, ◌++◌, ℕ, eqb}
use Rattle.std.proofs.Math.Option.{Option, none, some}
use Rattle.base_lists.specs.Lists.{all, lowest_below}
use Rattle.plan_format.specs.Plan.{Plan, count}
use Rattle.plan_order.specs.Precedence.{Signal, plan_signals, before}
use Rattle.plan_order.specs.Holdings.{Ask, met}

-- R93: the operation of the last signal on a semaphore; `earlier` has the last one first
unfoldable pub last_signaller : (s : ℕ) → (earlier : List Signal) → Option ℕ
last_signaller s [] = none
last_signaller s (x ∷ xs) = cond (eqb x.semaphore s) (some x.operation) (last_signaller s xs)

-- R93, handover: what is asked of a signal, that the operation of the signal before it comes first or is its own
unfoldable pub handover : (before : Option ℕ) → Signal → List Ask
handover none x = []
handover (some i) x = record { first = i; then = x.operation; same_allowed = true } ∷ []

unfoldable pub handovers_from : (earlier rest : List Signal) → List Ask
handovers_from bs [] = []
handovers_from bs (x ∷ xs) = handover (last_signaller x.semaphore bs) x ++ handovers_from (x ∷ bs) xs

-- those of a plan, signal by signal in plan order and list order
unfoldable pub handovers : Plan → List Ask
handovers p = handovers_from [] (plan_signals p)

-- R94, out of turn: the order of R19 does not force the handover of one of the operation's signals
unfoldable pub out_of_turn : Plan → (asked : List Ask) → (i : ℕ) → Bool
out_of_turn p asked i = not (all (λ a. not (eqb a.then i) || met (λ i j. before p i j) a) asked)

-- R94, refusal 17: the lowest operation with a signal out of turn
unfoldable pub disordered : Plan → Option ℕ
disordered p = let asked = handovers p in lowest_below (count p) (λ i. out_of_turn p asked i)
