-- Plans where only owners signal: what is answered there by the rules that tie a semaphore to the queue that owns it,
-- with refusal 6 and with waits met by value. Kept only to show that for such plans nothing else is answered. Assumes
-- nothing: these are definitions.
use Rattle.std.specs.Prelude.{◌≡◌, Bool, true, false, ◌&&◌, not, cond, List, [], ◌∷◌, ◌++◌, ℕ, suc, ◌*◌, ◌<◌, max}
use Rattle.std.specs.Prelude.{leb, eqb, length, get_or}
use Rattle.std.proofs.Math.Option.{Option, none, some}
use Rattle.std.proofs.Math.ListN.{get_elem?}
use Rattle.base_lists.specs.Lists.{member, all, tally, first_below, lowest_below, is_some}
use Rattle.order.specs.Runs.{can, runs}
use Rattle.order.specs.Greedy.{greedy}
use Rattle.plan_format.specs.Refusal.{Refusal, refusal, none_given, or_refusal}
use Rattle.plan_format.specs.Plan.{Point, Operation, Plan, count, op, queues}
use Rattle.plan_format.specs.Sound.{highest_in, highest, waits_refusal}
use Rattle.plan_format.specs.Stored.{scanned, plan_in, Tells}
use Rattle.plan_format.specs.Meaning.{signal_at, IsSignal, SignalsGood}
use Rattle.plan_format.specs.declared.Told.{Told}
use Rattle.plan_order.specs.Runs.{reached, wait_met, earlier_run, is_run, raises_in_order, standard}
use Rattle.plan_order.specs.Holdings.{broken}
use Rattle.plan_order.specs.Check.{room_refusal, refused_at, Leaves, untouched, zeros, rows_and_run, Outcome}
use Rattle.plan_order.specs.Check.{outcome, or_then, left_in, table_left}

-- R15: the signal is on the queue that owns its semaphore
abbrev pub Owned : Plan → (i k : ℕ) → Type 0
Owned p i k =
    ((signal_at p i k).semaphore < length p.owners) ×
    (get_or p.owners (signal_at p i k).semaphore 0 ≡ (op p i).queue)

abbrev pub OnlyOwners : Plan → Type 0
OnlyOwners p = (i k : ℕ) → IsSignal p i k → Owned p i k

-- ---- refusals 6 to 8
unfoldable pub is_queue : Option ℕ → (q : ℕ) → Bool
is_queue none q = false
is_queue (some o) q = eqb o q

unfoldable pub owns : Plan → (q s : ℕ) → Bool
owns p q s = is_queue (get_elem? p.owners s) q

-- signal by signal, 6 before 7 for the same one; `own` are the operation's signals before these
unfoldable pub number_by_owners : Plan → (queue : ℕ) → (before : List Operation) → (own rest : List Point) → ℕ
number_by_owners p q bs own [] = 0
number_by_owners p q bs own (x ∷ xs) =
    cond (not (owns p q x.semaphore)) 6
    (cond (leb x.value (max (highest x.semaphore bs) (highest_in x.semaphore own))) 7
    (number_by_owners p q bs (x ∷ own) xs))

unfoldable pub signals_by_owners : (i : ℕ) → Plan → (before rest : List Operation) → Refusal
signals_by_owners i p bs [] = none_given
signals_by_owners i p bs (o ∷ os) =
    let n = number_by_owners p o.queue bs [] o.signals in
    cond (eqb n 0) (signals_by_owners (suc i) p (bs ++ (o ∷ [])) os) (refusal n i)

unfoldable pub rules_by_owners : Plan → Refusal
rules_by_owners p = or_refusal (signals_by_owners 0 p [] p.operations) (waits_refusal 0 p p.operations)

-- ---- runs in which a wait is met once the largest value signalled reaches its own
unfoldable pub met_by_value : Plan → (run : List ℕ) → Point → Bool
met_by_value p r w = leb w.value (reached p w.semaphore r)

unfoldable pub enabled_by_value : Plan → (run : List ℕ) → (j : ℕ) → Bool
enabled_by_value p r j = earlier_run p r j && all (λ w. met_by_value p r w) (op p j).waits

unfoldable pub ready_by_value : Plan → (run : List ℕ) → (j : ℕ) → Bool
ready_by_value p r j = can (count p) (λ r j. enabled_by_value p r j) r j

unfoldable pub is_run_by_value : Plan → List ℕ → Bool
is_run_by_value p r = runs (count p) (λ r j. enabled_by_value p r j) [] r

unfoldable pub ready_on_by_value : Plan → (run : List ℕ) → (q : ℕ) → Option ℕ
ready_on_by_value p r q = lowest_below (count p) (λ j. eqb (op p j).queue q && ready_by_value p r j)

unfoldable pub next_by_value : Plan → (run : List ℕ) → Option ℕ
next_by_value p r = first_below (queues p) (λ q. ready_on_by_value p r q)

unfoldable pub standard_by_value : Plan → List ℕ
standard_by_value p = greedy (λ r. next_by_value p r) (count p) []

unfoldable pub number_ready_by_value : Plan → (run : List ℕ) → ℕ
number_ready_by_value p r = tally (queues p) (λ q. is_some (ready_on_by_value p r q))

unfoldable pub ready_numbers_by_value : Plan → (done rest : List ℕ) → List ℕ
ready_numbers_by_value p r [] = []
ready_numbers_by_value p r (j ∷ js) = number_ready_by_value p r ∷ ready_numbers_by_value p (r ++ (j ∷ [])) js

unfoldable pub run_list_by_value : Plan → List ℕ
run_list_by_value p = let r = standard_by_value p in r ++ ready_numbers_by_value p [] r

unfoldable pub missing_by_value : Plan → Option ℕ
missing_by_value p = let r = standard_by_value p in lowest_below (count p) (λ j. not (member j r))

-- ---- the outcome: 1 to 5 and 16, then 6 and 7, then 8, 9, 10 and 11
unfoldable pub order_by_value : Plan → Refusal
order_by_value p = refused_at 10 (missing_by_value p) (refused_at 11 (broken p) none_given)

unfoldable pub outcome_by_owners : (bytes : List ℕ) → (table list : ℕ) → Outcome
outcome_by_owners bs t l =
    let p = plan_in bs in
    or_then (outcome (or_refusal (scanned bs).fault (rules_by_owners p)) untouched)
    (or_then (outcome (room_refusal (count p) t l) untouched)
    (or_then (outcome (order_by_value p) zeros) (outcome none_given rows_and_run)))

unfoldable pub list_by_value : Leaves → Plan → (list : List ℕ) → List ℕ
list_by_value v p l = left_in v (2 * count p) (run_list_by_value p) l

-- ---- what stays
-- R95, only owners: number, place, rows, run and what is left are those by owners and by value; where every signal
-- rises, also if the plan is refused with 8, after a run a wait above 0 is met by what it rests on exactly if it is by
-- value, and each run raises every semaphore in order; so a plan that is read has the same runs
pub record ByOwners (bytes : List ℕ) (r : Told) (table table_now list list_now : List ℕ) : Type 0 where
  pub tells : Tells (outcome_by_owners bytes (length table) (length list)).refusal 0 r
  pub table_holds :
      table_now ≡ table_left (outcome_by_owners bytes (length table) (length list)).leaves (plan_in bytes) table
  pub list_holds :
      list_now ≡ list_by_value (outcome_by_owners bytes (length table) (length list)).leaves (plan_in bytes) list
  pub runs : (scanned bytes).fault.number ≡ 0 → SignalsGood (plan_in bytes) → (run : List ℕ) →
      is_run (plan_in bytes) run ≡ is_run_by_value (plan_in bytes) run
  pub waits : SignalsGood (plan_in bytes) → (run : List ℕ) → is_run (plan_in bytes) run ≡ true → (w : Point) →
      0 < w.value → wait_met (plan_in bytes) run w ≡ met_by_value (plan_in bytes) run w
  pub raises : SignalsGood (plan_in bytes) → (run : List ℕ) → is_run (plan_in bytes) run ≡ true →
      raises_in_order (plan_in bytes) run ≡ true
  pub standard_run : (scanned bytes).fault.number ≡ 0 → SignalsGood (plan_in bytes) →
      standard (plan_in bytes) ≡ standard_by_value (plan_in bytes)
