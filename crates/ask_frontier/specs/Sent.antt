-- The frontier sent out for an operation of a plan: its entries, refusals and outcome. Assumes nothing: these are
-- definitions.
use Rattle.std.specs.Prelude.{◌≡◌, false, cond, List, [], ℕ, ltb, leb, length, get_or}
use Rattle.base_lists.specs.Lists.{tabulate_from}
use Rattle.frontier_slots.specs.declared.Entry.{Entry}
use Rattle.frontier_slots.specs.Entries.{cut}
use Rattle.frontier.specs.Frontiers.{pack, capable, gathered}
use Rattle.frontier.specs.declared.Frontier.{Frontier}
use Rattle.plan_format.specs.Refusal.{Refusal, refusal, none_given, given, or_refusal}
use Rattle.plan_format.specs.Plan.{Plan, count, queues}
use Rattle.plan_format.specs.Stored.{plan_in}
use Rattle.plan_format.specs.declared.Told.{Told}
use Rattle.plan_order.specs.Rows.{row}
use Rattle.plan_order.specs.Check.{Outcome, outcome, or_then, rows_and_run, check_outcome, Says}
use Rattle.ask_frontier.specs.declared.Sent.{Sent}

-- R69: each column of the row under the axis of its queue, in the plan's order
unfoldable pub row_entries : Plan → (j : ℕ) → List Entry
row_entries p j = tabulate_from (queues p) 0 (λ q. record { axis = get_or p.axes q 0; epoch = get_or (row p j) q 0 })

-- R69, frontier sent out: those above 0, by rising axes
unfoldable pub sent_entries : Plan → (j : ℕ) → List Entry
sent_entries p j = gathered (row_entries p j)

-- R70: cut to a capacity, and tainted exactly if it was cut
abbrev pub cut_to : (capacity : ℕ) → List Entry → Frontier
cut_to c xs = pack (cut c xs) (ltb c (length xs))

unfoldable pub sent : Plan → (j capacity : ℕ) → Frontier
sent p j c = cut_to c (sent_entries p j)

-- R52, R51: no such operation, then no such capacity
unfoldable pub sent_refusal : Plan → (j capacity : ℕ) → Refusal
sent_refusal p j c =
    or_refusal (cond (leb (count p) j) (refusal 21 j) none_given) (cond (capable c) none_given (refusal 15 0))

-- R70: the check first, then 21 and 15; R56: an answer, 21 and 15 leave rows and run
unfoldable pub sent_outcome : (bytes : List ℕ) → (j capacity table list : ℕ) → Outcome
sent_outcome bs j c t l = or_then (check_outcome bs t l) (outcome (sent_refusal (plan_in bs) j c) rows_and_run)

-- the number and the place that are handed back beside the frontier
abbrev pub told : Sent → Told
told r = record { number = r.number; place = r.place; answer = 0 }

-- R70, what the call hands back and leaves: beside a refusal, the empty untainted frontier
pub record FrontierSays (bytes : List ℕ) (j capacity : ℕ) (r : Sent)
    (table table_now list list_now : List ℕ) : Type 0 where
  pub says : Says (sent_outcome bytes j capacity (length table) (length list)) 0 (plan_in bytes)
      (told r) table table_now list list_now
  pub frontier_is : r.frontier ≡
      cond (given (sent_outcome bytes j capacity (length table) (length list)).refusal) (pack [] false)
      (sent (plan_in bytes) j capacity)
