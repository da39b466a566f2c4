-- What a frontier sent out means: what it lists, what it may stand for, and what dominance of two tells of their
-- operations. Assumes nothing: these are definitions.
use Rattle.std.specs.Prelude.{◌≡◌, true, false, ◌⊎◌, ◌↔◌, List, [], ℕ, ◌≤◌, ◌<◌, min, ltb, length, get_or}
use Rattle.frontier_slots.specs.Entries.{most_entries, find, exceeding}
use Rattle.frontier.specs.Frontiers.{entries, well_formed, pack, merge, dominance}
use Rattle.frontier.specs.Meaning.{Completion, epoch_at, listed_if}
use Rattle.frontier.specs.declared.Frontier.{Frontier}
use Rattle.std.specs.Prelude.{Some}
use Rattle.frontier.specs.Frontiers.{Yes, No}
use Rattle.plan_format.specs.Plan.{Plan, count, queues}
use Rattle.plan_format.specs.Refusal.{Refusal}
use Rattle.plan_format.specs.RefusalNumbers.{NoneOr, sent_numbers, sent_gives}
use Rattle.plan_format.specs.Stored.{plan_in}
use Rattle.plan_order.specs.Precedence.{Before}
use Rattle.plan_order.specs.Rows.{row}
use Rattle.plan_order.specs.Check.{Outcome, rows_and_run, check_outcome}
use Rattle.plan_order.specs.Meaning.{CheckMeans, LeavesBy, LeftMeans}
use Rattle.plan_order.specs.AsBefore.{JudgesAsBefore}
use Rattle.plan_order.specs.Promise.{Safe, unrefused}
use Rattle.ask_frontier.specs.declared.Sent.{Sent}
use Rattle.ask_frontier.specs.Sent.{sent_entries, sent, sent_outcome, FrontierSays}

-- the queue has the axis and its entry in the row of operation j is e
abbrev pub InRow : Plan → (j axis e q : ℕ) → Type 0
InRow p j axis e q = (q < queues p) × (get_or p.axes q 0 ≡ axis) × (get_or (row p j) q 0 ≡ e)

-- a map from axes to epochs that is the row of operation j: each queue's entry under its axis, and 0 elsewhere
pub record RowMap (p : Plan) (j : ℕ) (full : ℕ → ℕ) : Type 0 where
  pub own : (q : ℕ) → q < queues p → full (get_or p.axes q 0) ≡ get_or (row p j) q 0
  pub elsewhere : (axis : ℕ) → ((q : ℕ) → q < queues p → get_or p.axes q 0 ≡ axis → ⊥) → full axis ≡ 0

-- a frontier sent out for operation j of a plan that passes
pub record SentMeans (p : Plan) (j capacity : ℕ) (f : Frontier) : Type 0 where
  pub formed : well_formed f ≡ true
  -- R69, before the cut: an entry for each number above 0 in the row
  pub listed : (axis e : ℕ) → (find axis (sent_entries p j) ≡ Some e) ↔ ((0 < e) × ((q : ℕ) × InRow p j axis e q))
  -- R70, the cut: that of a merge of the whole with the empty frontier. An entry stays exactly if fewer than the
  -- capacity exceed it, and as many stay as it holds
  pub as_merged : merge (sent p j most_entries) (pack [] false) capacity ≡ record { number = 0; frontier = f }
  pub stays : (axis : ℕ) →
      find axis (entries f) ≡
      listed_if (λ x. ltb (exceeding x (sent_entries p j)) capacity) axis (find axis (sent_entries p j))
  pub fills : length (entries f) ≡ min capacity (length (sent_entries p j))
  -- R70: tainted exactly if something was cut
  pub taint : (f.tainted ≡ true) ↔ (capacity < length (sent_entries p j))
  -- the row is what the frontier stands for, whole or cut
  pub row_map : RowMap p j (epoch_at (sent_entries p j))
  pub completes : (full : ℕ → ℕ) → RowMap p j full → Completion f full
  -- dominance of two frontiers of one plan tells whether an operation is the other or before it
  pub if_yes : (i c : ℕ) → i < count p → dominance f (sent p i c) ≡ Yes → (i ≡ j) ⊎ Before p i j
  pub if_no : (i c : ℕ) → i < count p → dominance f (sent p i c) ≡ No → (i ≡ j) ⊎ Before p i j → ⊥
  pub exactly : capacity ≡ most_entries → (i : ℕ) → i < count p →
      (dominance f (sent p i most_entries) ≡ Yes) ↔ ((i ≡ j) ⊎ Before p i j)

-- R70: which refusal is handed back, with its place
pub record SentNumber (check : Refusal) (p : Plan) (j capacity : ℕ) (r : Sent) : Type 0 where
  pub plan_first : (check.number ≡ 0 → ⊥) → (r.number ≡ check.number) × (r.place ≡ check.place)
  -- R52, refusal 21
  pub no_operation : check.number ≡ 0 → count p ≤ j → (r.number ≡ 21) × (r.place ≡ j)
  -- R51, refusal 15
  pub no_capacity : check.number ≡ 0 → j < count p → (capacity < 1) ⊎ (most_entries < capacity) →
      (r.number ≡ 15) × (r.place ≡ 0)
  pub answered : check.number ≡ 0 → j < count p → 1 ≤ capacity → capacity ≤ most_entries →
      (r.number ≡ 0) × (r.place ≡ 0)
  -- exactly if
  pub twenty_one : (r.number ≡ 21) ↔ ((check.number ≡ 0) × (count p ≤ j))
  pub fifteen : (r.number ≡ 15) ↔ ((check.number ≡ 0) × (j < count p) × ((capacity < 1) ⊎ (most_entries < capacity)))
  pub zero : (r.number ≡ 0) ↔ ((check.number ≡ 0) × (j < count p) × (1 ≤ capacity) × (capacity ≤ most_entries))
  pub only : NoneOr sent_gives r.number
  -- R70: beside a refusal, the empty untainted frontier
  pub refused : (r.number ≡ 0 → ⊥) → r.frontier ≡ pack [] false

-- the outcome of the question in lent table and list
abbrev pub sent_outcome_in : (bytes : List ℕ) → (j capacity : ℕ) → (table list : List ℕ) → Outcome
sent_outcome_in bs j c t l = sent_outcome bs j c (length t) (length l)

-- what a caller gets
pub record FrontierRight (bytes : List ℕ) (j capacity : ℕ) (r : Sent)
    (table table_now list list_now : List ℕ) : Type 0 where
  pub says : FrontierSays bytes j capacity r table table_now list list_now
  pub check : CheckMeans bytes (length table) (length list) (check_outcome bytes (length table) (length list))
  pub number : SentNumber (check_outcome bytes (length table) (length list)).refusal (plan_in bytes) j capacity r
  -- what is left, and which numbers leave it; rows and run exactly where the plan passes
  pub leaves : LeavesBy sent_numbers (sent_outcome_in bytes j capacity table list)
  pub passed :
      ((sent_outcome_in bytes j capacity table list).leaves ≡ rows_and_run) ↔
      ((unrefused bytes (length table) (length list) ≡ true) × Safe (plan_in bytes))
  pub left :
      LeftMeans (plan_in bytes) (sent_outcome_in bytes j capacity table list).leaves table table_now list list_now
  pub is_sent : r.number ≡ 0 → r.frontier ≡ sent (plan_in bytes) j capacity
  pub means : r.number ≡ 0 → SentMeans (plan_in bytes) j capacity r.frontier
  pub as_before : JudgesAsBefore bytes
