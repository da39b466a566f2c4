-- The walk over a row: one axis raised after the other gathers the entries, and the row of an operation is where
-- the walk reads it. Assumes nothing.
use mathlib.Core.Path.{◌≡◌, refl, ap, ap₂, ◌∙◌}
use mathlib.Core.Bool.{false}
use mathlib.Core.List.{List, []}
use Prim.Native.Nat.{ℕ, suc, ◌+◌, ◌*◌, ◌-◌, ◌≤◌, ◌<◌}
use native.Mathlib.Numerals.{add-one}
use native.Mathlib.Omega.{arith}
use lib.ListN.{length, get_or}
use Rattle.base_lists.specs.Lists.{tabulate_from}
use Rattle.base_lists.proofs.Tables.{tabulate_length}
use Rattle.frontier_slots.specs.declared.Entry.{Entry}
use Rattle.frontier.specs.Frontiers.{pack, gathered, raise, merge}
use Rattle.frontier.specs.declared.Frontier.{Frontier}
use Rattle.frontier.specs.declared.Merged.{Merged}
use Rattle.frontier.proofs.Slots.{tabulate_same}
use Rattle.frontier.proofs.Sorted.{same_entry}
use Rattle.frontier.proofs.Raising.{raises, raises_from_empty, sorted_gathered, gathered_length, merge_empty}
use Rattle.plan_format.specs.Plan.{Plan, count, queues}
use Rattle.plan_order.specs.Rows.{row}
use Rattle.check_columns.specs.Columns.{RowColumns}
use Rattle.check_plan.specs.declared.PlanCounts.{PlanCounts}
use Rattle.ask_frontier.specs.Sent.{row_entries, sent_entries, cut_to, sent}
use Rattle.ask_frontier.specs.SentWalk.{SentGiven, row_in}

-- ---- raising
module _ (head table : List ℕ) (first : ℕ) where
  abbrev pub left_from : (many q : ℕ) → List Entry
  left_from many q = row_in head table first (many - q) q

  row_long : (many q : ℕ) → length (row_in head table first many q) ≡ many
  unfolding row_in
  row_long many q =
      tabulate_length {A = Entry} (λ k. record { axis = get_or head (1 + k) 0; epoch = get_or table (first + k) 0 })
      many q

  -- none is raised yet
  pub raised_none : (many : ℕ) (f : Frontier) → f ≡ pack [] false →
      raises (left_from many 0) f ≡ raises (left_from many 0) (pack [] false)
  raised_none many f e = ap (raises (left_from many 0)) e

  -- one more axis raised
  pub raised_more : (many q e : ℕ) (f : Frontier) (r : Merged) → q < many → e ≡ get_or table (first + q) 0 →
      r ≡ raise f (get_or head (1 + q) 0) e 16 →
      raises (left_from many (q + 1)) r.frontier ≡ raises (left_from many q) f
  unfolding raises row_in tabulate_from
  raised_more many q e f r l z y = step (many - q) (many - (q + 1)) (omega arith)
    where
      step : (m k : ℕ) → m ≡ suc k →
          raises (row_in head table first k (q + 1)) r.frontier ≡ raises (row_in head table first m q) f
      step m k x = rw (x, y, z, add-one q) refl

  -- all are raised
  pub raised_all : (many q : ℕ) (f : Frontier) → many ≤ q → raises (left_from many q) f ≡ f
  unfolding raises row_in tabulate_from
  raised_all many q f l = none_left (many - q) (omega arith)
    where
      none_left : (m : ℕ) → m ≡ 0 → raises (row_in head table first m q) f ≡ f
      none_left m z = rw z refl

  pub raised_whole : (many : ℕ) → many ≤ 16 →
      raises (left_from many 0) (pack [] false) ≡ pack (gathered (row_in head table first many 0)) false
  raised_whole many h =
      ap (λ (n : ℕ). raises (row_in head table first n 0) (pack [] false)) (minus_none many)
      ∙ raises_from_empty (row_in head table first many 0) (omega (arith, row_long many 0))
    where
      minus_none : (n : ℕ) → n - 0 ≡ n
      minus_none n = omega arith

  -- ---- the cut
  pub cut_merged : (many c : ℕ) (f g : Frontier) (r : Merged) → many ≤ 16 → 1 ≤ c → c ≤ 16 →
      f ≡ pack (gathered (row_in head table first many 0)) false →
      g ≡ pack [] false → r ≡ merge f g c → r.frontier ≡ cut_to c (gathered (row_in head table first many 0))
  cut_merged many c f g r h l k ef eg er =
      let es = row_in head table first many 0 in
      ap (λ (m : Merged). m.frontier) (er ∙ ap₂ (λ (a b : Frontier). merge a b c) ef eg
      ∙ merge_empty (gathered es) false c (sorted_gathered es) (omega (arith, gathered_length es, row_long many 0)) l k)

-- ---- the row of an operation, where it lies
module _ {p : Plan} {k : PlanCounts} {head table : List ℕ} (opened : SentGiven p k head table) (j : ℕ)
    (inside : j < count p) where
  row_found : row_in head table (16 * j) (queues p) 0 ≡ row_entries p j
  unfolding row_in row_entries RowColumns
  row_found =
      tabulate_same (queues p) 0 (λ q. record { axis = get_or head (1 + q) 0; epoch = get_or table (16 * j + q) 0 })
      (λ q. record { axis = get_or p.axes q 0; epoch = get_or (row p j) q 0 })
      (λ q m h. same_entry (opened.head_shown.axes_shown q (omega arith))
      (opened.rows_shown j q inside (omega (arith, opened.sound.few_queues))))

  pub sent_found : (c : ℕ) → cut_to c (gathered (row_in head table (16 * j) k.queues 0)) ≡ sent p j c
  unfolding sent sent_entries
  sent_found c =
      ap (λ (n : ℕ). cut_to c (gathered (row_in head table (16 * j) n 0))) opened.queues_are
      ∙ ap (λ (es : List Entry). cut_to c (gathered es)) row_found
