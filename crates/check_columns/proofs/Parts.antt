-- What one operation adds to the columns, and a loop that adds operation after operation. Assumes nothing.
use mathlib.Core.Path.{◌≡◌, ap, ap₂, ◌∙◌}
use mathlib.Core.List.{List, ◌++◌}
use Prim.Native.Nat.{ℕ, suc, ◌+◌, ◌-◌, ◌*◌, ◌%◌, ◌≤◌, ◌<◌}
use native.Mathlib.Numerals.{add-one}
use native.Mathlib.Omega.{arith}
use lib.ListN.{length, get_or, length-append}
use lib.Seq.{sets}
use Rattle.base_lists.specs.Lists.{tabulate_from}
use Rattle.base_lists.proofs.Stores.{sets_append}
use Rattle.base_lists.proofs.Tables.{tabulate_length}
use Rattle.check_columns.specs.Columns.{Columns}
use Rattle.check_columns.specs.Filling.{repeated, Part, wait_semaphores, wait_values, signal_semaphores}
use Rattle.check_columns.specs.Filling.{signal_values, codes_of_marks, wait_count, signals_at, signal_count}
use Rattle.check_columns.specs.Filling.{marks_at, mark_count, next_at, queue_part, wait_semaphore_part}
use Rattle.check_columns.specs.Filling.{wait_value_part, signal_semaphore_part, signal_value_part}
use Rattle.check_columns.specs.Filling.{signal_operation_part, mark_part, mark_operation_part, parts, Put, Added}

-- ---- one operation
module _ (X : List ℕ) (at : ℕ) {w s m : ℕ} (w_is : w ≡ get_or X (at + 1) 0 % 4)
    (s_is : s ≡ get_or X (at + 2 + 2 * w) 0 % 4)
    (m_is : m ≡ get_or X (at + 2 + 2 * w + 1 + 2 * s) 0 % 8) where
  w_right : w ≡ wait_count X at
  unfolding wait_count
  w_right = w_is

  signals_right : at + 2 + 2 * w ≡ signals_at X at
  unfolding signals_at
  signals_right = rw w_right

  s_right : s ≡ signal_count X at
  unfolding signal_count
  s_right = s_is ∙ rw signals_right

  marks_right : at + 2 + 2 * w + 1 + 2 * s ≡ marks_at X at
  unfolding marks_at
  marks_right = rw (signals_right, s_right)

  m_right : m ≡ mark_count X at
  unfolding mark_count
  m_right = m_is ∙ rw marks_right

  pub signals_more : (had : ℕ) → had + s ≡ had + signal_count X at
  signals_more had = rw s_right

  pub marks_more : (had : ℕ) → had + m ≡ had + mark_count X at
  marks_more had = rw m_right

  module _ (i : ℕ) {place : ℕ} {old new : List ℕ} where
    pub wait_semaphores_put : new ≡ sets old place (wait_semaphores X w (at + 1)) →
        Put (wait_semaphore_part X i at) place old new
    wait_semaphores_put e = record { stored = e ∙ rw w_right }

    pub wait_values_put : new ≡ sets old place (wait_values X w (at + 1)) →
        Put (wait_value_part X i at) place old new
    wait_values_put e = record { stored = e ∙ rw w_right }

    pub signal_semaphores_put : new ≡ sets old place (signal_semaphores X s (at + 2 + 2 * w)) →
        Put (signal_semaphore_part X i at) place old new
    signal_semaphores_put e =
        record { stored = e ∙ ap₂ (λ (k a : ℕ). sets old place (signal_semaphores X k a)) s_right signals_right }

    pub signal_values_put : new ≡ sets old place (signal_values X s (at + 2 + 2 * w)) →
        Put (signal_value_part X i at) place old new
    signal_values_put e =
        record { stored = e ∙ ap₂ (λ (k a : ℕ). sets old place (signal_values X k a)) s_right signals_right }

    pub signal_operations_put : new ≡ sets old place (repeated s i) →
        Put (signal_operation_part X i at) place old new
    signal_operations_put e = record { stored = e ∙ rw s_right }

    pub marks_put : new ≡ sets old place (codes_of_marks X m (at + 2 + 2 * w + 1 + 2 * s)) →
        Put (mark_part X i at) place old new
    marks_put e =
        record { stored = e ∙ ap₂ (λ (k a : ℕ). sets old place (codes_of_marks X k a)) m_right marks_right }

    pub mark_operations_put : new ≡ sets old place (repeated m i) →
        Put (mark_operation_part X i at) place old new
    mark_operations_put e = record { stored = e ∙ rw m_right }

-- ---- operation after operation: one column
parts_next : (X : List ℕ) (f : Part) (n i at next : ℕ) → i < n → next ≡ next_at X at →
    parts X f (n - i) i at ≡ f i at ++ parts X f (n - (i + 1)) (i + 1) next
unfolding parts
parts_next X f n i at next l e =
    let m : n - i ≡ suc (n - (i + 1)) = omega arith in rw (m, add-one i, e)

pub record Column (X : List ℕ) (f : Part) (n first : ℕ) (before now : List ℕ) (i at place : ℕ) : Type 0 where
  pub rest : sets now place (parts X f (n - i) i at) ≡ sets before 0 (parts X f n 0 first)
  pub counted : place + length (parts X f (n - i) i at) ≡ length (parts X f n 0 first)

module _ {X : List ℕ} {f : Part} {n first : ℕ} {before : List ℕ} where
  pub column_none : Column X f n first before before 0 first 0
  column_none =
      let e : n - 0 ≡ n = omega arith in
      record { rest = rw e; counted = rw e (omega arith) }

  pub column_next : {old new : List ℕ} {i at next place further : ℕ} → Column X f n first before old i at place →
      i < n → Put (f i at) place old new →
      next ≡ next_at X at → further ≡ place + length (f i at) → Column X f n first before new (i + 1) next further
  column_next {old} {new} {i} {at} {next} {place} b l p e h =
      let here = parts_next X f n i at next l e in
      let more = parts X f (n - (i + 1)) (i + 1) next in
      record {
        rest = rw (p.stored, h) (sets_append (f i at) old more place ∙ rw here at b.rest);
        counted = omega (arith, h, length-append (f i at) more, ap (λ (z : List ℕ). length z) here, b.counted);
      }

  pub column_end : {now : List ℕ} {i at place : ℕ} → n ≤ i → Column X f n first before now i at place →
      now ≡ sets before 0 (parts X f n 0 first)
  unfolding parts
  column_end {i} l b = let e : n - i ≡ 0 = omega arith in rw e at b.rest

  pub column_count : {now : List ℕ} {i at place : ℕ} → n ≤ i → Column X f n first before now i at place →
      place ≡ length (parts X f n 0 first)
  unfolding parts
  column_count {i} {at} {place} l b =
      let e : n - i ≡ 0 = omega arith in
      let z : place + 0 ≡ length (parts X f n 0 first) = rw e at b.counted in
      omega arith

-- ---- all columns
pub record Filling (X : List ℕ) (n first : ℕ) (cs₀ cs : Columns)
    (i at signals marks : ℕ) : Type 0 where
  pub near : at ≤ first + 30 * i
  pub few_signals : signals ≤ 3 * i
  pub few_marks : marks ≤ 7 * i
  pub queues : Column X (queue_part X) n first cs₀.queue cs.queue i at i
  pub wait_semaphores : Column X (wait_semaphore_part X) n first cs₀.wait_semaphore
      cs.wait_semaphore i at (3 * i)
  pub wait_values : Column X (wait_value_part X) n first cs₀.wait_value cs.wait_value i at (3 * i)
  pub signal_semaphores : Column X (signal_semaphore_part X) n first cs₀.signal_semaphore
      cs.signal_semaphore i at signals
  pub signal_values : Column X (signal_value_part X) n first cs₀.signal_value
      cs.signal_value i at signals
  pub signal_operations : Column X (signal_operation_part X) n first cs₀.signal_operation
      cs.signal_operation i at signals
  pub codes_of_marks : Column X (mark_part X) n first cs₀.mark cs.mark i at marks
  pub mark_operations : Column X (mark_operation_part X) n first cs₀.mark_operation
      cs.mark_operation i at marks

next_near : (X : List ℕ) (at : ℕ) → next_at X at ≤ at + 30
unfolding next_at marks_at signals_at wait_count signal_count mark_count
next_near X at = omega arith

few_signals_more : (X : List ℕ) (at : ℕ) → signal_count X at ≤ 3
unfolding signal_count
few_signals_more X at = omega arith

few_marks_more : (X : List ℕ) (at : ℕ) → mark_count X at ≤ 7
unfolding mark_count
few_marks_more X at = omega arith

module _ {X : List ℕ} {n first : ℕ} {cs₀ : Columns} where
  pub filling_none : Filling X n first cs₀ cs₀ 0 first 0 0
  filling_none = record {
    near = omega arith;
    few_signals = omega arith;
    few_marks = omega arith;
    queues = column_none;
    wait_semaphores = column_none;
    wait_values = column_none;
    signal_semaphores = column_none;
    signal_values = column_none;
    signal_operations = column_none;
    codes_of_marks = column_none;
    mark_operations = column_none;
  }

  pub filling_next : {cs cs' : Columns} {i at signals marks at' signals' marks' : ℕ} →
      Filling X n first cs₀ cs i at signals marks → i < n →
      Added X i at signals marks cs cs' at' signals' marks' →
      Filling X n first cs₀ cs' (i + 1) at' signals' marks'
  filling_next {i} {at} {signals} {marks} b l a =
      let three : (f : ℕ → ℕ) → 3 * (i + 1) ≡ 3 * i + length (tabulate_from 3 0 f) =
      λ f. omega (arith, tabulate_length f 3 0) in
      let more : (f : ℕ → ℕ) → _ ≡ signals + length (tabulate_from (signal_count X at) 0 f) =
      λ f. a.more_signals ∙ rw (tabulate_length f (signal_count X at) 0) in
      let further : (f : ℕ → ℕ) → _ ≡ marks + length (tabulate_from (mark_count X at) 0 f) =
      λ f. a.more_marks ∙ rw (tabulate_length f (mark_count X at) 0) in
      record {
        near = omega (arith, b.near, a.next, next_near X at);
        few_signals = omega (arith, b.few_signals, a.more_signals, few_signals_more X at);
        few_marks = omega (arith, b.few_marks, a.more_marks, few_marks_more X at);
        queues = column_next b.queues l a.queues_added a.next (omega arith);
        wait_semaphores = column_next b.wait_semaphores l a.wait_semaphores_added a.next (three _);
        wait_values = column_next b.wait_values l a.wait_values_added a.next (three _);
        signal_semaphores = column_next b.signal_semaphores l a.signal_semaphores_added a.next (more _);
        signal_values = column_next b.signal_values l a.signal_values_added a.next (more _);
        signal_operations = column_next b.signal_operations l a.signal_operations_added a.next (more _);
        codes_of_marks = column_next b.codes_of_marks l a.marks_added a.next (further _);
        mark_operations = column_next b.mark_operations l a.mark_operations_added a.next (further _);
      }
