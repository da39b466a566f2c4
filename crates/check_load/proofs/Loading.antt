-- The loop over the operations: what is read so far, and what is in the columns. Assumes nothing.
use mathlib.Core.Path.{◌≡◌, sym, ap, ◌∙◌, subst}
use mathlib.Core.List.{List, [], ◌++◌, append_assoc, append-nil}
use Prim.Native.Nat.{ℕ, ◌+◌, ◌*◌, ◌≤◌, ◌<◌, min}
use native.Mathlib.Numerals.{add-one}
use native.Mathlib.Omega.{arith}
use lib.ListN.{length, take, drop, length-append, length-take, take-append-drop}
use Rattle.plan_format.specs.Sizes.{block_numbers}
use Rattle.plan_format.specs.Refusal.{Refusal, none_given}
use Rattle.plan_format.specs.Grammar.{bytes, Scan, scan, times, read_by}
use Rattle.plan_format.specs.Sections.{operation_below}
use Rattle.plan_format.proofs.Blocks.{Block}
use Rattle.plan_format.proofs.Repeats.{times_last}
use Rattle.check_columns.specs.Columns.{Columns}
use Rattle.check_columns.specs.Filling.{next_at, signal_count, mark_count, Added}
use Rattle.check_columns.proofs.Parts.{Filling, filling_none, filling_next}
use Rattle.stored_numbers.specs.Reading.{Reached, fault_of, here, ToldHead, head_cursor, operations_after}
use Rattle.stored_numbers.specs.Reading.{operation_scan, OperationRead}
use Rattle.stored_numbers.proofs.Fields.{here_clean}
use Rattle.check_load.specs.Loading.{KeptPast}
use Rattle.check_load.proofs.Blind.{after, blind_read, operation_blind}
use Rattle.check_load.proofs.Blocks.{Small, block_read}
use Rattle.check_load.proofs.Windows.{added_among}
use Rattle.check_load.proofs.Keeping.{keeps_none, keeps_more}

-- i operations after a head's numbers are read, up to a place of the bytes, and are in the columns
pub record Load (width : ℕ) (bs : List ℕ) (h : ToldHead) (nums : List ℕ) (cs₀ cs : Columns)
    (i at signals marks : ℕ) : Type 0 where
  pub blocks : List ℕ
  pub read : operations_after width h i (here bs (head_cursor h) nums) ≡
      scan (drop at bs) at (take h.got nums ++ blocks) none_given
  pub inside : at ≤ length bs
  pub few : length blocks ≤ block_numbers * i
  pub filled : Small h.queues h.semaphores h.buffers → (more : List ℕ) →
      Filling ((take h.got nums ++ blocks) ++ more) h.operations (length (take h.got nums)) cs₀ cs i
      (length (take h.got nums ++ blocks)) signals marks
  pub kept : KeptPast i signals marks cs₀ cs

few_signals : (window : List ℕ) → signal_count window 0 ≤ 3
unfolding signal_count
few_signals window = omega arith

few_marks : (window : List ℕ) → mark_count window 0 ≤ 7
unfolding mark_count
few_marks window = omega arith

pub few_more : {window : List ℕ} {i signals marks next signals' marks' : ℕ} {cs cs' : Columns} →
    Added window i 0 signals marks cs cs' next signals' marks' →
    (signals' ≤ signals + 3) × (marks' ≤ marks + 7)
few_more {window} a =
    (omega (arith, a.more_signals, few_signals window), omega (arith, a.more_marks, few_marks window))

-- ---- one operation in a window
module _ (width q m b : ℕ) (bs : List ℕ) (at : ℕ) (w_now : List ℕ) (r : Reached)
    (o : OperationRead width q m b bs at r w_now) (inside : at ≤ length bs) where
  abbrev op : Scan → Scan
  op s = read_by bytes (operation_below width q m b) s

  in_window : op (scan (drop at bs) at [] none_given) ≡ here bs r w_now
  unfolding operation_scan here fault_of
  in_window =
      let same : min at (length bs) ≡ at = omega arith in
      subst (λ (a : ℕ). op (scan (drop a bs) a [] none_given) ≡ here bs r w_now) same o.read

  -- the same after other numbers
  pub among : (front : List ℕ) → read_by bytes (operation_below width q m b) (scan (drop at bs) at front none_given) ≡
      scan (drop r.at bs) r.at (front ++ take r.got w_now) (fault_of r)
  unfolding after scan here
  among front =
      ap (λ (l : List ℕ). op (scan (drop at bs) at l none_given)) (sym (append-nil front))
      ∙ blind_read bytes front (operation_blind width q m b) (scan (drop at bs) at [] none_given)
      ∙ ap (after front) in_window

  pub goes_on : r.at ≤ length bs
  goes_on = o.inside

  pub few_numbers : length (take r.got w_now) ≤ block_numbers
  few_numbers = omega (arith, o.few, length-take r.got w_now)

  pub whole_block : r.number ≡ 0 → Block q m b (take r.got w_now)
  unfolding here scan none_given
  whole_block z =
      block_read width q m b (drop at bs) at (here bs r w_now) in_window
      (ap (λ (s : Scan). s.fault.number) (here_clean bs r w_now z))

pub clean_fault : (r : Reached) → r.number ≡ 0 → fault_of r ≡ none_given
unfolding fault_of
clean_fault r z = rw z

-- ---- operation after operation
module _ (width : ℕ) (bs : List ℕ) (h : ToldHead) (nums : List ℕ) (cs₀ : Columns) where
  abbrev heading : List ℕ
  heading = take h.got nums

  abbrev Filled : (all more : List ℕ) (cs : Columns) (i at signals marks : ℕ) → Type 0
  Filled all more cs i at signals marks =
      Filling (all ++ more) h.operations (length heading) cs₀ cs i at signals marks

  pub load_none : h.number ≡ 0 → h.at ≤ length bs → Load width bs h nums cs₀ cs₀ 0 h.at 0 0
  unfolding times head_cursor
  load_none z inside = record {
    blocks = [];
    read =
        here_clean bs (head_cursor h) nums z
        ∙ ap (λ (l : List ℕ). scan (drop h.at bs) h.at l none_given) (sym (append-nil heading));
    inside = inside;
    few = omega arith;
    kept = keeps_none 0 0 0 cs₀;
    filled = λ small more. subst (λ (l : List ℕ). Filled (heading ++ []) more cs₀ 0 (length l) 0 0)
        (sym (append-nil heading)) filling_none;
  }

  module _ {cs : Columns} {i at signals marks : ℕ}
      (l : Load width bs h nums cs₀ cs i at signals marks) (on : i < h.operations)
      (w_now : List ℕ) (r : Reached) (o : OperationRead width h.queues h.semaphores h.buffers bs at r w_now) where
    -- one more is read, or refused
    pub read_next : operations_after width h (i + 1) (here bs (head_cursor h) nums) ≡
        scan (drop r.at bs) r.at ((heading ++ l.blocks) ++ take r.got w_now) (fault_of r)
    unfolding times
    read_next =
        let op : Scan → Scan = λ s. read_by bytes (operation_below width h.queues h.semaphores h.buffers) s in
        ap (λ (k : ℕ). operations_after width h k (here bs (head_cursor h) nums)) (add-one i)
        ∙ times_last i op (here bs (head_cursor h) nums)
        ∙ ap op l.read
        ∙ among width h.queues h.semaphores h.buffers bs at w_now r o l.inside (heading ++ l.blocks)

    pub load_next : {cs' : Columns} {signals' marks' : ℕ} → r.number ≡ 0 →
        Added w_now i 0 signals marks cs cs' (next_at w_now 0) signals' marks' →
        Load width bs h nums cs₀ cs' (i + 1) r.at signals' marks'
    load_next {cs'} {signals'} {marks'} z a =
        let block = take r.got w_now in
        let junk = drop r.got w_now in
        let front = heading ++ l.blocks in
        let k = whole_block width h.queues h.semaphores h.buffers bs at w_now r o l.inside z in
        let same : front ++ block ≡ heading ++ (l.blocks ++ block) = append_assoc heading l.blocks block in
        record {
          blocks = l.blocks ++ block;
          read =
              read_next
              ∙ ap (λ (f : Refusal). scan (drop r.at bs) r.at (front ++ block) f) (clean_fault r z)
              ∙ ap (λ (x : List ℕ). scan (drop r.at bs) r.at x none_given) same;
          inside = goes_on width h.queues h.semaphores h.buffers bs at w_now r o l.inside;
          few = omega (
            arith,
            l.few,
            length-append l.blocks block,
            few_numbers width h.queues h.semaphores h.buffers bs at w_now r o l.inside,
          );
          kept = keeps_more l.kept a;
          filled = λ small more.
              let window = subst (λ (x : List ℕ). Added x i 0 signals marks cs cs' (next_at x 0) signals' marks')
              (sym (take-append-drop r.got w_now)) a in
              let added = added_among small front block more junk k window in
              let next = filling_next (l.filled small (block ++ more)) on added in
              subst (λ (x : List ℕ). Filled x more cs' (i + 1) (length x) signals' marks') same
              (subst (λ (x : List ℕ). Filling x h.operations (length heading) cs₀ cs' (i + 1)
              (length (front ++ block)) signals' marks')
              (sym (append_assoc front block more)) next);
        }
