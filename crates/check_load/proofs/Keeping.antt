-- What stays of the columns while operations are stored: all past them. Assumes nothing.
use mathlib.Core.Path.{◌≡◌, refl, ap, ◌∙◌}
use mathlib.Core.List.{List, [], ◌∷◌}
use Prim.Native.Nat.{ℕ, suc, ◌+◌, ◌*◌, ◌≤◌}
use native.Mathlib.Omega.{arith}
use lib.ListN.{length, get_or, set}
use lib.Seq.{sets, length-sets, get_or-set_other}
use Rattle.base_lists.specs.Lists.{tabulate_from}
use Rattle.base_lists.proofs.Tables.{tabulate_length}
use Rattle.plan_format.specs.Sizes.{most_waits}
use Rattle.plan_order.specs.Meaning.{PastKept}
use Rattle.check_columns.specs.Columns.{Columns}
use Rattle.check_columns.specs.Filling.{queue_part, wait_semaphore_part, wait_value_part, signal_semaphore_part}
use Rattle.check_columns.specs.Filling.{signal_value_part, signal_operation_part, mark_part, mark_operation_part, Added}
use Rattle.check_load.specs.Loading.{KeptPast}

-- stores leave what is past them
sets_past : (l xs : List ℕ) (i k : ℕ) → i + length xs ≤ k → get_or (sets l i xs) k 0 ≡ get_or l k 0
sets_past l [] i k h = refl
sets_past l (x ∷ xs) i k h =
    sets_past (set l i x) xs (suc i) k (omega arith) ∙ get_or-set_other l i k x 0 (λ e. omega arith)

past_none : (k : ℕ) (l : List ℕ) → PastKept k l l
past_none k l = record { long = λ _. refl; past = λ i h. refl }

past_more : {k k' : ℕ} {old now : List ℕ} → PastKept k old now → k ≤ k' → PastKept k' old now
past_more p h = record { long = λ few. p.long (omega arith); past = λ i b. p.past i (omega arith) }

past_put : {k k' : ℕ} {old before now : List ℕ} (place : ℕ) (part : List ℕ) → PastKept k old before →
    now ≡ sets before place part → k ≤ k' → place + length part ≤ k' → PastKept k' old now
past_put {before} place part p e h b = record {
  long = λ few. ap (λ (l : List ℕ). length l) e ∙ length-sets before place part ∙ p.long (omega arith);
  past = λ i inside.
      ap (λ (l : List ℕ). get_or l i 0) e ∙ sets_past before part place i (omega arith) ∙ p.past i (omega arith);
}

-- ---- all columns
pub keeps_none : (i signals marks : ℕ) (cs : Columns) → KeptPast i signals marks cs cs
keeps_none i signals marks cs = record {
  queues_kept = past_none i cs.queue;
  wait_semaphores_kept = past_none (most_waits * i) cs.wait_semaphore;
  wait_values_kept = past_none (most_waits * i) cs.wait_value;
  signal_semaphores_kept = past_none signals cs.signal_semaphore;
  signal_values_kept = past_none signals cs.signal_value;
  signal_operations_kept = past_none signals cs.signal_operation;
  marks_kept = past_none marks cs.mark;
  mark_operations_kept = past_none marks cs.mark_operation;
}

pub keeps_past : {i j signals signals' marks marks' : ℕ} {cs cs' : Columns} → KeptPast i signals marks cs cs' → i ≤ j →
    signals ≤ signals' → marks ≤ marks' → KeptPast j signals' marks' cs cs'
keeps_past k more s m = record {
  queues_kept = past_more k.queues_kept more;
  wait_semaphores_kept = past_more k.wait_semaphores_kept (omega arith);
  wait_values_kept = past_more k.wait_values_kept (omega arith);
  signal_semaphores_kept = past_more k.signal_semaphores_kept s;
  signal_values_kept = past_more k.signal_values_kept s;
  signal_operations_kept = past_more k.signal_operations_kept s;
  marks_kept = past_more k.marks_kept m;
  mark_operations_kept = past_more k.mark_operations_kept m;
}

-- so many numbers from a place on
tabulated : (f : ℕ → ℕ) (many place k : ℕ) → place + many ≤ k → place + length (tabulate_from many 0 f) ≤ k
tabulated f many place k h = omega (arith, tabulate_length f many 0)

-- one operation more is stored
pub keeps_more : {window : List ℕ} {i signals marks at signals' marks' : ℕ} {cs₀ cs cs' : Columns} →
    KeptPast i signals marks cs₀ cs → Added window i 0 signals marks cs cs' at signals' marks' →
    KeptPast (i + 1) signals' marks' cs₀ cs'
keeps_more {window} {i} {signals} {marks} {signals'} {marks'} k a =
    let s : signals ≤ signals' = omega (arith, a.more_signals) in
    let m : marks ≤ marks' = omega (arith, a.more_marks) in
    record {
      queues_kept = past_put i (queue_part window i 0) k.queues_kept a.queues_added.stored
          (omega arith) (omega arith);
      wait_semaphores_kept =
          past_put (most_waits * i) (wait_semaphore_part window i 0) k.wait_semaphores_kept
          a.wait_semaphores_added.stored (omega arith)
          (tabulated _ most_waits (most_waits * i) (most_waits * (i + 1)) (omega arith));
      wait_values_kept =
          past_put (most_waits * i) (wait_value_part window i 0) k.wait_values_kept
          a.wait_values_added.stored (omega arith)
          (tabulated _ most_waits (most_waits * i) (most_waits * (i + 1)) (omega arith));
      signal_semaphores_kept =
          past_put signals (signal_semaphore_part window i 0) k.signal_semaphores_kept
          a.signal_semaphores_added.stored s
          (tabulated _ _ signals signals' (omega (arith, a.more_signals)));
      signal_values_kept =
          past_put signals (signal_value_part window i 0) k.signal_values_kept a.signal_values_added.stored s
          (tabulated _ _ signals signals' (omega (arith, a.more_signals)));
      signal_operations_kept =
          past_put signals (signal_operation_part window i 0) k.signal_operations_kept
          a.signal_operations_added.stored s
          (tabulated _ _ signals signals' (omega (arith, a.more_signals)));
      marks_kept =
          past_put marks (mark_part window i 0) k.marks_kept a.marks_added.stored m
          (tabulated _ _ marks marks' (omega (arith, a.more_marks)));
      mark_operations_kept =
          past_put marks (mark_operation_part window i 0) k.mark_operations_kept a.mark_operations_added.stored m
          (tabulated _ _ marks marks' (omega (arith, a.more_marks)));
    }
