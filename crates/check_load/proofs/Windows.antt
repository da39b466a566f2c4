-- What an operation adds to the columns from a window of numbers is what it adds from its place among all numbers.
-- Assumes nothing.
use mathlib.Core.Path.{◌≡◌, sym, ap, ◌∙◌, subst}
use mathlib.Core.List.{List, [], ◌∷◌, ◌++◌, map}
use Prim.Native.Nat.{ℕ, ◌+◌}
use lib.ListN.{length, length-append}
use lib.Seq.{drop-append_seam}
use Rattle.plan_format.specs.Plan.{Operation, operation_in, operation_long}
use Rattle.plan_format.proofs.Blocks.{Block}
use Rattle.plan_format.proofs.Operations.{operation_of, block_operation, block_long}
use Rattle.check_columns.specs.Columns.{Columns}
use Rattle.check_columns.specs.Filling.{next_at, Put, Added}
use Rattle.check_columns.proofs.Operations.{Fits, here, next_is, signals_many, marks_many}
use Rattle.check_columns.proofs.Lists.{three_waits, its_signals, its_marks, code_of, queue_same, wait_semaphore_same}
use Rattle.check_columns.proofs.Lists.{wait_value_same, signal_semaphore_same, signal_value_same, signal_operation_same}
use Rattle.check_columns.proofs.Lists.{mark_same, mark_operation_same}
use Rattle.check_load.proofs.Blocks.{Small, block_fits}

put_same : {place : ℕ} {part other before after : List ℕ} → part ≡ other → Put part place before after →
    Put other place before after
put_same {place} {before = before} {after} e p = subst (λ (z : List ℕ). Put z place before after) e p

module _ {q m b : ℕ} (small : Small q m b) (front block more junk : List ℕ) (k : Block q m b block) where
  abbrev all : List ℕ
  all = front ++ (block ++ more)

  abbrev window : List ℕ
  window = block ++ junk

  abbrev at : ℕ
  at = length front

  abbrev o : Operation
  o = operation_of q m b block k

  there : here all at ≡ o
  there = ap (operation_in) (drop-append_seam front (block ++ more)) ∙ block_operation q m b block more k

  first : here window 0 ≡ o
  first = block_operation q m b block junk k

  fits : Fits (here all at)
  fits = subst Fits (sym there) (block_fits small k)

  fits_first : Fits (here window 0)
  fits_first = subst Fits (sym first) (block_fits small k)

  same : here window 0 ≡ here all at
  same = first ∙ sym there

  further : length (front ++ block) ≡ next_at all at
  further =
      length-append front block
      ∙ sym (next_is all at fits
      ∙ ap (λ (n : ℕ). at + n)
      (ap (operation_long) (drop-append_seam front (block ++ more)) ∙ block_long q m b block more k))

  moved : {A : Type 0} (h : A → ℕ) (of : Operation → List A) {part other : List ℕ} → part ≡ map h (of (here window 0)) →
      other ≡ map h (of (here all at)) → part ≡ other
  moved h of e f = e ∙ ap (λ (z : Operation). map h (of z)) same ∙ sym f

  pub added_among : {i signals marks signals' marks' : ℕ} {cs cs' : Columns} →
      Added window i 0 signals marks cs cs' (next_at window 0) signals' marks' →
      Added all i at signals marks cs cs' (length (front ++ block)) signals' marks'
  added_among {i} {signals} {marks} a = record {
    queues_added =
        put_same (moved (λ x. x.queue) (λ z. z ∷ []) (queue_same window i 0 fits_first) (queue_same all i at fits))
        a.queues_added;
    wait_semaphores_added =
        put_same (moved (λ x. x.semaphore) (three_waits i) (wait_semaphore_same window i 0 fits_first)
        (wait_semaphore_same all i at fits)) a.wait_semaphores_added;
    wait_values_added =
        put_same (moved (λ x. x.value) (three_waits i) (wait_value_same window i 0 fits_first)
        (wait_value_same all i at fits)) a.wait_values_added;
    signal_semaphores_added =
        put_same (moved (λ x. x.semaphore) (its_signals i) (signal_semaphore_same window i 0 fits_first)
        (signal_semaphore_same all i at fits)) a.signal_semaphores_added;
    signal_values_added =
        put_same (moved (λ x. x.value) (its_signals i) (signal_value_same window i 0 fits_first)
        (signal_value_same all i at fits)) a.signal_values_added;
    signal_operations_added =
        put_same (moved (λ x. x.operation) (its_signals i) (signal_operation_same window i 0 fits_first)
        (signal_operation_same all i at fits)) a.signal_operations_added;
    marks_added = put_same (moved code_of (its_marks i) (mark_same window i 0 fits_first) (mark_same all i at fits))
        a.marks_added;
    mark_operations_added =
        put_same (moved (λ x. x.by) (its_marks i) (mark_operation_same window i 0 fits_first)
        (mark_operation_same all i at fits)) a.mark_operations_added;
    next = further;
    more_signals = a.more_signals
        ∙ ap (λ (n : ℕ). signals + n) (signals_many window 0 fits_first
        ∙ ap (λ (z : Operation). length z.signals) same ∙ sym (signals_many all at fits));
    more_marks = a.more_marks
        ∙ ap (λ (n : ℕ). marks + n) (marks_many window 0 fits_first ∙ ap (λ (z : Operation). length z.marks) same
        ∙ sym (marks_many all at fits));
  }
