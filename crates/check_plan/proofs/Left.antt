-- What the check leaves past the plan's own places in what is lent to it. Assumes nothing.
use mathlib.Core.Path.{◌≡◌, refl, sym, ◌∙◌, subst}
use mathlib.Core.List.{List, []}
use Prim.Native.Nat.{ℕ, ◌*◌}
use native.Mathlib.Omega.{arith}
use Rattle.std.specs.Prelude.{Result}
use Rattle.plan_format.specs.Sizes.{most_waits}
use Rattle.plan_format.specs.Stored.{scanned}
use Rattle.plan_format.specs.Told.{Refused}
use Rattle.plan_order.specs.Meaning.{PastKept}
use Rattle.check_columns.specs.Columns.{Columns, columns}
use Rattle.stored_numbers.specs.Reading.{ToldHead, head_scan, HeadTold}
use Rattle.check_load.specs.Loading.{ToldLoad, KeptPast, Loads, Keeps, head_got, head_operations}
use Rattle.check_load.proofs.Keeping.{keeps_none}
use Rattle.check_plan.specs.Counting.{opened_of}
use Rattle.check_plan.specs.Opening.{Lent, lent, lent_columns, LentKept, LentLeft}
use Rattle.check_plan.specs.declared.Opened.{Opened}

past_none : (k : ℕ) (l : List ℕ) → PastKept k l l
past_none k l = record { long = λ _. refl; past = λ i h. refl }

past_then : {k : ℕ} {a b c : List ℕ} → PastKept k a b → PastKept k b c → PastKept k a c
past_then p q = record {
  long = λ few. let same = p.long few in q.long (omega (arith, same)) ∙ same;
  past = λ i h. q.past i h ∙ p.past i h;
}

abbrev lent_by : (head : List ℕ) → Columns → (source : List ℕ) → Lent
lent_by head cs source =
    lent head cs.queue source cs.signal_semaphore cs.signal_value cs.signal_operation cs.mark
    cs.mark_operation

-- the sources are in the place of the waits' semaphores, the other columns stay
with_sources : {i signals marks : ℕ} {cs cs' : Columns} {source : List ℕ} (head : List ℕ) →
    KeptPast i signals marks cs cs' → PastKept (most_waits * i) cs'.wait_semaphore source →
    KeptPast i signals marks (lent_columns (lent_by head cs cs.wait_semaphore))
    (lent_columns (lent_by head cs' source))
with_sources {i} head k s = record {
  queues_kept = k.queues_kept;
  wait_semaphores_kept = past_then k.wait_semaphores_kept s;
  wait_values_kept = past_none (most_waits * i) [];
  signal_semaphores_kept = k.signal_semaphores_kept;
  signal_values_kept = k.signal_values_kept;
  signal_operations_kept = k.signal_operations_kept;
  marks_kept = k.marks_kept;
  mark_operations_kept = k.mark_operations_kept;
}

module _ {bs head : List ℕ} {r : ToldLoad} {m : ℕ} {cs cs' : Columns} (loads : Loads bs r head cs')
    (keeps : Keeps m r cs cs') (o : Result (Unit {0}) Refused) where
  -- a plan that the reader refuses
  pub kept_refused : (r.number ≡ 0 → ⊥) →
      LentKept bs m (opened_of r o) (lent_by head cs cs.wait_semaphore) (lent_by head cs' cs'.wait_semaphore)
  kept_refused bad = record {
    taken = λ z. absurd (bad (loads.number ∙ z));
    refused = λ _. with_sources head (keeps.refused bad) (past_none _ cs'.wait_semaphore);
  }

  -- a plan that is judged
  pub kept_judged : r.number ≡ 0 → {source : List ℕ} →
      PastKept (most_waits * r.operations) cs'.wait_semaphore source →
      LentKept bs m (opened_of r o) (lent_by head cs cs.wait_semaphore) (lent_by head cs' source)
  kept_judged z s = record {
    taken = λ _. with_sources head (keeps.taken z) s;
    refused = λ bad. absurd (bad (sym loads.number ∙ z));
  }

-- ---- the head
module _ {bs nums nums_now : List ℕ} {h : ToldHead} (told : HeadTold (head_scan bs) nums h nums_now)
    {queue source ssem sval sop mark mop : List ℕ} {o : Opened} where
  -- after a head that is read
  pub left_after : {queue' source' ssem' sval' sop' mark' mop' : List ℕ} →
      LentKept bs h.operations o (lent nums_now queue source ssem sval sop mark mop)
      (lent nums_now queue' source' ssem' sval' sop' mark' mop') →
      LentLeft bs o (lent nums queue source ssem sval sop mark mop)
      (lent nums_now queue' source' ssem' sval' sop' mark' mop')
  unfolding head_got head_operations
  left_after {queue'} {source'} {ssem'} {sval'} {sop'} {mark'} {mop'} k = record {
    head_is = told.stopped.array_is;
    kept = record {
      taken = k.taken;
      refused = λ bad. subst (λ (n : ℕ). KeptPast n (3 * n) (7 * n) (columns queue source [] ssem sval sop mark mop)
          (columns queue' source' [] ssem' sval' sop' mark' mop')) told.operations (k.refused bad);
    };
  }

  -- beside a refusal of the head
  pub left_head : ((scanned bs).fault.number ≡ 0 → ⊥) →
      LentLeft bs o (lent nums queue source ssem sval sop mark mop) (lent nums_now queue source ssem sval sop mark mop)
  unfolding head_got
  left_head bad = record {
    head_is = told.stopped.array_is;
    kept = record {
      taken = λ z. absurd (bad z);
      refused = λ _. let n = head_operations bs in
          keeps_none n (3 * n) (7 * n) (columns queue source [] ssem sval sop mark mop);
    };
  }
