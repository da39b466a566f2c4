-- A whole plan, as a reader's method reads it: what comes before the operations, and the operations. Assumes nothing.
use mathlib.Core.Path.{◌≡◌, sym, ◌∙◌}
use Rattle.std.specs.Prelude.{Result, Ok, Err}
use Prim.Native.Nat.{ℕ, ◌*◌}
use native.Mathlib.Nat.{mul-le-mul_left}
use native.Mathlib.Omega.{arith}
use Rattle.plan_format.specs.declared.refusal.Reason.{Reason}
use Rattle.plan_format.specs.Sizes.{block_numbers}
use Rattle.plan_format.specs.Grammar.{bytes, times}
use Rattle.plan_format.specs.Form.{Form}
use Rattle.plan_format.specs.Sections.{repeat, operation_below}
use Rattle.plan_format.proofs.Repeats.{read_repeat}
use Rattle.stored_numbers.specs.declared.operation.Counts.{Counts}
use Rattle.stored_numbers.specs.declared.reader.Reader.{Reader}
use Rattle.stored_numbers.specs.Reading.{here, reading, Reads, head_cursor, form_numbers}
use Rattle.stored_numbers.specs.Reading.{HeadReads, PlanReads}
use Rattle.stored_numbers.proofs.Cursors.{same_then, past_then, reads_past}

module _ (F : Form) {A : Type 0} {s t : Reader} {r : Result A Reason} where
  pub plan_read : {w : Reader} {k : Counts} {n : ℕ} → HeadReads F s (Ok (k, n)) t →
      Reads (repeat n (operation_below F.semaphore_width k.queues k.semaphores k.buffers)) (block_numbers * n) t r w →
      PlanReads F s r w
  unfolding head_cursor form_numbers
  plan_read {k = k} {n} h p =
      let q = rw h.same.plan at p.reads in
      let most = mul-le-mul_left block_numbers (h.means.few_operations) in
      record {
        same = same_then h.same p.same;
        read = record {
          read = h.means.plan
              ∙ sym (read_repeat bytes n (operation_below F.semaphore_width k.queues k.semaphores k.buffers)
              (here s.plan.now (reading t.cursor.at t.cursor.got) t.numbers.now))
              ∙ q.read;
          inside = q.inside;
          few = omega (arith, h.means.few, q.few, most);
        };
        past = past_then q.more h.past (reads_past q);
        few = omega (arith, h.few, q.few, most);
      }

  pub head_refused : {e : Reason} → r ≡ Err e → HeadReads F s (Err e) t → PlanReads F s r t
  unfolding head_cursor times form_numbers
  head_refused {e} gone h = rw gone (record {
    same = h.same;
    read = record {
      read = h.means.plan;
      inside = h.means.inside;
      few = omega (arith, h.means.few);
    };
    past = h.past;
    few = omega (arith, h.few);
  })
