-- What is handed back of a reading: of what comes before the operations, with their count read after it, and of an
-- operation. Assumes nothing.
use mathlib.Core.Path.{◌≡◌, refl, sym, ap, ◌∙◌, subst}
use mathlib.Core.Bool.{Bool}
use mathlib.Core.List.{List, [], ◌∷◌, ◌++◌, append_assoc}
use Prim.Native.Nat.{ℕ, ◌+◌, ◌≤◌, min}
use native.Mathlib.Omega.{arith}
use lib.Dec.{eqb}
use lib.ListN.{length, take, drop, take-append-drop}
use lib.Seq.{length-take-le}
use borrow.Author.Tests.{eqb-true, eqb-false}
use Rattle.base_lists.specs.Lists.{in_front}
use Rattle.base_lists.proofs.Tests.{by_cases}
use Rattle.plan_format.specs.Sizes.{most_queues, most_semaphores, most_buffers, most_operations, block_numbers}
use Rattle.plan_format.specs.Refusal.{none_given}
use Rattle.plan_format.specs.Grammar.{Grammar, field, counted, bytes, Scan, scan, last_got, times, count_check}
use Rattle.plan_format.specs.Grammar.{read_by}
use Rattle.plan_format.specs.Form.{Form, form_by, is_second, queue_count, semaphore_count, buffer_count}
use Rattle.plan_format.specs.Form.{plan_grammar}
use Rattle.plan_format.specs.Sections.{repeat, limited, axis_field, size_field, owned, operation_below}
use Rattle.plan_format.proofs.Blocks.{CountsGiven, kept_now}
use Rattle.plan_format.proofs.Faults.{read_stays}
use Rattle.plan_format.proofs.Fields.{field_done}
use Rattle.plan_format.proofs.Judged.{zero_not_given}
use Rattle.plan_format.proofs.Reading.{last_is}
use Rattle.plan_format.proofs.Repeats.{read_repeat}
use Rattle.plan_format.proofs.Sections.{sections_kept}
use Rattle.stored_numbers.specs.Reading.{Reached, fault_of, here, Past, ReadsOn, begun, front_numbers, Stopped}
use Rattle.stored_numbers.specs.Reading.{unless_refused, Heading, head_grammar, head_scan_by, head_scan, HeadTold}
use Rattle.stored_numbers.specs.Reading.{ToldHead, HeadRead, head_cursor, operation_scan, OperationTold}
use Rattle.stored_numbers.specs.Reading.{OperationRead}
use Rattle.stored_numbers.proofs.Fields.{here_clean, here_given, fault_number, fault_none}
use Rattle.stored_numbers.proofs.Cursors.{past_then, reads_past, counted_read}
use Rattle.stored_numbers.proofs.Counts.{origin, heading, fronted_read, plan_is, front_few, front_past}

-- ---- what is handed back of a reading
fault_told : (c : Reached) → c.number ≡ (fault_of c).number
unfolding fault_of none_given
fault_told c =
    by_cases (eqb c.number 0) (λ t. let z = eqb-true c.number 0 t in rw t z)
    (λ f. sym (fault_number c (eqb-false c.number 0 f)))

pub stopped_here : (bs : List ℕ) {nums nums_now : List ℕ} (s : Scan) (c : Reached) → s ≡ here bs c nums_now →
    c.got ≤ length nums_now →
    Past c.got nums nums_now → Stopped s c.number c.at c.got nums nums_now
unfolding here scan in_front
stopped_here bs {nums} {nums_now} s c e few past =
    let long = length-take-le c.got nums_now few in
    subst (λ (z : Scan). Stopped z c.number c.at c.got nums nums_now) (sym e)
    (record {
      number_is = fault_told c;
      place_is = refl;
      got_is = sym long;
      array_is =
          sym (take-append-drop c.got nums_now)
          ∙ ap (λ (l : List ℕ). take c.got nums_now ++ l) (past.past ∙ ap (λ (k : ℕ). drop k nums) (sym long));
    })

-- a number is told where there is no refusal
unless_clean : (s : Scan) (n : ℕ) → s.fault.number ≡ 0 → n ≡ unless_refused s n
unfolding unless_refused
unless_clean s n z = rw (zero_not_given s.fault z)

-- ---- the head
-- the counts are at their places among the numbers
heading_counts : {q m b n : ℕ} {nums : List ℕ} → Heading q m b n nums → CountsGiven q m b nums
heading_counts {q} {m} {b} {n} h =
    let v₁ = q ∷ h.axes in
    let v₂ = m ∷ h.owners in
    let v₃ = b ∷ h.sizes in
    let all = ((v₁ ++ v₂) ++ v₃) ++ (n ∷ []) in
    let split : ((h.axes ++ v₂) ++ v₃) ++ (n ∷ []) ≡ h.axes ++ (m ∷ (h.owners ++ (b ∷ (h.sizes ++ (n ∷ []))))) =
    simp append_assoc in
    subst (CountsGiven q m b) (ap (λ (l : List ℕ). q ∷ l) split ∙ sym h.numbers_are)
    (kept_now q m b all (sections_kept q m b h.axes h.owners h.sizes h.axes_long h.owners_long
    h.sizes_long v₁ v₂ v₃ n refl refl refl))

-- what a head tells of a reading, where the counts are those of its numbers or the reading was refused
module _ (F : Form) (bs : List ℕ) (r : Reached) {nums₀ nums_now : List ℕ} (is : head_scan_by F bs ≡ here bs r nums_now)
    (roomy : r.got ≤ length nums_now) (past : Past r.got nums₀ nums_now) where
  stopped : Stopped (head_scan_by F bs) r.number r.at r.got nums₀ nums_now
  stopped = stopped_here bs (head_scan_by F bs) r is roomy past

  pub told_clean : {q m b n : ℕ} → r.number ≡ 0 → Heading q m b n (take r.got nums_now) →
      n ≡ last_got (here bs r nums_now) →
      HeadTold (head_scan_by F bs) nums₀
      (record {
        number = r.number;
        at = r.at;
        got = r.got;
        queues = q;
        semaphores = m;
        buffers = b;
        operations = n;
      })
      nums_now
  unfolding here scan
  told_clean {q} {m} {b} {n} z head last =
      let s = head_scan_by F bs in
      let counts = heading_counts head in
      let clean = sym stopped.number_is ∙ z in
      let at : (f : List ℕ → ℕ) (n : ℕ) → f (take r.got nums_now) ≡ n → n ≡ unless_refused s (f s.got) =
      λ f n e. sym (ap (λ (x : Scan). f x.got) is ∙ e) ∙ unless_clean s (f s.got) clean in
      record {
        stopped = stopped;
        queues = at queue_count q counts.queues;
        semaphores = at semaphore_count m counts.semaphores;
        buffers = at buffer_count b counts.buffers;
        operations = last ∙ sym (ap last_got is) ∙ unless_clean s (last_got s) clean;
      }

  -- a refusal before the operations is the plan's
  refused_none : (r.number ≡ 0 → ⊥) → (n : ℕ) → 0 ≡ unless_refused (head_scan_by F bs) n
  unfolding unless_refused
  refused_none z n = rw (is, here_given bs r nums_now z)

  pub told_refused : (r.number ≡ 0 → ⊥) →
      HeadTold (head_scan_by F bs) nums₀
      (record {
        number = r.number;
        at = r.at;
        got = r.got;
        queues = 0;
        semaphores = 0;
        buffers = 0;
        operations = 0;
      })
      nums_now
  told_refused z =
      record {
        stopped = stopped;
        queues = refused_none z _;
        semaphores = refused_none z _;
        buffers = refused_none z _;
        operations = refused_none z _;
      }

-- a reading that was refused stays where it is
pub stays_refused : (g : Grammar) (most : ℕ) (bs : List ℕ) (c : Reached) (nums : List ℕ) → (c.number ≡ 0 → ⊥) →
    c.at ≤ length bs → ReadsOn g most bs c nums c nums
stays_refused g most bs c nums z h =
    record {
      read = read_stays bytes g (here bs c nums) (here_given bs c nums z);
      inside = h;
      more = omega arith;
      few = omega arith;
      as_long = refl;
      past = refl;
    }

-- ---- the head, part by part
module _ (F : Form) (fits : F.semaphores_most ≤ most_semaphores) (bs : List ℕ) {c₁ c₂ c₃ r : Reached}
    {n₀ n₁ n₂ n₃ nums_now : List ℕ} (q m b : ℕ) (roomy : front_numbers F + 1 ≤ length n₀)
    (axes : ReadsOn (counted 0 most_queues 1 axis_field) (1 + most_queues) bs (origin F) n₀ c₁ n₁)
    (queues_are : c₁.number ≡ 0 → c₁.got ≡ 1 + q)
    (owners : ReadsOn (owned F (limited q 4)) (1 + F.semaphores_most) bs c₁ n₁ c₂ n₂)
    (semaphores_are : c₂.number ≡ 0 → c₂.got ≡ c₁.got + (1 + m))
    (sizes : ReadsOn (counted 0 most_buffers 2 size_field) (1 + most_buffers) bs c₂ n₂ c₃ n₃)
    (buffers_are : c₃.number ≡ 0 → c₃.got ≡ c₂.got + (1 + b))
    (count : ReadsOn (field 2 (λ _ v. count_check 0 most_operations v)) 1 bs c₃ n₃ r nums_now)
    (n : ℕ) (last : r.number ≡ 0 → n ≡ last_got (here bs r nums_now)) where
  enough : front_numbers F ≤ length n₀
  enough = omega (arith, roomy)

  front_got : c₃.got ≤ front_numbers F
  front_got = front_few F bs q m b enough axes queues_are owners semaphores_are sizes buffers_are

  front : Past c₃.got n₀ n₃
  front = front_past F bs q m b enough axes queues_are owners semaphores_are sizes buffers_are

  head_is : head_scan_by F bs ≡ here bs r nums_now
  unfolding head_scan_by head_grammar
  head_is =
      fronted_read F bs q m b enough axes queues_are owners semaphores_are sizes buffers_are
      (field 2 (λ _ v. count_check 0 most_operations v)) ∙ count.read

  pub head_past : Past r.got n₀ nums_now
  head_past = past_then count.more front (reads_past count)

  pub head_few : r.got ≤ front_numbers F + 1
  head_few = omega (arith, front_got, count.few)

  head_room : r.got ≤ length nums_now
  head_room = omega (arith, head_few, roomy, head_past.as_long)

  plan_after : read_by bytes (plan_grammar F) (begun F bs) ≡
      read_by bytes (repeat n (operation_below F.semaphore_width q m b)) (here bs r nums_now)
  plan_after =
      plan_is F bs q m b enough axes queues_are owners semaphores_are sizes buffers_are
      ∙ counted_read 0 most_operations 2 (operation_below F.semaphore_width q m b) count n last

  -- a count that was read comes after the three sections
  counted_after : r.number ≡ 0 → (c₃.number ≡ 0) × (take r.got nums_now ≡ take c₃.got n₃ ++ (n ∷ []))
  unfolding here scan read_by none_given
  counted_after z =
      let clean : (here bs r nums_now).fault.number ≡ 0 =
      ap (λ (s : Scan). s.fault.number) (here_clean bs r nums_now z) in
      let d = field_done bytes 2 (λ v. count_check 0 most_operations v) (here bs c₃ n₃)
      (ap (λ (s : Scan). s.fault.number) count.read ∙ clean) in
      let v = bytes.front 2 (drop c₃.at bs) in
      let got : take r.got nums_now ≡ take c₃.got n₃ ++ (v ∷ []) =
      ap (λ (s : Scan). s.got) (sym count.read ∙ d.result) in
      let same : v ≡ n =
      sym (last_is (drop r.at bs) (take c₃.got n₃) r.at v (fault_of r))
      ∙ ap (λ (l : List ℕ). last_got (scan (drop r.at bs) r.at l (fault_of r))) (sym got) ∙ sym (last z) in
      (fault_none c₃ d.begun, got ∙ ap (λ (x : ℕ). take c₃.got n₃ ++ (x ∷ [])) same)

  head_heading : r.number ≡ 0 → Heading q m b n (take r.got nums_now)
  head_heading z =
      let (clean, got) = counted_after z in subst (λ (l : List ℕ). Heading q m b n l) (sym got)
      (heading F bs q m b enough axes queues_are owners semaphores_are sizes buffers_are n clean)

  abbrev head : ToldHead
  head = record {
    number = r.number;
    at = r.at;
    got = r.got;
    queues = q;
    semaphores = m;
    buffers = b;
    operations = n;
  }

  abbrev refused : ToldHead
  refused = record {
    number = r.number;
    at = r.at;
    got = r.got;
    queues = 0;
    semaphores = 0;
    buffers = 0;
    operations = 0;
  }

  pub counts_told : r.number ≡ 0 → HeadTold (head_scan_by F bs) n₀ head nums_now
  counts_told z = told_clean F bs r head_is head_room head_past z (head_heading z) (last z)

  pub head_read : r.number ≡ 0 → n ≤ most_operations → HeadRead F bs head nums_now
  unfolding head_cursor here fault_of front_numbers
  head_read z few = record {
    plan = plan_after ∙ read_repeat bytes n (operation_below F.semaphore_width q m b) (here bs r nums_now);
    heading = head_heading;
    inside = count.inside;
    few = omega (arith, fits, head_few);
    few_operations = few;
  }

  pub refused_told : (r.number ≡ 0 → ⊥) → HeadTold (head_scan_by F bs) n₀ refused nums_now
  refused_told z = told_refused F bs r head_is head_room head_past z

  pub refused_read : (r.number ≡ 0 → ⊥) → HeadRead F bs refused nums_now
  unfolding head_cursor here fault_of times front_numbers
  refused_read z = record {
    plan =
        plan_after
        ∙ read_stays bytes (repeat n (operation_below F.semaphore_width q m b)) (here bs r nums_now)
        (here_given bs r nums_now z);
    heading = λ e. absurd (z e);
    inside = count.inside;
    few = omega (arith, fits, head_few);
    few_operations = omega arith;
  }

-- the head in the form that was told
pub head_in : {wide : Bool} (bs : List ℕ) → wide ≡ is_second bs → head_scan_by (form_by wide) bs ≡ head_scan bs
unfolding head_scan
head_in bs e = ap (λ (b : Bool). head_scan_by (form_by b) bs) e

-- ---- an operation read at the place, or at the end of the bytes
module _ (width q m b : ℕ) {a : ℕ} (at : ℕ) {bs w w_now : List ℕ} {r : Reached} (place : a ≡ min at (length bs))
    (roomy : block_numbers ≤ length w_now)
    (p : ReadsOn (operation_below width q m b) block_numbers bs (record { number = 0; at = a; got = 0 }) w r
    w_now)
  where
    operation_is : operation_scan width q m b bs at ≡ here bs r w_now
    unfolding operation_scan here fault_of
    operation_is = subst (λ (z : ℕ). read_by bytes (operation_below width q m b) (scan (drop z bs) z [] none_given) ≡
        here bs r w_now) place p.read

    pub operation_told : OperationTold width q m b bs at w r w_now
    unfolding OperationTold
    operation_told =
        stopped_here bs (operation_scan width q m b bs at) r operation_is (omega (arith, p.few)) (reads_past p)

    pub operation_read : OperationRead width q m b bs at r w_now
    operation_read = record { read = operation_is; inside = p.inside; few = p.few }
