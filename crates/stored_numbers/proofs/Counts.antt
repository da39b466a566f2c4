-- The four sections of a plan: what the checks ask of the numbers read is what the reader took from its array. Assumes
-- nothing.
use mathlib.Core.Path.{◌≡◌, sym, ap, ◌∙◌, subst}
use mathlib.Core.Bool.{Bool}
use mathlib.Core.List.{List, [], ◌∷◌, ◌++◌, append_assoc}
use Prim.Native.Nat.{ℕ, ◌+◌, ◌≤◌}
use native.Mathlib.Omega.{arith}
use lib.ListN.{length, get_or, take, length-append}
use lib.Seq.{length-take-le}
use Rattle.plan_format.specs.Sizes.{most_queues, most_buffers, most_operations}
use Rattle.plan_format.specs.Refusal.{none_given}
use Rattle.plan_format.specs.Grammar.{Grammar, counted, bytes, Scan, scan, read_by}
use Rattle.plan_format.specs.Form.{Form, form_by, is_second, queue_count, any_number, new_axis, a_queue, operation}
use Rattle.plan_format.specs.Form.{plan_grammar}
use Rattle.plan_format.specs.Sections.{limited, axis_field, size_field, owned, operation_below}
use Rattle.plan_format.proofs.Alike.{alike_from}
use Rattle.plan_format.proofs.Counts.{owners_alike, operations_alike, counts_of}
use Rattle.plan_format.proofs.Follows.{Section, section}
use Rattle.plan_format.proofs.Forms.{led_in}
use Rattle.stored_numbers.specs.Reading.{Reached, fault_of, here, reading, Past, ReadsOn, begun, front_numbers, Heading}
use Rattle.stored_numbers.specs.Reading.{fronted}
use Rattle.stored_numbers.proofs.Fields.{here_clean, fault_none}
use Rattle.stored_numbers.proofs.Cursors.{past_then, reads_past}

glued : {got₁ got₂ got₃ : List ℕ} (axes owners sizes : List ℕ) (q m b n : ℕ) → got₁ ≡ q ∷ axes →
    got₂ ≡ got₁ ++ (m ∷ owners) → got₃ ≡ got₂ ++ (b ∷ sizes) →
    got₃ ++ (n ∷ []) ≡ q ∷ (axes ++ (m ∷ (owners ++ (b ∷ (sizes ++ (n ∷ []))))))
glued axes owners sizes q m b n e₁ e₂ e₃ =
    let split : ((axes ++ (m ∷ owners)) ++ (b ∷ sizes)) ++ (n ∷ []) ≡
    axes ++ (m ∷ (owners ++ (b ∷ (sizes ++ (n ∷ []))))) = simp append_assoc in
    ap (λ (l : List ℕ). l ++ (n ∷ []))
    (e₃ ∙ ap (λ (l : List ℕ). l ++ (b ∷ sizes)) (e₂ ∙ ap (λ (l : List ℕ). l ++ (m ∷ owners)) e₁))
    ∙ ap (λ (l : List ℕ). q ∷ l) split

-- the lead byte is there where it was told
pub lead_inside : {wide : Bool} (bs : List ℕ) → wide ≡ is_second bs → length (form_by wide).lead ≤ length bs
lead_inside bs e = subst (λ (b : Bool). length (form_by b).lead ≤ length bs) (sym e) (led_in bs)

-- a reading without a fault
abbrev Clean : (bs : List ℕ) → Reached → (nums : List ℕ) → Type 0
Clean bs c nums = (here bs c nums).fault.number ≡ 0

clean_at : (bs : List ℕ) (c : Reached) (nums : List ℕ) → Clean bs c nums → c.number ≡ 0
unfolding here scan
clean_at bs c nums e = fault_none c e

-- as many numbers are stored as a section has
grown : (front all : List ℕ) (count : ℕ) (rest : List ℕ) → all ≡ front ++ (count ∷ rest) → length rest ≡ count →
    length all ≡ length front + (1 + count)
grown front all count rest e l = ap length e ∙ length-append front (count ∷ rest) ∙ omega (arith, l)

module _ (F : Form) where
  -- how far a reading has come at its start, past the lead bytes
  abbrev pub origin : Reached
  origin = reading (length F.lead) 0

  module _ (bs : List ℕ) {c₁ c₂ c₃ : Reached} {n₀ n₁ n₂ n₃ : List ℕ} (q m b : ℕ) (roomy : front_numbers F ≤ length n₀)
      (axes : ReadsOn (counted 0 most_queues 1 axis_field) (1 + most_queues) bs origin n₀ c₁ n₁)
      (queues_are : c₁.number ≡ 0 → c₁.got ≡ 1 + q)
      (owners : ReadsOn (owned F (limited q 4)) (1 + F.semaphores_most) bs c₁ n₁ c₂ n₂)
      (semaphores_are : c₂.number ≡ 0 → c₂.got ≡ c₁.got + (1 + m))
      (sizes : ReadsOn (counted 0 most_buffers 2 size_field) (1 + most_buffers) bs c₂ n₂ c₃ n₃)
      (buffers_are : c₃.number ≡ 0 → c₃.got ≡ c₂.got + (1 + b)) where
    first : Clean bs c₁ n₁ → Section (here bs origin n₀) (here bs c₁ n₁)
    unfolding axis_field
    first e = section bytes 0 most_queues 1 8 new_axis (here bs origin n₀) (here bs c₁ n₁) axes.read e

    second : Clean bs c₂ n₂ → Section (here bs c₁ n₁) (here bs c₂ n₂)
    second e =
        section bytes F.semaphores_least F.semaphores_most F.semaphore_width 1 (limited q 4) (here bs c₁ n₁)
        (here bs c₂ n₂) owners.read e

    third : Clean bs c₃ n₃ → Section (here bs c₂ n₂) (here bs c₃ n₃)
    unfolding size_field
    third e = section bytes 0 most_buffers 2 4 any_number (here bs c₂ n₂) (here bs c₃ n₃) sizes.read e

    queues_read : (e : Clean bs c₁ n₁) → q ≡ (first e).count
    unfolding here scan front_numbers
    queues_read e =
        let A = first e in
        omega (
          arith,
          grown [] (take c₁.got n₁) A.count A.rest A.got A.long,
          length-take-le c₁.got n₁ (omega (arith, roomy, axes.few, axes.as_long)),
          queues_are (clean_at bs c₁ n₁ e),
        )

    semaphores_read : (e : Clean bs c₂ n₂) → m ≡ (second e).count
    unfolding here scan front_numbers
    semaphores_read e =
        let B = second e in
        omega (
          arith,
          grown (take c₁.got n₁) (take c₂.got n₂) B.count B.rest B.got B.long,
          length-take-le c₁.got n₁ (omega (arith, roomy, axes.few, axes.as_long)),
          length-take-le c₂.got n₂
              (omega (arith, roomy, axes.few, axes.as_long, owners.few, owners.as_long)),
          semaphores_are (clean_at bs c₂ n₂ e),
        )

    buffers_read : (e : Clean bs c₃ n₃) → b ≡ (third e).count
    unfolding here scan front_numbers
    buffers_read e =
        let C = third e in
        omega (
          arith,
          grown (take c₂.got n₂) (take c₃.got n₃) C.count C.rest C.got C.long,
          length-take-le c₂.got n₂
              (omega (arith, roomy, axes.few, axes.as_long, owners.few, owners.as_long)),
          length-take-le c₃.got n₃
              (omega (arith, roomy, axes.few, axes.as_long, owners.few, owners.as_long, sizes.few, sizes.as_long)),
          buffers_are (clean_at bs c₃ n₃ e),
        )

    -- ---- the numbers of the three sections
    at₁ : (e : Clean bs c₁ n₁) → take c₁.got n₁ ≡ q ∷ (first e).rest
    unfolding here scan
    at₁ e = (first e).got ∙ ap (λ (x : ℕ). x ∷ (first e).rest) (sym (queues_read e))

    at₂ : (e : Clean bs c₂ n₂) → take c₂.got n₂ ≡ take c₁.got n₁ ++ (m ∷ (second e).rest)
    unfolding here scan
    at₂ e = (second e).got ∙ ap (λ (x : ℕ). take c₁.got n₁ ++ (x ∷ (second e).rest)) (sym (semaphores_read e))

    at₃ : (e : Clean bs c₃ n₃) → take c₃.got n₃ ≡ take c₂.got n₂ ++ (b ∷ (third e).rest)
    unfolding here scan
    at₃ e = (third e).got ∙ ap (λ (x : ℕ). take c₂.got n₂ ++ (x ∷ (third e).rest)) (sym (buffers_read e))

    owners_same : read_by bytes (owned F a_queue) (here bs c₁ n₁) ≡ read_by bytes (owned F (limited q 4))
        (here bs c₁ n₁)
    unfolding queue_count here scan
    owners_same =
        alike_from bytes (owned F a_queue) (owned F (limited q 4)) (here bs c₁ n₁)
        (λ e. owners_alike F (take c₁.got n₁) q (λ rest. ap (λ (l : List ℕ). get_or (l ++ rest) 0 0) (at₁ e)))

    pub heading : (n : ℕ) → c₃.number ≡ 0 → Heading q m b n (take c₃.got n₃ ++ (n ∷ []))
    unfolding scan none_given
    heading n z =
        let e : Clean bs c₃ n₃ = ap (λ (s : Scan). s.fault.number) (here_clean bs c₃ n₃ z) in
        let f = (third e).clean in
        let g = (second f).clean in
        record {
          axes = (first g).rest;
          owners = (second f).rest;
          sizes = (third e).rest;
          axes_long = (first g).long ∙ sym (queues_read g);
          owners_long = (second f).long ∙ sym (semaphores_read f);
          sizes_long = (third e).long ∙ sym (buffers_read e);
          numbers_are = glued (first g).rest (second f).rest (third e).rest q m b n (at₁ g) (at₂ f) (at₃ e);
        }

    operations_same : read_by bytes (counted 0 most_operations 2 (operation F)) (here bs c₃ n₃) ≡
        read_by bytes (counted 0 most_operations 2 (operation_below F.semaphore_width q m b)) (here bs c₃ n₃)
    unfolding here scan
    operations_same =
        alike_from bytes (counted 0 most_operations 2 (operation F))
        (counted 0 most_operations 2 (operation_below F.semaphore_width q m b))
        (here bs c₃ n₃)
        (λ e. let f = (third e).clean in let g = (second f).clean in operations_alike F
        (counts_of (first g).rest (second f).rest (third e).rest (at₁ g) (at₂ f) (at₃ e)
        ((first g).long ∙ sym (queues_read g)) ((second f).long ∙ sym (semaphores_read f))
        ((third e).long ∙ sym (buffers_read e))))

    -- what the three sections read comes before whatever follows
    pub fronted_read : (g : Grammar) → read_by bytes (fronted F g) (begun F bs) ≡ read_by bytes g (here bs c₃ n₃)
    unfolding fronted begun read_by here fault_of axis_field size_field
    fronted_read g =
        ap (λ (s : Scan). read_by bytes g
        (read_by bytes (counted 0 most_buffers 2 size_field) (read_by bytes (owned F a_queue) s))) axes.read
        ∙ ap (λ (s : Scan). read_by bytes g (read_by bytes (counted 0 most_buffers 2 size_field) s))
        (owners_same ∙ owners.read)
        ∙ ap (λ (s : Scan). read_by bytes g s) sizes.read

    -- what the four sections read is the plan
    pub plan_is : read_by bytes (plan_grammar F) (begun F bs) ≡
        read_by bytes (counted 0 most_operations 2 (operation_below F.semaphore_width q m b)) (here bs c₃ n₃)
    unfolding plan_grammar fronted
    plan_is = fronted_read (counted 0 most_operations 2 (operation F)) ∙ operations_same

    pub front_few : c₃.got ≤ front_numbers F
    unfolding front_numbers
    front_few = omega (arith, axes.few, owners.few, sizes.few)

    -- past the numbers of the three sections the array stays
    pub front_past : Past c₃.got n₀ n₃
    front_past = past_then sizes.more (past_then owners.more (reads_past axes) (reads_past owners))
        (reads_past sizes)
