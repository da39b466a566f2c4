-- The four sections of a list: what the checks ask of the numbers read is what the writer took from the list. Assumes
-- nothing.
use mathlib.Core.Path.{◌≡◌, refl, sym, ap, ◌∙◌}
use mathlib.Core.List.{List, [], ◌∷◌, ◌++◌}
use Prim.Native.Nat.{ℕ, ◌+◌, ◌*◌}
use native.Mathlib.Omega.{arith}
use lib.ListN.{get_or, take}
use lib.Seq.{length-take-le}
use Rattle.base_lists.proofs.Fronts.{past_later}
use Rattle.plan_format.specs.Sizes.{most_queues, most_buffers, most_operations}
use Rattle.plan_format.specs.Sizes.{block_bytes}
use Rattle.plan_format.specs.Grammar.{Grammar, counted, numbers, Scan, scan, read_by, Spelling, spell_by}
use Rattle.plan_format.specs.Form.{Form, queue_count, any_number}
use Rattle.plan_format.specs.Form.{new_axis, a_queue, operation, plan_grammar}
use Rattle.plan_format.specs.Sections.{limited, axis_field, size_field, owned, operation_below}
use Rattle.plan_format.proofs.Alike.{Alike, alike_from, alike_spell}
use Rattle.plan_format.proofs.Follows.{Section, section}
use Rattle.plan_format.proofs.Counts.{number_at, owners_alike, operations_alike, counts_of}
use Rattle.stored_bytes.specs.Writing.{Reached}
use Rattle.stored_bytes.specs.Writing.{fault_of, here, spelling, Writes, sections_most}
use Rattle.stored_bytes.proofs.Cursors.{clean_before}
use Rattle.stored_bytes.proofs.Fields.{fault_clean}

-- the section of operations
abbrev operated : Grammar → Grammar
operated g = counted 0 most_operations 2 g

module _ (F : Form) where
  module _ (xs : List ℕ) {k j : ℕ} {c₁ c₂ c₃ c₄ : Reached} {b₀ b₁ b₂ b₃ b₄ : List ℕ} {q m n : ℕ}
      (axes : Writes (counted 0 most_queues 1 axis_field) (1 + 8 * most_queues) xs
      (record { number = 0; at = 0; put = k }) b₀ c₁ b₁)
      (queues_are : q ≡ get_or xs 0 0)
      (owners : Writes (owned F (limited q 4)) j xs c₁ b₁ c₂ b₂)
      (semaphores_are : m ≡ get_or xs c₁.at 0)
      (sizes : Writes (counted 0 most_buffers 2 size_field) (2 + 4 * most_buffers) xs c₂ b₂ c₃ b₃)
      (buffers_are : n ≡ get_or xs c₂.at 0)
      (operations : Writes (operated (operation_below F.semaphore_width q m n))
      (2 + block_bytes * most_operations) xs c₃ b₃ c₄ b₄) where
    abbrev origin : Reached
    origin = record { number = 0; at = 0; put = k }

    first : (here xs c₁).fault.number ≡ 0 → Section (here xs origin) (here xs c₁)
    unfolding axis_field
    first e = section numbers 0 most_queues 1 8 new_axis (here xs origin) (here xs c₁) axes.read e

    second : (here xs c₂).fault.number ≡ 0 → Section (here xs c₁) (here xs c₂)
    second e =
        section numbers F.semaphores_least F.semaphores_most F.semaphore_width 1 (limited q 4) (here xs c₁)
        (here xs c₂) owners.read e

    third : (here xs c₃).fault.number ≡ 0 → Section (here xs c₂) (here xs c₃)
    unfolding size_field
    third e = section numbers 0 most_buffers 2 4 any_number (here xs c₂) (here xs c₃) sizes.read e

    queues_read : (A : Section (here xs origin) (here xs c₁)) → q ≡ A.count
    unfolding here scan
    queues_read A = queues_are ∙ number_at xs c₁.at 0 [] A.count A.rest A.got refl

    semaphores_read : (B : Section (here xs c₁) (here xs c₂)) → m ≡ B.count
    unfolding here scan
    semaphores_read B =
        semaphores_are ∙ number_at xs c₂.at c₁.at (take c₁.at xs) B.count B.rest B.got
        (length-take-le c₁.at xs axes.inside)

    buffers_read : (C : Section (here xs c₂) (here xs c₃)) → n ≡ C.count
    unfolding here scan
    buffers_read C =
        buffers_are ∙ number_at xs c₃.at c₂.at (take c₂.at xs) C.count C.rest C.got
        (length-take-le c₂.at xs owners.inside)

    owners_same : read_by numbers (owned F a_queue) (here xs c₁) ≡ read_by numbers (owned F (limited q 4)) (here xs c₁)
    unfolding queue_count here scan
    owners_same =
        alike_from numbers (owned F a_queue) (owned F (limited q 4)) (here xs c₁)
        (λ e. let A = first e in owners_alike F (take c₁.at xs) q
        (λ rest. ap (λ (l : List ℕ). get_or (l ++ rest) 0 0) A.got ∙ sym (queues_read A)))

    known : (here xs c₃).fault.number ≡ 0 →
        Alike (take c₃.at xs) (operated (operation F)) (operated (operation_below F.semaphore_width q m n))
    unfolding here scan
    known e =
        let C = third e in
        let B = second C.clean in
        let A = first B.clean in
        operations_alike F
        (counts_of A.rest B.rest C.rest (A.got ∙ ap (λ (x : ℕ). x ∷ A.rest) (sym (queues_read A)))
        (B.got ∙ ap (λ (x : ℕ). take c₁.at xs ++ (x ∷ B.rest)) (sym (semaphores_read B)))
        (C.got ∙ ap (λ (x : ℕ). take c₂.at xs ++ (x ∷ C.rest)) (sym (buffers_read C)))
        (A.long ∙ sym (queues_read A)) (B.long ∙ sym (semaphores_read B)) (C.long ∙ sym (buffers_read C)))

    operations_same : read_by numbers (operated (operation F)) (here xs c₃) ≡
        read_by numbers (operated (operation_below F.semaphore_width q m n)) (here xs c₃)
    unfolding here scan
    operations_same = alike_from numbers (operated (operation F))
        (operated (operation_below F.semaphore_width q m n)) (here xs c₃) known

    -- what the four sections write is the plan
    pub plan_writes : Writes (plan_grammar F) (sections_most j) xs origin b₀ c₄ b₄
    unfolding plan_grammar read_by spell_by here scan fault_of spelling axis_field size_field
    plan_writes =
        let sized = counted 0 most_buffers 2 size_field in
        record {
          read =
              ap (λ (s : Scan). read_by numbers (operated (operation F))
              (read_by numbers sized (read_by numbers (owned F a_queue) s))) axes.read
              ∙ ap (λ (s : Scan). read_by numbers (operated (operation F)) (read_by numbers sized s))
              (owners_same ∙ owners.read)
              ∙ ap (λ (s : Scan). read_by numbers (operated (operation F)) s) sizes.read
              ∙ operations_same
              ∙ operations.read;
          spell = λ e. let z₃ = clean_before operations e in let z₂ = clean_before sizes z₃ in let z₁ =
              clean_before owners z₂ in
              ap (λ (s : Spelling). spell_by (operated (operation F)) (spell_by sized (spell_by (owned F a_queue) s)))
              (axes.spell z₁)
              ∙ ap (λ (s : Spelling). spell_by (operated (operation F)) (spell_by sized s)) (owners.spell z₂)
              ∙ ap (λ (s : Spelling). spell_by (operated (operation F)) s) (sizes.spell z₃)
              ∙ alike_spell (known (fault_clean c₃ z₃)) (spelling xs c₃ b₃)
              ∙ operations.spell e;
          inside = operations.inside;
          more = omega (arith, axes.more, owners.more, sizes.more, operations.more);
          few = omega (arith, axes.few, owners.few, sizes.few, operations.few);
          by_eight = omega (arith, axes.by_eight, owners.by_eight, sizes.by_eight, operations.by_eight);
          as_long = operations.as_long ∙ sizes.as_long ∙ owners.as_long ∙ axes.as_long;
          past = operations.past
              ∙ past_later c₃.put c₄.put b₃ b₂ operations.more sizes.past
              ∙ past_later c₂.put c₄.put b₂ b₁ (omega (arith, sizes.more, operations.more)) owners.past
              ∙ past_later c₁.put c₄.put b₁ b₀ (omega (arith, owners.more, sizes.more, operations.more))
              axes.past;
        }
