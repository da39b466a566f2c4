-- The counts in front of the sections: grammars whose checks take a count from the numbers read, and those that know
-- it, read alike. Assumes nothing.
use mathlib.Core.Path.{◌≡◌, refl, sym, ap, ◌∙◌, subst}
use mathlib.Core.Bool.{cond}
use mathlib.Core.List.{List, ◌∷◌, ◌++◌}
use Prim.Native.Nat.{ℕ, ◌+◌, zero-le}
use native.Mathlib.Omega.{arith}
use lib.Dec.{ltb}
use lib.ListN.{length, get_or, take, length-append, length-take}
use lib.Seq.{get_or-take}
use borrow.Author.Tests.{lt-ltb, le-ltb, ltb-true, ltb-false}
use Rattle.base_lists.proofs.Tests.{by_cases}
use Rattle.plan_format.specs.Sizes.{most_operations, least_wait, least_signal}
use Rattle.plan_format.specs.Grammar.{field, counted, count_check}
use Rattle.plan_format.specs.Form.{Form, queue_count, semaphore_count, buffer_count, below, a_queue, a_semaphore}
use Rattle.plan_format.specs.Form.{a_buffer, a_kind, point, mark, operation}
use Rattle.plan_format.specs.Sections.{limited, point_below, mark_below, operation_below}
use Rattle.plan_format.proofs.Seams.{at_seam}
use Rattle.plan_format.proofs.Blocks.{Kept}
use Rattle.plan_format.proofs.Sections.{header_kept}
use Rattle.plan_format.proofs.Alike.{Alike, field_alike, seq_alike, counted_alike}

-- a count's check is a limit
pub count_limited : (most v : ℕ) → count_check 0 most v ≡ cond (ltb v (most + 1)) 0 2
unfolding count_check
count_limited most v =
    by_cases (ltb most v) (λ t. rw (le-ltb v 0 zero-le, t, le-ltb v (most + 1) (omega (arith, ltb-true most v t))))
    (λ f. rw (le-ltb v 0 zero-le, f, lt-ltb v (most + 1) (omega (arith, ltb-false most v f))))

-- the number after a front of the numbers read
pub number_at : (nums : List ℕ) (k i : ℕ) (front : List ℕ) (v : ℕ) (rest : List ℕ) → take k nums ≡ front ++ (v ∷ rest) →
    length front ≡ i → get_or nums i 0 ≡ v
number_at nums k i front v rest e l =
    sym (get_or-take k nums i 0 (omega (arith, length-take k nums, ap length e, length-append front (v ∷ rest))))
    ∙ at_seam (take k nums) front rest v i e l

-- ---- the grammars of the sections, with the counts known
module _ (F : Form) where
  pub owners_alike : (got : List ℕ) (q : ℕ) → ((rest : List ℕ) → queue_count (got ++ rest) ≡ q) →
      Alike got (counted F.semaphores_least F.semaphores_most F.semaphore_width (field 1 a_queue))
      (counted F.semaphores_least F.semaphores_most F.semaphore_width (field 1 (limited q 4)))
  unfolding a_queue below limited
  owners_alike got q e = counted_alike (field_alike (λ rest v. ap (λ (n : ℕ). cond (ltb v n) 0 4) (e rest)))

  pub operation_alike : {got : List ℕ} {q m b : ℕ} → Kept q m b got →
      Alike got (operation F) (operation_below F.semaphore_width q m b)
  unfolding operation operation_below point point_below mark mark_below a_queue a_semaphore a_buffer a_kind below
      limited
  operation_alike {got} {q} {m} {b} k =
      let limit : (f : List ℕ → ℕ) (n : ℕ) → ((rest : List ℕ) → f (got ++ rest) ≡ n) → (rest : List ℕ) (v : ℕ) →
      ◌≡◌ {A = ℕ} (cond (ltb v (f (got ++ rest))) 0 4) (cond (ltb v n) 0 4) =
      λ f n e rest v. ap (λ (x : ℕ). cond (ltb v x) 0 4) (e rest) in
      let points : (l : ℕ) → Alike got (point F l) (point_below F.semaphore_width m l) =
      λ l. seq_alike (field_alike (limit semaphore_count m (λ rest. (k rest).semaphores)))
      (field_alike (λ rest v. refl)) in
      seq_alike (field_alike (limit queue_count q (λ rest. (k rest).queues)))
      (seq_alike (counted_alike (points least_wait))
      (seq_alike (counted_alike (points least_signal))
      (counted_alike (seq_alike (field_alike (limit buffer_count b (λ rest. (k rest).buffers)))
      (field_alike (λ rest v. refl))))))

  pub operations_alike : {got : List ℕ} {q m b : ℕ} → Kept q m b got →
      Alike got (counted 0 most_operations 2 (operation F))
      (counted 0 most_operations 2 (operation_below F.semaphore_width q m b))
  operations_alike k = counted_alike (operation_alike k)

-- the counts that three sections begin with
pub counts_of : {got₁ got₂ got₃ : List ℕ} {q m b : ℕ} (axes owners sizes : List ℕ) → got₁ ≡ q ∷ axes →
    got₂ ≡ got₁ ++ (m ∷ owners) → got₃ ≡ got₂ ++ (b ∷ sizes) → length axes ≡ q → length owners ≡ m → length sizes ≡ b →
    Kept q m b got₃
counts_of {got₁} {q = q} {m} {b} axes owners sizes e₁ e₂ e₃ lq lm lb =
    subst (Kept q m b) (sym (e₃ ∙ ap (λ (l : List ℕ). l ++ (b ∷ sizes)) e₂))
    (header_kept q m b axes owners sizes lq lm lb got₁ (m ∷ owners) (b ∷ sizes) e₁ refl refl)
