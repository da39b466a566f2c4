-- The numbers of a whole plan: four sections, each after its count, and the plan that they tell. Assumes nothing.
use mathlib.Core.Path.{◌≡◌, refl, sym, ap, ◌∙◌, subst}
use mathlib.Core.List.{List, [], ◌∷◌, ◌++◌, append_assoc}
use Prim.Native.Nat.{ℕ, zero, suc, ◌+◌, ◌≤◌}
use native.Mathlib.Omega.{arith}
use lib.ListN.{length, get_or, take, drop, length-append}
use lib.Seq.{take_at}
use Rattle.plan_format.specs.Sizes.{most_queues, most_buffers, most_operations}
use Rattle.plan_format.specs.Form.{Form, queue_count, semaphore_count, buffer_count, any_number, new_axis}
use Rattle.plan_format.specs.Form.{a_queue, operation, plan_grammar}
use Rattle.plan_format.specs.Plan.{Plan, operations_in, plan_of}
use Rattle.plan_format.proofs.Parses.{Spelt, Many, Field, Parses}
use Rattle.plan_format.proofs.Entries.{Row, listing, many_fields}
use Rattle.plan_format.proofs.Seams.{at_seam, after_seam}
use Rattle.plan_format.proofs.Blocks.{CountsGiven, Kept, kept_more, operation_block}
use Rattle.plan_format.proofs.Operations.{Blocks, operations_front}

pub record Sections (F : Form) (xs : List ℕ) : Type 0 where
  pub queues : ℕ
  pub semaphores : ℕ
  pub buffers : ℕ
  pub operations : ℕ
  pub axes : List ℕ
  pub owners : List ℕ
  pub sizes : List ℕ
  pub blocks : List ℕ
  pub few_queues : queues ≤ most_queues
  pub least_semaphores : F.semaphores_least ≤ semaphores
  pub few_semaphores : semaphores ≤ F.semaphores_most
  pub few_buffers : buffers ≤ most_buffers
  pub few_operations : operations ≤ most_operations
  pub axes_row : Row new_axis (queues ∷ []) queues axes
  pub owners_row : Row a_queue (queues ∷ (axes ++ (semaphores ∷ []))) semaphores owners
  pub sizes_long : length sizes ≡ buffers
  pub blocks_are : Blocks queues semaphores buffers operations blocks
  pub numbers_are : xs ≡ queues ∷ (axes ++ (semaphores ∷ (owners ++ (buffers ∷ (sizes ++ (operations ∷ blocks))))))

-- the four counts, each at its place
pub record CountsAt (xs : List ℕ) (q s b n : ℕ) : Type 0 where
  pub queues : get_or xs 0 0 ≡ q
  pub semaphores : get_or xs (1 + q) 0 ≡ s
  pub buffers : get_or xs (2 + q + s) 0 ≡ b
  pub operations : get_or xs (3 + q + s + b) 0 ≡ n

-- ---- from a parse
many_blocks : (D : Spelt) (F : Form) (q s b n : ℕ) (got vs ds : List ℕ) → Kept q s b got →
    Many (Parses D (operation F)) n got vs ds →
    Blocks q s b n vs
many_blocks D F q s b zero got vs ds k p = p.numbers_are
many_blocks D F q s b (suc n) got vs ds k p = record {
  block = p.vs₁;
  rest = p.vs₂;
  first = operation_block D F q s b got p.vs₁ p.ds₁ k p.first;
  more = many_blocks D F q s b n (got ++ p.vs₁) p.vs₂ p.ds₂ (kept_more q s b got p.vs₁ k) p.second;
  numbers_are = p.numbers_are;
}

module _ (q s b : ℕ) (axes owners sizes : List ℕ) (la : length axes ≡ q) (lo : length owners ≡ s)
    (lb : length sizes ≡ b) where
  header : List ℕ
  header = q ∷ (axes ++ (s ∷ (owners ++ (b ∷ sizes))))

  header_semaphores : (more : List ℕ) → semaphore_count (header ++ more) ≡ s
  unfolding header queue_count semaphore_count
  header_semaphores more =
      at_seam (header ++ more) (q ∷ axes) (owners ++ (b ∷ (sizes ++ more))) s (1 + q) (simp append_assoc) (omega arith)

  header_counts : (more : List ℕ) → CountsGiven q s b (header ++ more)
  unfolding header queue_count buffer_count
  header_counts more = record {
    queues = refl;
    semaphores = header_semaphores more;
    buffers = ap (λ z. get_or (header ++ more) (2 + q + z) 0) (header_semaphores more)
        ∙ at_seam (header ++ more) (q ∷ (axes ++ (s ∷ owners))) (sizes ++ more) b (2 + q + s) (simp append_assoc)
        (simp length-append (omega arith));
  }

  -- three sections read
  pub header_kept : (v₁ v₂ v₃ : List ℕ) → v₁ ≡ q ∷ axes → v₂ ≡ s ∷ owners → v₃ ≡ b ∷ sizes →
      Kept q s b ((v₁ ++ v₂) ++ v₃)
  unfolding header
  header_kept v₁ v₂ v₃ e₁ e₂ e₃ =
      let same : (v₁ ++ v₂) ++ v₃ ≡ header = cc (append_assoc axes (s ∷ owners) (b ∷ sizes)) in
      subst (Kept q s b) (sym same) header_counts

  -- and the count of the fourth
  pub sections_kept : (v₁ v₂ v₃ : List ℕ) (n : ℕ) → v₁ ≡ q ∷ axes → v₂ ≡ s ∷ owners → v₃ ≡ b ∷ sizes →
      Kept q s b (((v₁ ++ v₂) ++ v₃) ++ (n ∷ []))
  sections_kept v₁ v₂ v₃ n e₁ e₂ e₃ = kept_more q s b ((v₁ ++ v₂) ++ v₃) (n ∷ []) (header_kept v₁ v₂ v₃ e₁ e₂ e₃)

module _ (D : Spelt) (F : Form) where
  pub sections : (xs ds : List ℕ) → Parses D (plan_grammar F) [] xs ds → Sections F xs
  unfolding plan_grammar
  sections xs ds p =
      let p₁ = p.second in
      let p₂ = p₁.second in
      let got₂ = p.vs₁ ++ p₁.vs₁ in
      let got₃ = got₂ ++ p₂.vs₁ in
      let c₁ = listing D 0 most_queues 1 (Field D 8 new_axis) [] p.vs₁ p.ds₁ p.first in
      let c₂ = listing D F.semaphores_least F.semaphores_most F.semaphore_width (Field D 1 a_queue) p.vs₁
      p₁.vs₁ p₁.ds₁
      p₁.first in
      let c₃ = listing D 0 most_buffers 2 (Field D 4 any_number) got₂ p₂.vs₁ p₂.ds₁ p₂.first in
      let c₄ = listing D 0 most_operations 2 (Parses D (operation F)) got₃ p₂.vs₂ p₂.ds₂ p₂.second in
      let q = c₁.count in
      let s = c₂.count in
      let b = c₃.count in
      let n = c₄.count in
      let r₁ = many_fields D 8 new_axis q (q ∷ []) c₁.entries c₁.spelling c₁.many in
      let r₂ = many_fields D 1 a_queue s (p.vs₁ ++ (s ∷ [])) c₂.entries c₂.spelling c₂.many in
      let r₃ = many_fields D 4 any_number b (got₂ ++ (b ∷ [])) c₃.entries c₃.spelling c₃.many in
      record {
        queues = q;
        semaphores = s;
        buffers = b;
        operations = n;
        axes = c₁.entries;
        owners = c₂.entries;
        sizes = c₃.entries;
        blocks = c₄.entries;
        few_queues = c₁.most;
        least_semaphores = c₂.least;
        few_semaphores = c₂.most;
        few_buffers = c₃.most;
        few_operations = c₄.most;
        axes_row = r₁;
        owners_row = subst (λ z. Row a_queue (z ++ (s ∷ [])) s c₂.entries) c₁.numbers_are r₂;
        sizes_long = r₃.long;
        blocks_are = many_blocks D F q s b n (got₃ ++ (n ∷ [])) c₄.entries c₄.spelling
            (sections_kept q s b c₁.entries c₂.entries c₃.entries r₁.long r₂.long r₃.long p.vs₁
            p₁.vs₁ p₂.vs₁ n
            c₁.numbers_are c₂.numbers_are c₃.numbers_are) c₄.many;
        numbers_are = cc;
      }

-- ---- the plan
-- the owners come right after their count
two_owners : (plan_of (0 ∷ 2 ∷ 5 ∷ 6 ∷ 0 ∷ 0 ∷ [])).owners ≡ 5 ∷ 6 ∷ []
unfolding plan_of
two_owners = refl

module _ (q s b n : ℕ) (axes owners sizes blocks : List ℕ) (la : length axes ≡ q) (lo : length owners ≡ s)
    (lb : length sizes ≡ b) where
  unfoldable pub whole : List ℕ
  whole = q ∷ (axes ++ (s ∷ (owners ++ (b ∷ (sizes ++ (n ∷ blocks))))))

  seam_s : whole ≡ (q ∷ axes) ++ (s ∷ (owners ++ (b ∷ (sizes ++ (n ∷ blocks)))))
  unfolding whole
  seam_s = refl

  seam_b : whole ≡ (q ∷ (axes ++ (s ∷ owners))) ++ (b ∷ (sizes ++ (n ∷ blocks)))
  unfolding whole
  seam_b = simp append_assoc

  seam_n : whole ≡ (q ∷ (axes ++ (s ∷ (owners ++ (b ∷ sizes))))) ++ (n ∷ blocks)
  unfolding whole
  seam_n = simp append_assoc

  counts_at : CountsAt whole q s b n
  unfolding whole
  counts_at = record {
    queues = refl;
    semaphores = at_seam whole (q ∷ axes) (owners ++ (b ∷ (sizes ++ (n ∷ blocks)))) s (1 + q) seam_s (omega arith);
    buffers = at_seam whole (q ∷ (axes ++ (s ∷ owners))) (sizes ++ (n ∷ blocks)) b (2 + q + s) seam_b
        (simp length-append (omega arith));
    operations = at_seam whole (q ∷ (axes ++ (s ∷ (owners ++ (b ∷ sizes))))) blocks n (3 + q + s + b) seam_n
        (simp length-append (omega arith));
  }

  pub plan_at :
      plan_of whole ≡ record { axes = axes; owners = owners; sizes = sizes; operations = operations_in n blocks }
  unfolding plan_of
  plan_at =
      rw (
        counts_at.queues,
        counts_at.semaphores,
        counts_at.buffers,
        counts_at.operations,
        to_axes,
        to_owners,
        to_sizes,
        to_blocks,
      )
    where
      to_axes : take q (drop 1 whole) ≡ axes
      to_axes = ap (λ z. take q (drop 1 z)) seam_s ∙ take_at axes (s ∷ (owners ++ (b ∷ (sizes ++ (n ∷ blocks))))) q la

      to_owners : take s (drop (2 + q) whole) ≡ owners
      to_owners =
          ap (λ z. take s z)
          (after_seam whole (q ∷ axes) (owners ++ (b ∷ (sizes ++ (n ∷ blocks)))) s (2 + q) seam_s (omega arith))
          ∙ take_at owners (b ∷ (sizes ++ (n ∷ blocks))) s lo

      to_sizes : take b (drop (3 + q + s) whole) ≡ sizes
      to_sizes =
          ap (λ z. take b z) (after_seam whole (q ∷ (axes ++ (s ∷ owners))) (sizes ++ (n ∷ blocks)) b (3 + q + s) seam_b
          (simp length-append (omega arith))) ∙ take_at sizes (n ∷ blocks) b lb

      to_blocks : drop (4 + q + s + b) whole ≡ blocks
      to_blocks =
          after_seam whole (q ∷ (axes ++ (s ∷ (owners ++ (b ∷ sizes))))) blocks n (4 + q + s + b) seam_n
          (simp length-append (omega arith))

-- the plan of sections that are as long as their counts say
pub plan_whole : (q s b n : ℕ) (axes owners sizes blocks : List ℕ) → length axes ≡ q → length owners ≡ s →
    length sizes ≡ b →
    plan_of (q ∷ (axes ++ (s ∷ (owners ++ (b ∷ (sizes ++ (n ∷ blocks))))))) ≡
    record { axes = axes; owners = owners; sizes = sizes; operations = operations_in n blocks }
unfolding whole
plan_whole q s b n axes owners sizes blocks la lo lb = plan_at q s b n axes owners sizes blocks la lo lb

pub plan_is : (F : Form) (xs : List ℕ) (c : Sections F xs) →
    plan_of xs ≡
    record {
      axes = c.axes;
      owners = c.owners;
      sizes = c.sizes;
      operations = operations_in c.operations c.blocks;
    }
unfolding whole
plan_is F xs c =
    ap (λ z. plan_of z) c.numbers_are
    ∙ plan_at c.queues c.semaphores c.buffers c.operations c.axes c.owners c.sizes c.blocks
    c.axes_row.long
    c.owners_row.long c.sizes_long

-- ---- whatever follows the numbers, counts and plan are the same
module _ (F : Form) (xs rest : List ℕ) (c : Sections F xs) where
  longer : xs ++ rest ≡ c.queues
      ∷ (c.axes ++ (c.semaphores ∷ (c.owners ++ (c.buffers ∷ (c.sizes ++ (c.operations ∷ (c.blocks ++ rest)))))))
  longer = ap (λ z. z ++ rest) c.numbers_are ∙ simp append_assoc

  pub counts_front : CountsAt (xs ++ rest) c.queues c.semaphores c.buffers c.operations
  unfolding whole
  counts_front =
      subst (λ z. CountsAt z c.queues c.semaphores c.buffers c.operations) (sym longer)
      (counts_at c.queues c.semaphores c.buffers c.operations c.axes c.owners c.sizes
      (c.blocks ++ rest) c.axes_row.long
      c.owners_row.long c.sizes_long)

  pub plan_front : plan_of (xs ++ rest) ≡ plan_of xs
  unfolding whole
  plan_front =
      ap (λ z. plan_of z) longer
      ∙ plan_at c.queues c.semaphores c.buffers c.operations c.axes c.owners c.sizes
      (c.blocks ++ rest) c.axes_row.long
      c.owners_row.long c.sizes_long
      ∙ ap {B = Plan} (λ z. record { axes = c.axes; owners = c.owners; sizes = c.sizes; operations = z })
      (operations_front c.queues c.semaphores c.buffers c.operations c.blocks rest c.blocks_are)
      ∙ sym (plan_is F xs c)
