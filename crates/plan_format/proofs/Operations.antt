-- The operation of a block of numbers, whatever follows it, and the operations of blocks in a row. Assumes nothing.
use mathlib.Core.Path.{◌≡◌, refl, sym, ap, ap₂, ◌∙◌}
use mathlib.Core.List.{List, [], ◌∷◌, ◌++◌, append_assoc}
use Prim.Native.Nat.{ℕ, zero, suc, ◌+◌, ◌*◌}
use native.Mathlib.Omega.{arith}
use lib.ListN.{length, get_or, drop, length-append}
use lib.Seq.{drop_at}
use Rattle.plan_format.specs.Plan.{Operation, points_in, marks_in, heading, operation_in, operation_long}
use Rattle.plan_format.specs.Plan.{operations_in}
use Rattle.plan_format.proofs.Pairs.{points_front, marks_front}
use Rattle.plan_format.proofs.Seams.{at_seam, after_seam}
use Rattle.plan_format.proofs.Blocks.{Block}

-- ---- one operation
module _ (q w s m : ℕ) (ws ss ms : List ℕ) (lw : length ws ≡ 2 * w) (ls : length ss ≡ 2 * s) (lm : length ms ≡ 2 * m)
    (rest : List ℕ) where
  unfoldable pub block : List ℕ
  block = q ∷ (w ∷ (ws ++ (s ∷ (ss ++ (m ∷ ms)))))

  unfoldable pub whole : List ℕ
  whole = block ++ rest

  split_w : whole ≡ (q ∷ []) ++ (w ∷ (ws ++ (s ∷ (ss ++ (m ∷ (ms ++ rest))))))
  unfolding whole block
  split_w = simp append_assoc

  split_s : whole ≡ (q ∷ (w ∷ ws)) ++ (s ∷ (ss ++ (m ∷ (ms ++ rest))))
  unfolding whole block
  split_s = simp append_assoc

  split_m : whole ≡ (q ∷ (w ∷ (ws ++ (s ∷ ss)))) ++ (m ∷ (ms ++ rest))
  unfolding whole block
  split_m = simp append_assoc

  at_w : get_or whole heading 0 ≡ w
  unfolding heading
  at_w = at_seam whole (q ∷ []) (ws ++ (s ∷ (ss ++ (m ∷ (ms ++ rest))))) w heading split_w refl

  at_s : get_or whole (heading + 1 + 2 * w) 0 ≡ s
  unfolding heading
  at_s = at_seam whole (q ∷ (w ∷ ws)) (ss ++ (m ∷ (ms ++ rest))) s (heading + 1 + 2 * w) split_s (omega arith)

  at_m : get_or whole (heading + 2 + 2 * w + 2 * s) 0 ≡ m
  unfolding heading
  at_m = at_seam whole (q ∷ (w ∷ (ws ++ (s ∷ ss)))) (ms ++ rest) m (heading + 2 + 2 * w + 2 * s) split_m
      (simp length-append (omega arith))

  pub long_is : operation_long whole ≡ length block
  unfolding operation_long heading block
  long_is = rw (at_w, at_s, at_m) (simp length-append (omega arith))

  pub operation_is : operation_in whole ≡
      record { queue = q; waits = points_in w ws; signals = points_in s ss; marks = marks_in m ms }
  unfolding operation_in heading
  operation_is =
      rw (
        at_q,
        at_w,
        at_s,
        at_m,
        to_w,
        to_s,
        to_m,
        points_front w ws (s ∷ (ss ++ (m ∷ (ms ++ rest)))) lw,
        points_front s ss (m ∷ (ms ++ rest)) ls,
        marks_front m ms rest lm,
      )
    where
      at_q : get_or whole 0 0 ≡ q
      at_q = ap (λ z. get_or z 0 0) split_w

      to_w : drop (heading + 1) whole ≡ ws ++ (s ∷ (ss ++ (m ∷ (ms ++ rest))))
      to_w = after_seam whole (q ∷ []) (ws ++ (s ∷ (ss ++ (m ∷ (ms ++ rest))))) w (heading + 1) split_w (omega arith)

      to_s : drop (heading + 2 + 2 * w) whole ≡ ss ++ (m ∷ (ms ++ rest))
      to_s = after_seam whole (q ∷ (w ∷ ws)) (ss ++ (m ∷ (ms ++ rest))) s (heading + 2 + 2 * w) split_s (omega arith)

      to_m : drop (heading + 3 + 2 * w + 2 * s) whole ≡ ms ++ rest
      to_m = after_seam whole (q ∷ (w ∷ (ws ++ (s ∷ ss)))) (ms ++ rest) m (heading + 3 + 2 * w + 2 * s) split_m
          (simp length-append (omega arith))

module _ (q s b : ℕ) where
  abbrev pub operation_of : (xs : List ℕ) → Block q s b xs → Operation
  operation_of xs k = record {
    queue = k.queue;
    waits = points_in k.waits k.ws;
    signals = points_in k.signals k.ss;
    marks = marks_in k.marks k.ms;
  }

  pub block_long : (xs rest : List ℕ) → Block q s b xs → operation_long (xs ++ rest) ≡ length xs
  unfolding whole block
  block_long xs rest k =
      rw k.numbers_are (long_is k.queue k.waits k.signals k.marks k.ws k.ss k.ms
      k.waited.long
      k.signalled.long k.marked.long rest)

  pub block_operation : (xs rest : List ℕ) (k : Block q s b xs) → operation_in (xs ++ rest) ≡ operation_of xs k
  unfolding whole block
  block_operation xs rest k =
      ap (λ z. operation_in (z ++ rest)) k.numbers_are
      ∙ operation_is k.queue k.waits k.signals k.marks k.ws k.ss k.ms k.waited.long
      k.signalled.long k.marked.long rest

  -- ---- blocks in a row
  pub record BlockThen (More : List ℕ → Type 0) (xs : List ℕ) : Type 0 where
    pub block : List ℕ
    pub rest : List ℕ
    pub first : Block q s b block
    pub more : More rest
    pub numbers_are : xs ≡ block ++ rest

  abbrev pub Blocks : (n : ℕ) → List ℕ → Type 0
  Blocks zero xs = xs ≡ []
  Blocks (suc n) xs = BlockThen (Blocks n) xs

  block_then : (n : ℕ) (xs rest : List ℕ) (k : Block q s b xs) →
      operations_in (suc n) (xs ++ rest) ≡ operation_of xs k ∷ operations_in n rest
  unfolding operations_in
  block_then n xs rest k =
      ap₂ {C = List Operation} (λ x y. x ∷ operations_in n y) (block_operation xs rest k)
      (drop_at xs rest (operation_long (xs ++ rest)) (sym (block_long xs rest k)))

  pub operations_cons : (n : ℕ) (xs : List ℕ) (k : Blocks (suc n) xs) →
      operations_in (suc n) xs ≡ operation_of k.block k.first ∷ operations_in n k.rest
  operations_cons n xs k = ap (λ z. operations_in (suc n) z) k.numbers_are
      ∙ block_then n k.block k.rest k.first

  -- what follows the blocks changes no operation
  pub operations_front : (n : ℕ) (xs rest : List ℕ) → Blocks n xs → operations_in n (xs ++ rest) ≡ operations_in n xs
  unfolding operations_in
  operations_front zero xs rest k = refl
  operations_front (suc n) xs rest k =
      ap (λ z. operations_in (suc n) z) (ap (λ z. z ++ rest) k.numbers_are ∙ append_assoc k.block k.rest rest)
      ∙ block_then n k.block (k.rest ++ rest) k.first
      ∙ ap (λ z. operation_of k.block k.first ∷ z) (operations_front n k.rest rest k.more)
      ∙ sym (operations_cons n xs k)

pub operations_long : (n : ℕ) (xs : List ℕ) → length (operations_in n xs) ≡ n
unfolding operations_in
operations_long zero xs = refl
operations_long (suc n) xs = ap suc (operations_long n (drop (operation_long xs) xs))
