-- An operation that was read without a fault is a block of numbers, and fits its columns. Assumes nothing.
use mathlib.Core.Path.{◌≡◌, refl, sym, ap, ◌∙◌, subst}
use mathlib.Core.List.{List, [], ◌∷◌, ◌++◌, append-nil}
use Prim.Native.Nat.{ℕ, ◌+◌, ◌*◌, ◌≤◌, ◌<◌}
use native.Mathlib.Omega.{arith}
use lib.ListN.{length, get_or, drop, replicate, length-replicate}
use lib.Seq.{drop-append_seam}
use Rattle.plan_format.specs.Sizes.{most_queues, most_semaphores, most_buffers}
use Rattle.plan_format.specs.Refusal.{none_given}
use Rattle.plan_format.specs.Grammar.{bytes, Scan, scan, read_by}
use Rattle.plan_format.specs.Form.{Form, operation}
use Rattle.plan_format.specs.Sections.{operation_below}
use Rattle.plan_format.proofs.Alike.{alike_read}
use Rattle.plan_format.proofs.Blocks.{Block, Kept, kept_more, operation_block}
use Rattle.plan_format.proofs.Counts.{operation_alike}
use Rattle.plan_format.proofs.Operations.{operation_of}
use Rattle.plan_format.proofs.Parses.{Loose}
use Rattle.plan_format.proofs.Reading.{sound}
use Rattle.plan_format.proofs.Sections.{header_kept}
use Rattle.plan_format.proofs.Sources.{loose_bytes}
use Rattle.check_columns.proofs.Operations.{Fits, points_long, marks_long, point_semaphore, mark_buffer, mark_kind}
use Rattle.check_load.proofs.Blind.{after, blind_read, operation_blind}

-- numbers that begin with three counts
abbrev any_front : (q m b : ℕ) → List ℕ
any_front q m b = ((q ∷ replicate q 0) ++ (m ∷ replicate m 0)) ++ (b ∷ replicate b 0)

front_kept : (q m b : ℕ) → Kept q m b (any_front q m b)
front_kept q m b =
    header_kept q m b (replicate q 0) (replicate m 0) (replicate b 0) (length-replicate q 0) (length-replicate m 0)
    (length-replicate b 0) (q ∷ replicate q 0) (m ∷ replicate m 0) (b ∷ replicate b 0) refl refl refl

same_back : (front xs ys : List ℕ) → front ++ xs ≡ front ++ ys → xs ≡ ys
same_back front xs ys e = sym (drop-append_seam front xs) ∙ ap (λ (l : List ℕ). drop (length front) l) e
    ∙ drop-append_seam front ys

-- a form by the width of a semaphore's position, which is all that an operation has of it
abbrev of_width : ℕ → Form
of_width w = record { lead = []; semaphore_width = w; semaphores_least = 0; semaphores_most = 0 }

pub block_read : (width q m b : ℕ) (rest : List ℕ) (place : ℕ) (t : Scan) →
    read_by bytes (operation_below width q m b) (scan rest place [] none_given) ≡ t → t.fault.number ≡ 0 →
    Block q m b t.got
unfolding after scan loose_bytes
block_read width q m b rest place t e clean =
    let F = of_width width in
    let front = any_front q m b in
    let s = scan rest place [] none_given in
    let u = after front s in
    let kept = front_kept q m b in
    let whole : read_by bytes (operation F) u ≡ after front t =
    alike_read bytes front (operation_alike F kept) u ([], refl)
    ∙ blind_read bytes front (operation_blind width q m b) s ∙ ap (after front) e in
    let took = sound bytes Loose loose_bytes (operation F) u tt (ap (λ (z : Scan). z.fault.number) whole ∙ clean) in
    let got : (front ++ []) ++ took.vs ≡ front ++ t.got = ap (λ (z : Scan). z.got) (sym took.result ∙ whole) in
    let same : took.vs ≡ t.got =
    same_back front took.vs t.got (ap (λ (l : List ℕ). l ++ took.vs) (sym (append-nil front)) ∙ got) in
    subst (Block q m b) same (operation_block Loose F q m b (front ++ []) took.vs took.ds
    (kept_more q m b front [] kept) took.parsed)

-- the limits of a plan's counts
pub record Small (q m b : ℕ) : Type 0 where
  pub few_queues : q ≤ most_queues
  pub few_semaphores : m ≤ most_semaphores
  pub few_buffers : b ≤ most_buffers

pub block_fits : {q m b : ℕ} {xs : List ℕ} → Small q m b → (k : Block q m b xs) → Fits (operation_of q m b xs k)
block_fits {q} {m} {b} small k =
    let waits = points_long k.waits k.ws in
    let signals = points_long k.signals k.ss in
    let marks = marks_long k.marks k.ms in
    let here : (xs : List ℕ) (j : ℕ) → get_or xs (2 * j + 0) 0 ≡ get_or xs (2 * j) 0 =
    λ xs j. ap (λ (z : ℕ). get_or xs z 0) (let e : 2 * j + 0 ≡ 2 * j = omega arith in e) in
    record {
      queue = omega (arith, k.queue_in, small.few_queues);
      waits = omega (arith, waits, k.few_waits);
      signals = omega (arith, signals, k.few_signals);
      marks = omega (arith, marks, k.few_marks);
      wait_semaphores = λ j l. let u : j < k.waits = omega (arith, waits) in
          omega (
            arith,
            point_semaphore k.waits k.ws j u,
            here k.ws j,
            k.waited.firsts j u,
            small.few_semaphores,
          );
      signal_semaphores = λ j l. let u : j < k.signals = omega (arith, signals) in
          omega (
            arith,
            point_semaphore k.signals k.ss j u,
            here k.ss j,
            k.signalled.firsts j u,
            small.few_semaphores,
          );
      buffers = λ j l. let u : j < k.marks = omega (arith, marks) in
          omega (arith, mark_buffer k.marks k.ms j u, here k.ms j, k.marked.firsts j u, small.few_buffers);
      kinds = λ j l. let u : j < k.marks = omega (arith, marks) in
          omega (arith, mark_kind k.marks k.ms j u, k.marked.seconds j u);
    }
