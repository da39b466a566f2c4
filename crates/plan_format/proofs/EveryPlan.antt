-- The numbers and the bytes of every plan within the limits parse, in every form that has room for its semaphores.
-- Assumes nothing.
use mathlib.Core.Path.{◌≡◌, refl, ap}
use mathlib.Core.Bool.{cond}
use mathlib.Core.List.{List, [], ◌∷◌, ◌++◌, append_assoc, append-nil, flat_map}
use Prim.Native.Nat.{ℕ, ◌^◌, ◌≤◌, ◌<◌}
use native.Mathlib.Omega.{arith}
use lib.ListN.{length, get_or, take}
use Rattle.base_lists.specs.Lists.{member}
use Rattle.base_lists.proofs.Tests.{is_false}
use Rattle.base_lists.proofs.Places.{take_place}
use Rattle.plan_format.specs.Sizes.{most_queues, most_buffers, least_wait, least_signal}
use Rattle.plan_format.specs.Grammar.{Check, digits}
use Rattle.plan_format.specs.Form.{Form, queue_count, semaphore_count, buffer_count, any_number, at_least}
use Rattle.plan_format.specs.Form.{new_axis}
use Rattle.plan_format.specs.Form.{a_queue, a_semaphore, a_buffer, a_kind, point, mark, operation, plan_grammar}
use Rattle.plan_format.specs.Plan.{Point, Mark, Operation, Plan}
use Rattle.plan_format.specs.Limits.{Each, InBytes, PointWithin, MarkWithin, OperationWithin, Within}
use Rattle.plan_format.specs.Limits.{counted_numbers, one_number, point_numbers, mark_numbers, operation_numbers}
use Rattle.plan_format.specs.Limits.{numbers_of, counted_bytes, point_bytes, mark_bytes, operation_bytes}
use Rattle.plan_format.specs.Limits.{sections_bytes}
use Rattle.plan_format.proofs.Parses.{Takes, Exact, Then, Many, Field, Counted, Parses}
use Rattle.plan_format.proofs.Fields.{count_passes}
use Rattle.plan_format.proofs.Entries.{Row, row_head, row_tail}
use Rattle.plan_format.proofs.Blocks.{Kept, kept_now, kept_more, passes_below, passes_at_least}
use Rattle.plan_format.proofs.Sections.{sections_kept}
use Rattle.plan_format.proofs.PlanNumbers.{ones}
use Rattle.plan_format.proofs.Forms.{Proper, Admits}

-- ---- one field, one thing after another, entries, and entries after their count
field_of : (w : ℕ) (c : Check) (got : List ℕ) (v : ℕ) → v < 256 ^ w → c got v ≡ 0 →
    Field Exact w c got (v ∷ []) (digits w v)
field_of w c got v l e =
    record {
      number = v;
      holds = record { passes = e; spelt = record { fits = l; bytes_are = refl }; numbers_are = refl };
    }

then_of : {P Q : Takes} (got vs vs' ds ds' : List ℕ) → P got vs ds → Q (got ++ vs) vs' ds' →
    Then P Q got (vs ++ vs') (ds ++ ds')
then_of got vs vs' ds ds' p q =
    record { vs₁ = vs; vs₂ = vs'; ds₁ = ds; ds₂ = ds'; first = p; second = q; numbers_are = refl; bytes_are = refl }

-- a count that its limits and its bytes allow
record CountsTo (l m w k : ℕ) : Type 0 where
  least : l ≤ k
  most : k ≤ m
  fits : k < 256 ^ w

counted_of : {A : Type 0} {l m w : ℕ} (P : Takes) (f g : A → List ℕ) (got : List ℕ) (xs : List A) →
    CountsTo l m w (length xs) →
    Many P (length xs) (got ++ (length xs ∷ [])) (flat_map f xs) (flat_map g xs) →
    Counted Exact l m w P got (counted_numbers f xs) (counted_bytes w g xs)
unfolding counted_numbers counted_bytes
counted_of {l = l} {m = m} {w = w} P f g got xs c many =
    let k = length xs in
    record {
      count = k;
      parts = record {
        vs₁ = k ∷ [];
        vs₂ = flat_map f xs;
        ds₁ = digits w k;
        ds₂ = flat_map g xs;
        first = record {
          passes = count_passes l m k c.least c.most;
          spelt = record { fits = c.fits; bytes_are = refl };
          numbers_are = refl;
        };
        second = many;
        numbers_are = refl;
        bytes_are = refl;
      };
    }

-- entries that parse wherever G holds of the numbers read before, and G stays
module _ {A : Type 0} (G : List ℕ → Type 0) (stays : (got vs : List ℕ) → G got → G (got ++ vs)) (W : A → Type 0)
    (P : Takes) (f g : A → List ℕ)
    (entry : (got : List ℕ) (x : A) → G got → W x → P got (f x) (g x)) where
  many_of : (xs : List A) (got : List ℕ) → G got → Each W xs → Many P (length xs) got (flat_map f xs) (flat_map g xs)
  unfolding flat_map
  many_of [] got k e = record { numbers_are = refl; bytes_are = refl }
  many_of (x ∷ xs) got k e =
      then_of got (f x) (flat_map f xs) (g x) (flat_map g xs) (entry got x k e.0)
      (many_of xs (got ++ f x) (stays got (f x) k) e.1)

  list_of : {l m w : ℕ} (xs : List A) (got : List ℕ) → G got → CountsTo l m w (length xs) → Each W xs →
      Counted Exact l m w P got (counted_numbers f xs) (counted_bytes w g xs)
  list_of xs got k c e =
      counted_of P f g got xs c (many_of xs (got ++ (length xs ∷ [])) (stays got (length xs ∷ []) k) e)

-- ---- operations
module _ (F : Form) (q s b : ℕ) (lq : q ≤ most_queues) (ls : s < 256 ^ F.semaphore_width) (lb : b ≤ most_buffers) where
  abbrev width : ℕ
  width = F.semaphore_width

  point_of : (l : ℕ) (got : List ℕ) (x : Point) → Kept q s b got → PointWithin InBytes s l x →
      Parses Exact (point F l) got (point_numbers x) (point_bytes width x)
  unfolding point point_numbers point_bytes a_semaphore
  point_of l got x k e =
      then_of got (x.semaphore ∷ []) (x.value ∷ []) (digits width x.semaphore) (digits 8 x.value)
      (field_of width a_semaphore got x.semaphore (omega (arith, e.semaphore, ls))
      (passes_below (semaphore_count got) x.semaphore s (kept_now q s b got k).semaphores e.semaphore))
      (field_of 8 (at_least l) (got ++ (x.semaphore ∷ [])) x.value e.value
      (passes_at_least l (got ++ (x.semaphore ∷ [])) x.value e.not_below))

  mark_of : (got : List ℕ) (m : Mark) → Kept q s b got → MarkWithin b m →
      Parses Exact mark got (mark_numbers m) (mark_bytes m)
  unfolding mark mark_numbers mark_bytes a_buffer a_kind
  mark_of got m k e =
      then_of got (m.buffer ∷ []) (m.kind ∷ []) (digits 2 m.buffer) (digits 1 m.kind)
      (field_of 2 a_buffer got m.buffer (omega (arith, e.buffer, lb))
      (passes_below (buffer_count got) m.buffer b (kept_now q s b got k).buffers e.buffer))
      (field_of 1 a_kind (got ++ (m.buffer ∷ [])) m.kind (omega (arith, e.kind))
      (passes_below 2 m.kind 2 refl (omega (arith, e.kind))))

  points_of : (least : ℕ) {l m w : ℕ} (xs : List Point) (got : List ℕ) → Kept q s b got →
      CountsTo l m w (length xs) → Each (PointWithin InBytes s least) xs →
      Counted Exact l m w (Parses Exact (point F least)) got (counted_numbers point_numbers xs)
      (counted_bytes w (point_bytes width) xs)
  points_of least = list_of (Kept q s b) (kept_more q s b) (PointWithin InBytes s least)
      (Parses Exact (point F least)) point_numbers (point_bytes width) (point_of least)

  operation_of : (got : List ℕ) (o : Operation) → Kept q s b got → OperationWithin InBytes q s b o →
      Parses Exact (operation F) got (operation_numbers o) (operation_bytes width o)
  unfolding operation operation_numbers operation_bytes a_queue
  operation_of got o k e =
      let ws = counted_numbers point_numbers o.waits in
      let ss = counted_numbers point_numbers o.signals in
      let ms = counted_numbers mark_numbers o.marks in
      let ws' = counted_bytes 1 (point_bytes width) o.waits in
      let ss' = counted_bytes 1 (point_bytes width) o.signals in
      let ms' = counted_bytes 1 mark_bytes o.marks in
      let got₁ = got ++ (o.queue ∷ []) in
      let got₂ = got₁ ++ ws in
      let k₁ = kept_more q s b got (o.queue ∷ []) k in
      let k₂ = kept_more q s b got₁ ws k₁ in
      let k₃ = kept_more q s b got₂ ss k₂ in
      then_of got (o.queue ∷ []) (ws ++ (ss ++ ms)) (digits 1 o.queue) (ws' ++ (ss' ++ ms'))
      (field_of 1 a_queue got o.queue (omega (arith, e.queue, lq))
      (passes_below (queue_count got) o.queue q (kept_now q s b got k).queues e.queue))
      (then_of got₁ ws (ss ++ ms) ws' (ss' ++ ms')
      (points_of least_wait o.waits got₁ k₁
      (record { least = omega arith; most = omega (arith, e.few_waits); fits = omega (arith, e.few_waits) })
      e.waits)
      (then_of got₂ ss ms ss' ms'
      (points_of least_signal o.signals got₂ k₂
      (record { least = omega arith; most = omega (arith, e.few_signals); fits = omega (arith, e.few_signals) })
      e.signals)
      (list_of (Kept q s b) (kept_more q s b) (MarkWithin b) (Parses Exact mark) mark_numbers mark_bytes mark_of
      o.marks (got₂ ++ ss) k₃
      (record { least = omega arith; most = omega (arith, e.few_marks); fits = omega (arith, e.few_marks) })
      e.marks)))

-- ---- sections of single fields
row_of : (w : ℕ) (c : Check) (got vs : List ℕ) → Row c got (length vs) vs → Each (λ v. v < 256 ^ w) vs →
    Many (Field Exact w c) (length vs) got (flat_map one_number vs) (flat_map (digits w) vs)
unfolding flat_map one_number
row_of w c got [] r e = record { numbers_are = refl; bytes_are = refl }
row_of w c got (v ∷ vs) r e =
    then_of got (v ∷ []) (flat_map one_number vs) (digits w v) (flat_map (digits w) vs)
    (field_of w c got v e.0 (row_head c got (length vs) v vs r))
    (row_of w c (got ++ (v ∷ [])) vs (row_tail c got (length vs) v vs r) e.1)

-- distinct axes: none is among those before it
axes_row : (axes : List ℕ) → ((i k : ℕ) → i < k → k < length axes → get_or axes i 0 ≡ get_or axes k 0 → ⊥) →
    Row new_axis (length axes ∷ []) (length axes) axes
unfolding new_axis
axes_row axes d = record {
  long = refl;
  pass = λ i l. ap (λ t. cond t 5 0) (is_false (member (get_or axes i 0) (take i axes))
      (λ t. let (k, h, e) = take_place axes i (get_or axes i 0) (omega arith) t in d k i h l e));
}

-- the queues are known from the first number on
abbrev pub Queues : (q : ℕ) → List ℕ → Type 0
Queues q got = (more : List ℕ) → queue_count (got ++ more) ≡ q

pub queues_stay : (q : ℕ) (got vs : List ℕ) → Queues q got → Queues q (got ++ vs)
queues_stay q got vs k more = rw append_assoc (k (vs ++ more))

owner_of : (q : ℕ) → q ≤ most_queues → (got : List ℕ) (v : ℕ) → Queues q got → v < q →
    Field Exact 1 a_queue got (one_number v) (digits 1 v)
unfolding a_queue one_number
owner_of q l got v k h =
    field_of 1 a_queue got v (omega (arith, l, h)) (passes_below (queue_count got) v q (rw append-nil at (k [])) h)

size_of : (got : List ℕ) (v : ℕ) → Unit {0} → v < 2 ^ 32 → Field Exact 4 any_number got (one_number v) (digits 4 v)
unfolding any_number one_number
size_of got v k h = field_of 4 any_number got v h refl

-- ---- the whole
pub plan_parses : (F : Form) → Proper F → (p : Plan) → Admits F (length p.owners) → Within p →
    Parses Exact (plan_grammar F) [] (numbers_of p) (sections_bytes F.semaphore_width p)
unfolding plan_grammar numbers_of sections_bytes
plan_parses F proper p a e =
    let w = F.semaphore_width in
    let fits : length p.owners < 256 ^ w = omega (arith, a.most, proper.roomy) in
    let q = length p.axes in
    let s = length p.owners in
    let b = length p.sizes in
    let n = length p.operations in
    let v₁ = counted_numbers one_number p.axes in
    let v₂ = counted_numbers one_number p.owners in
    let v₃ = counted_numbers one_number p.sizes in
    let v₄ = counted_numbers operation_numbers p.operations in
    let d₁ = counted_bytes 1 (digits 8) p.axes in
    let d₂ = counted_bytes w (digits 1) p.owners in
    let d₃ = counted_bytes 2 (digits 4) p.sizes in
    let d₄ = counted_bytes 2 (operation_bytes w) p.operations in
    let O : Takes = Parses Exact (operation F) in
    let got₃ = (v₁ ++ v₂) ++ v₃ in
    then_of [] v₁ (v₂ ++ (v₃ ++ v₄)) d₁ (d₂ ++ (d₃ ++ d₄))
    (counted_of (Field Exact 8 new_axis) one_number (digits 8) [] p.axes
    (record { least = omega arith; most = omega (arith, e.few_queues); fits = omega (arith, e.few_queues) })
    (row_of 8 new_axis (q ∷ []) p.axes (axes_row p.axes e.axes_distinct) e.axes))
    (then_of v₁ v₂ (v₃ ++ v₄) d₂ (d₃ ++ d₄)
    (list_of (Queues q) (queues_stay q)
    (λ v. v < q) (Field Exact 1 a_queue) one_number (digits 1) (owner_of q e.few_queues) p.owners v₁
    (heads p) (record { least = a.least; most = a.most; fits = fits }) e.owners)
    (then_of (v₁ ++ v₂) v₃ v₄ d₃ d₄
    (list_of (λ _. Unit {0}) (λ _ _ _. tt)
    (λ v. v < 2 ^ 32) (Field Exact 4 any_number) one_number (digits 4) size_of p.sizes (v₁ ++ v₂) tt
    (record { least = omega arith; most = omega (arith, e.few_buffers); fits = omega (arith, e.few_buffers) })
    e.sizes)
    (counted_of O operation_numbers (operation_bytes w) got₃ p.operations
    (record { least = omega arith; most = omega (arith, e.few_operations); fits = omega (arith, e.few_operations) })
    (many_of (Kept q s b) (kept_more q s b) (OperationWithin InBytes q s b) O operation_numbers (operation_bytes w)
    (operation_of F q s b e.few_queues fits e.few_buffers) p.operations (got₃ ++ (n ∷ []))
    (sections_kept q s b p.axes p.owners p.sizes refl refl refl v₁ v₂ v₃ n (section p.axes)
    (section p.owners) (section p.sizes))
    e.operations))))
  where
    section : (xs : List ℕ) → counted_numbers one_number xs ≡ length xs ∷ xs
    section xs = unfold counted_numbers in (ap (λ z. length xs ∷ z) (ones xs))

    heads : (p : Plan) → Queues (length p.axes) (counted_numbers one_number p.axes)
    heads p more = unfold counted_numbers in (unfold queue_count in refl)
