-- R30, the marks on a buffer: every mark of every operation, by operation and then by place. Assumes nothing.
use mathlib.Core.Path.{◌≡◌, refl, sym, ap, ap₂, ◌∙◌, subst, subst₂}
use mathlib.Core.Bool.{cond}
use mathlib.Core.Logic.{◌⊎◌, inl, inr, ◌↔◌}
use mathlib.Core.List.{List, [], ◌∷◌, ◌++◌, map, map-append, Memᴰ}
use Prim.Native.Nat.{ℕ, zero, suc, ◌+◌, ◌<◌}
use native.Mathlib.Nat.{not-suc-le-zero, le_of_suc-le-suc, zero-add}
use native.Mathlib.Omega.{arith}
use lib.Dec.{eqb}
use lib.ListN.{length, get_or, length-map, get_or-map}
use lib.Seq.{ext_get_or}
use borrow.Author.Tests.{eqb-true, eq-eqb}
use Rattle.base_lists.proofs.Tests.{by_cases, either}
use Rattle.base_lists.specs.Lists.{tabulate_from}
use Rattle.base_lists.proofs.Tables.{tabulate_length, tabulate_at}
use Rattle.base_lists.proofs.Places.{mem_place, mem_at}
use Rattle.base_lists.proofs.Pairwise.{Pairwise, pairwise_nil, pairwise_cons, pairwise_append, pairwise_same}
use Rattle.plan_format.specs.Plan.{Mark, Operation, Plan, empty_operation, op}
use Rattle.plan_order.specs.Holdings.{Placed, placed, marks_of, marks_from, buffer_marks}
use Rattle.plan_order.specs.Meaning.{mark_at, own_mark, MarksMeans, Marked}

-- a mark with its place in its operation's list
record Located : Type 0 where
  by : ℕ
  place : ℕ
  kind : ℕ

located : (i n kind : ℕ) → Located
located i n k = record { by = i; place = n; kind = k }

located_same : {i j m n k l : ℕ} → i ≡ j → m ≡ n → k ≡ l → located i m k ≡ located j n l
located_same e f g = cc

located_of : (i b n : ℕ) → List Mark → List Located
located_of i b n [] = []
located_of i b n (m ∷ ms) =
    cond (eqb m.buffer b) (located i n m.kind ∷ located_of i b (suc n) ms) (located_of i b (suc n) ms)

located_from : (i b : ℕ) → List Operation → List Located
located_from i b [] = []
located_from i b (o ∷ os) = located_of i b 0 o.marks ++ located_from (suc i) b os

-- ---- without the places they are the marks on the buffer
forget : Located → Placed
forget x = placed x.by x.kind

of_forget : (i b n : ℕ) (ms : List Mark) → map forget (located_of i b n ms) ≡ marks_of i b ms
unfolding located_of marks_of forget located
of_forget i b n [] = refl
of_forget i b n (m ∷ ms) =
    by_cases (eqb m.buffer b) (λ t. rw (t, of_forget i b (suc n) ms)) (λ f. rw f (of_forget i b (suc n) ms))

from_forget : (i b : ℕ) (os : List Operation) → map forget (located_from i b os) ≡ marks_from i b os
unfolding located_from marks_from
from_forget i b [] = refl
from_forget i b (o ∷ os) = map-append forget (located_of i b 0 o.marks) (located_from (suc i) b os)
    ∙ rw (of_forget i b 0 o.marks, from_forget (suc i) b os)

-- ---- each is a mark on the buffer
abbrev mark_in : List Mark → (n : ℕ) → Mark
mark_in ms n = get_or ms n (record { buffer = 0; kind = 0 })

record Marking (b : ℕ) (ms : List Mark) (n kind : ℕ) : Type 0 where
  inside : n < length ms
  on_buffer : (mark_in ms n).buffer ≡ b
  same_kind : (mark_in ms n).kind ≡ kind

of_only : (i b n : ℕ) (ms : List Mark) (x : Located) → Memᴰ x (located_of i b n ms) →
    (x.by ≡ i) × ((k : ℕ) × (x.place ≡ n + k) × Marking b ms k x.kind)
unfolding located_of located
of_only i b n [] x t = absurd (mathlib.Core.List.Memᴰ.not-nil t)
of_only i b n (m ∷ ms) x t =
    by_cases (eqb m.buffer b)
    (λ e. either (mathlib.Core.List.Memᴰ.cases_cons (rw e at t))
    (λ q. (
      ap (λ (z : Located). z.by) q,
      (
        0,
        ap (λ (z : Located). z.place) q ∙ omega arith,
        record {
          inside = omega arith;
          on_buffer = eqb-true m.buffer b e;
          same_kind = sym (ap (λ (z : Located). z.kind) q);
        },
      ),
    ))
    (λ u. there (of_only i b (suc n) ms x u)))
    (λ f. there (of_only i b (suc n) ms x (rw f at t)))
  where
    there : (x.by ≡ i) × ((k : ℕ) × (x.place ≡ suc n + k) × Marking b ms k x.kind) →
        (x.by ≡ i) × ((k : ℕ) × (x.place ≡ n + k) × Marking b (m ∷ ms) k x.kind)
    there w =
        let g = w.1 in (
          w.0,
          (
            suc g.0,
            omega (arith, g.1),
            record { inside = omega (arith, g.2.inside); on_buffer = g.2.on_buffer; same_kind = g.2.same_kind },
          ),
        )

from_only : (i b : ℕ) (os : List Operation) (x : Located) → Memᴰ x (located_from i b os) →
    (k : ℕ) × (x.by ≡ i + k) × Marking b (get_or os k empty_operation).marks x.place x.kind
unfolding located_from
from_only i b [] x t = absurd (mathlib.Core.List.Memᴰ.not-nil t)
from_only i b (o ∷ os) x t =
    either (mathlib.Core.List.Memᴰ.append_cases (located_of i b 0 o.marks) t)
    (λ u. let w = of_only i b 0 o.marks x u in (
      0,
      omega (arith, w.0),
      subst (λ (z : ℕ). Marking b o.marks z x.kind)
          (let e : w.1.0 ≡ x.place = omega (arith, w.1.1) in e) w.1.2,
    ))
    (λ u. let w = from_only (suc i) b os x u in (suc w.0, omega (arith, w.1), w.2))

-- ---- every mark on the buffer is there
of_every : (i b n k : ℕ) (ms : List Mark) → k < length ms → (mark_in ms k).buffer ≡ b →
    Memᴰ (located i (n + k) (mark_in ms k).kind) (located_of i b n ms)
unfolding located_of
of_every i b n k [] l e = absurd (not-suc-le-zero l)
of_every i b n zero (m ∷ ms) l e =
    rw (eq-eqb m.buffer b e)
    (mathlib.Core.List.Memᴰ.head (ap (λ (z : ℕ). located i z m.kind) (let q : n + 0 ≡ n = omega arith in q)))
of_every i b n (suc k) (m ∷ ms) l e =
    let t : Memᴰ (located i (n + suc k) (mark_in ms k).kind) (located_of i b (suc n) ms) =
    subst (λ (z : ℕ). Memᴰ (located i z (mark_in ms k).kind) (located_of i b (suc n) ms))
    (let q : suc n + k ≡ n + suc k = omega arith in q)
    (of_every i b (suc n) k ms (le_of_suc-le-suc l) e) in
    by_cases (eqb m.buffer b) (λ u. rw u (mathlib.Core.List.Memᴰ.tail t)) (λ f. rw f t)

from_every : (i b j n : ℕ) (os : List Operation) → n < length (get_or os j empty_operation).marks →
    (mark_in (get_or os j empty_operation).marks n).buffer ≡ b →
    Memᴰ (located (i + j) n (mark_in (get_or os j empty_operation).marks n).kind) (located_from i b os)
unfolding located_from
from_every i b j n [] l e = absurd (not-suc-le-zero l)
from_every i b zero n (o ∷ os) l e =
    mathlib.Core.List.Memᴰ.append_left (located_from (suc i) b os)
    (subst₂ (λ (y z : ℕ). Memᴰ (located y z (mark_in o.marks n).kind) (located_of i b 0 o.marks))
    (let q : i ≡ i + 0 = omega arith in q) (zero-add n) (of_every i b 0 n o.marks l e))
from_every i b (suc j) n (o ∷ os) l e =
    mathlib.Core.List.Memᴰ.append_right (located_of i b 0 o.marks)
    (subst (λ (z : ℕ). Memᴰ (located z n (mark_in (get_or os j empty_operation).marks n).kind)
    (located_from (suc i) b os)) (let q : suc i + j ≡ i + suc j = omega arith in q) (from_every (suc i) b j n os l e))

-- ---- R30: by operation, then by place in its list
abbrev Earlier : (x y : Located) → Type 0
Earlier x y = (x.by < y.by) ⊎ ((x.by ≡ y.by) × (x.place < y.place))

abbrev nowhere : Located
nowhere = record { by = 0; place = 0; kind = 0 }

abbrev at : List Located → (k : ℕ) → Located
at xs k = get_or xs k nowhere

abbrev Rising : List Located → Type 0
Rising xs = Pairwise Earlier nowhere xs

of_rising : (i b n : ℕ) (ms : List Mark) → Rising (located_of i b n ms)
unfolding located_of located
of_rising i b n [] = pairwise_nil Earlier nowhere
of_rising i b n (m ∷ ms) =
    by_cases (eqb m.buffer b)
    (λ t. rw t (pairwise_cons Earlier nowhere (located i n m.kind) (located_of i b (suc n) ms)
    (λ y u. let w = of_only i b (suc n) ms y u in inr (sym w.0, omega (arith, w.1.1))) (of_rising i b (suc n) ms)))
    (λ f. rw f (of_rising i b (suc n) ms))

from_rising : (i b : ℕ) (os : List Operation) → Rising (located_from i b os)
unfolding located_from
from_rising i b [] = pairwise_nil Earlier nowhere
from_rising i b (o ∷ os) =
    pairwise_append Earlier nowhere (located_of i b 0 o.marks) (located_from (suc i) b os)
    (λ x y t u. let v = of_only i b 0 o.marks x t in let w = from_only (suc i) b os y u in
    inl (omega (arith, v.0, w.1)))
    (of_rising i b 0 o.marks) (from_rising (suc i) b os)

-- ---- the marks on a buffer
module _ (p : Plan) (b : ℕ) where
  abbrev all_located : List Located
  all_located = located_from 0 b p.operations

  marks_located : buffer_marks p b ≡ map forget all_located
  unfolding buffer_marks
  marks_located = sym (from_forget 0 b p.operations)

  long : length (buffer_marks p b) ≡ length all_located
  long = rw marks_located (length-map all_located forget)

  mark_forget : (k : ℕ) → mark_at (buffer_marks p b) k ≡ forget (at all_located k)
  unfolding forget placed
  mark_forget k = rw marks_located (get_or-map forget all_located k nowhere)

  same_by : (k : ℕ) → (mark_at (buffer_marks p b) k).by ≡ (at all_located k).by
  unfolding forget placed
  same_by k = ap (λ (z : Placed). z.by) (mark_forget k)

  same_kind : (k : ℕ) → (mark_at (buffer_marks p b) k).kind ≡ (at all_located k).kind
  unfolding forget placed
  same_kind k = ap (λ (z : Placed). z.kind) (mark_forget k)

  marking : (k : ℕ) → k < length (buffer_marks p b) →
      Marking b (op p (mark_at (buffer_marks p b) k).by).marks (at all_located k).place (at all_located k).kind
  unfolding op
  marking k l =
      let x = at all_located k in
      let w = from_only 0 b p.operations x (mem_at all_located nowhere k (omega (arith, long))) in
      subst (λ (z : ℕ). Marking b (get_or p.operations z empty_operation).marks x.place x.kind)
      (let e : w.0 ≡ (mark_at (buffer_marks p b) k).by = omega (arith, w.1, same_by k) in e) w.2

  found : (i n : ℕ) → n < length (op p i).marks → (own_mark p i n).buffer ≡ b →
      (k : ℕ) × (k < length (buffer_marks p b)) × ((mark_at (buffer_marks p b) k).by ≡ i) ×
      ((at all_located k).place ≡ n)
  unfolding op located
  found i n l e =
      let x = located (0 + i) n (own_mark p i n).kind in
      let w = mem_place all_located nowhere x (from_every 0 b i n p.operations l e) in (
        w.0,
        omega (arith, w.1, long),
        same_by w.0 ∙ ap (λ (z : Located). z.by) w.2 ∙ zero-add i,
        ap (λ (z : Located). z.place) w.2,
      )

  ordered : (k l : ℕ) → k < l → l < length (buffer_marks p b) →
      ((mark_at (buffer_marks p b) k).by < (mark_at (buffer_marks p b) l).by) ⊎
      (((mark_at (buffer_marks p b) k).by ≡ (mark_at (buffer_marks p b) l).by) ×
      ((at all_located k).place < (at all_located l).place))
  ordered k l a c =
      either (from_rising 0 b p.operations k l a (omega (arith, long)))
      (λ t. inl (omega (arith, same_by k, same_by l))) (λ t. inr (omega (arith, t.0, same_by k, same_by l), t.1))

  in_order : MarksMeans p b (buffer_marks p b)
  in_order = record {
    place = λ k. (at all_located k).place;
    inside = λ k l. (marking k l).inside;
    on_buffer = λ k l. (marking k l).on_buffer;
    same_kind = λ k l. (marking k l).same_kind ∙ sym (same_kind k);
    every = found;
    in_order = ordered;
  }

  -- a mark of the list is one of an operation that marks the buffer, and the other way round
  pub mark_marked : (m : Placed) → Memᴰ m (buffer_marks p b) → Marked p b m.by
  mark_marked m t =
      let w = mem_place (buffer_marks p b) (record { by = 0; kind = 0 }) m t in
      subst (λ (z : Placed). Marked p b z.by) w.2
      ((at all_located w.0).place, (marking w.0 w.1).inside, (marking w.0 w.1).on_buffer)

  pub marked_mark : (i : ℕ) → Marked p b i → (m : Placed) × Memᴰ m (buffer_marks p b) × (m.by ≡ i)
  marked_mark i w =
      let g = found i w.0 w.1 w.2 in
      (mark_at (buffer_marks p b) g.0, mem_at (buffer_marks p b) (record { by = 0; kind = 0 }) g.0 g.1, g.2)

  -- ---- and no other list is
  module _ (ms : List Placed) (w : MarksMeans p b ms) where
    its : ℕ → Located
    its k = located (mark_at ms k).by (w.place k) (mark_at ms k).kind

    abbrev its_located : List Located
    its_located = tabulate_from (length ms) 0 its

    its_at : (k : ℕ) → k < length ms → at its_located k ≡ its k
    its_at k l = tabulate_at its (length ms) 0 k nowhere l ∙ ap its (zero-add k)

    its_long : length its_located ≡ length ms
    its_long = tabulate_length its (length ms) 0

    its_forget : map forget its_located ≡ ms
    unfolding forget placed its located
    its_forget =
        ext_get_or (record { by = 0; kind = 0 }) (map forget its_located) ms (length-map its_located forget ∙ its_long)
        (λ k l. let b : k < length ms = omega (arith, length-map its_located forget, its_long) in
        get_or-map forget its_located k nowhere ∙ ap forget (its_at k b))

    its_earlier : (k l : ℕ) → k < l → l < length ms → Earlier (its k) (its l)
    unfolding its located
    its_earlier k l a c = w.in_order k l a c

    its_rising : Rising its_located
    its_rising k l a c =
        let d : l < length ms = omega (arith, its_long) in
        subst₂ (λ (x y : Located). Earlier x y) (sym (its_at k (omega arith))) (sym (its_at l d)) (its_earlier k l a d)

    its_marks : (k : ℕ) → k < length ms → Memᴰ (its k) all_located
    unfolding op its
    its_marks k l =
        subst (λ (z : Located). Memᴰ z all_located)
        (located_same (zero-add (mark_at ms k).by) refl (w.same_kind k l))
        (from_every 0 b (mark_at ms k).by (w.place k) p.operations (w.inside k l) (w.on_buffer k l))

    its_in : (x : Located) → Memᴰ x its_located → Memᴰ x all_located
    its_in x t =
        let g = mem_place its_located nowhere x t in
        let l : g.0 < length ms = omega (arith, g.1, its_long) in
        subst (λ (z : Located). Memᴰ z all_located) (sym (its_at g.0 l) ∙ g.2) (its_marks g.0 l)

    in_its : (x : Located) → Memᴰ x all_located → Memᴰ x its_located
    unfolding op its located
    in_its x t =
        let g = from_only 0 b p.operations x t in
        let m = g.2 in
        let e = w.every g.0 x.place m.inside m.on_buffer in
        let k = e.0 in
        let kinds : (mark_at ms k).kind ≡ x.kind =
        sym (w.same_kind k e.1) ∙ same_own e.2 e.3 ∙ m.same_kind in
        let same : its k ≡ x = located_same (e.2 ∙ (let q : g.0 ≡ x.by = omega (arith, g.1) in q)) e.3 kinds in
        subst (λ (z : Located). Memᴰ z its_located) (its_at k e.1 ∙ same)
        (mem_at its_located nowhere k (omega (arith, e.1, its_long)))
      where
        same_own : {i j m n : ℕ} → i ≡ j → m ≡ n → (own_mark p i m).kind ≡ (own_mark p j n).kind
        same_own e q = ap₂ (λ (y z : ℕ). (own_mark p y z).kind) e q

    only_marks : buffer_marks p b ≡ ms
    only_marks =
        marks_located
        ∙ ap (λ (z : List Located). map forget z) (pairwise_same Earlier nowhere strict all_located its_located
        (from_rising 0 b p.operations) its_rising in_its its_in) ∙ its_forget
      where
        strict : (x y : Located) → Earlier x y → Earlier y x → ⊥
        strict x y (inl a) (inl c) = omega arith
        strict x y (inl a) (inr c) = omega (arith, c.0)
        strict x y (inr a) (inl c) = omega (arith, a.0)
        strict x y (inr a) (inr c) = omega (arith, a.1, c.1)

  pub marks_means : (ms : List Placed) → (buffer_marks p b ≡ ms) ↔ MarksMeans p b ms
  marks_means ms = ((λ e. subst (λ (z : List Placed). MarksMeans p b z) e in_order), only_marks ms)
