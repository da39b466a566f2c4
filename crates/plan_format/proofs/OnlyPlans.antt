-- What parses is the numbers of a plan within the limits, in every form and however its bytes are spelled. Assumes
-- nothing.
use mathlib.Core.Path.{◌≡◌, refl, sym, ap, ap₂, ◌∙◌, subst}
use mathlib.Core.Bool.{true}
use mathlib.Core.List.{List, [], ◌∷◌, ◌++◌, append-nil, flat_map}
use Prim.Native.Nat.{ℕ, zero, suc, ◌≤◌, ◌<◌}
use native.Mathlib.Nat.{not-suc-le-zero, le_of_suc-le-suc}
use native.Mathlib.Omega.{arith}
use lib.ListN.{length, get_or, take}
use lib.Seq.{get_or-take, length-take-le}
use Rattle.base_lists.specs.Lists.{member}
use Rattle.base_lists.proofs.Members.{member_here, member_there}
use Rattle.plan_format.specs.Sizes.{most_queues, most_buffers, most_operations, most_waits, most_signals}
use Rattle.plan_format.specs.Sizes.{most_marks, least_wait, least_signal}
use Rattle.plan_format.specs.Grammar.{Check}
use Rattle.plan_format.specs.Form.{Form, queue_count, any_number, new_axis, a_queue, point, mark, operation}
use Rattle.plan_format.specs.Form.{plan_grammar}
use Rattle.plan_format.specs.Plan.{Point, Mark, Operation, Plan}
use Rattle.plan_format.specs.Limits.{Each, Fits, PointWithin, MarkWithin, OperationWithin, PlanWithin}
use Rattle.plan_format.specs.Limits.{counted_numbers, one_number, point_numbers, mark_numbers, operation_numbers}
use Rattle.plan_format.specs.Limits.{numbers_of}
use Rattle.plan_format.proofs.Parses.{Takes, Spelt, Many, Field, Counted, Parses}
use Rattle.plan_format.proofs.Entries.{Row, listing, many_fields}
use Rattle.plan_format.proofs.Blocks.{Kept, kept_more, below_lt, is_queue, is_semaphore, is_value}
use Rattle.plan_format.proofs.Blocks.{is_buffer, is_kind}
use Rattle.plan_format.proofs.Sections.{header_kept}
use Rattle.plan_format.proofs.PlanNumbers.{ones}
use Rattle.plan_format.proofs.Forms.{Proper, Admits}
use Rattle.plan_format.proofs.EveryPlan.{Queues, queues_stay}

-- ---- axes
member_getD : (xs : List ℕ) (i : ℕ) → i < length xs → member (get_or xs i 0) xs ≡ true
member_getD [] i l = absurd (not-suc-le-zero l)
member_getD (x ∷ xs) zero l = member_here x xs
member_getD (x ∷ xs) (suc i) l = member_there (get_or xs i 0) x xs (member_getD xs i (le_of_suc-le-suc l))

distinct : (q k : ℕ) (axes : List ℕ) → Row new_axis (q ∷ []) k axes → (i j : ℕ) → i < j → j < k →
    get_or axes i 0 ≡ get_or axes j 0 → ⊥
unfolding new_axis
distinct q k axes r i j l h e =
    let there : member (get_or axes j 0) (take j axes) ≡ true =
    subst (λ z. member z (take j axes) ≡ true) (get_or-take j axes i 0 l ∙ e)
    (member_getD (take j axes) i (rw (length-take-le j axes (omega (arith, r.long))) l)) in
    let z : ◌≡◌ {A = ℕ} 5 0 = rw there at (r.pass j h) in
    omega arith

-- ---- entries, and entries after their count
record Entries {A : Type 0} (W : A → Type 0) (f : A → List ℕ) (k : ℕ) (vs : List ℕ) : Type 0 where
  list : List A
  long : length list ≡ k
  each : Each W list
  numbers_are : vs ≡ flat_map f list

record Listed {A : Type 0} (W : A → Type 0) (f : A → List ℕ) (l m : ℕ) (vs : List ℕ) : Type 0 where
  list : List A
  many : l ≤ length list
  few : length list ≤ m
  each : Each W list
  numbers_are : vs ≡ counted_numbers f list

module _ {A : Type 0} (G : List ℕ → Type 0) (stays : (got vs : List ℕ) → G got → G (got ++ vs)) (W : A → Type 0)
    (P : Takes) (f : A → List ℕ)
    (entry : (got vs ds : List ℕ) → G got → P got vs ds → (x : A) × W x × (vs ≡ f x)) where
  many_are : (k : ℕ) (got vs ds : List ℕ) → G got → Many P k got vs ds → Entries W f k vs
  unfolding flat_map
  many_are zero got vs ds g p = record { list = []; long = refl; each = tt; numbers_are = p.numbers_are }
  many_are (suc k) got vs ds g p =
      let (x, w, e) = entry got p.vs₁ p.ds₁ g p.first in
      let r = many_are k (got ++ p.vs₁) p.vs₂ p.ds₂ (stays got p.vs₁ g) p.second in
      record {
        list = x ∷ r.list;
        long = ap suc r.long;
        each = (w, r.each);
        numbers_are = p.numbers_are ∙ ap₂ {C = List ℕ} (λ y z. y ++ z) e r.numbers_are;
      }

  list_is : (D : Spelt) (l m w : ℕ) (got vs ds : List ℕ) → G got → Counted D l m w P got vs ds → Listed W f l m vs
  unfolding counted_numbers
  list_is D l m w got vs ds g p =
      let c = listing D l m w P got vs ds p in
      let r = many_are c.count (got ++ (c.count ∷ [])) c.entries c.spelling
      (stays got (c.count ∷ []) g) c.many in
      record {
        list = r.list;
        many = omega (arith, r.long, c.least);
        few = omega (arith, r.long, c.most);
        each = r.each;
        numbers_are = c.numbers_are ∙ ap₂ {C = List ℕ} (λ n z. n ∷ z) (sym r.long) r.numbers_are;
      }

-- ---- operations, the bytes of a number being such that it fits
module _ (D : Spelt) (fits : Fits) (spelt_fits : (w v : ℕ) (ds : List ℕ) → D w v ds → fits w v) where
  module _ (F : Form) (q s b : ℕ) where
    point_is : (l : ℕ) (got vs ds : List ℕ) → Kept q s b got → Parses D (point F l) got vs ds →
        (x : Point) × PointWithin fits s l x × (vs ≡ point_numbers x)
    unfolding point point_numbers
    point_is l got vs ds k p =
        let x = p.first in
        let y = p.second in (
          record { semaphore = x.number; value = y.number },
          record {
            semaphore = is_semaphore D F q s b got x.number k x.holds.passes;
            value = spelt_fits 8 y.number p.ds₂ y.holds.spelt;
            not_below = is_value D F q s b l (got ++ p.vs₁) y.number (kept_more q s b got p.vs₁ k)
                y.holds.passes;
          },
          p.numbers_are ∙ ap₂ {C = List ℕ} (λ z u. z ++ u) x.holds.numbers_are y.holds.numbers_are,
        )

    mark_is : (got vs ds : List ℕ) → Kept q s b got → Parses D mark got vs ds →
        (m : Mark) × MarkWithin b m × (vs ≡ mark_numbers m)
    unfolding mark mark_numbers
    mark_is got vs ds k p =
        let x = p.first in
        let y = p.second in
        let got₁ = got ++ p.vs₁ in
        let kind = is_kind D F q s b got₁ y.number (kept_more q s b got p.vs₁ k) y.holds.passes in (
          record { buffer = x.number; kind = y.number },
          record { buffer = is_buffer D F q s b got x.number k x.holds.passes; kind = omega (arith, kind) },
          p.numbers_are ∙ ap₂ {C = List ℕ} (λ z u. z ++ u) x.holds.numbers_are y.holds.numbers_are,
        )

    points_are : (l m : ℕ) (got vs ds : List ℕ) → Kept q s b got → Counted D 0 m 1 (Parses D (point F l)) got vs ds →
        Listed (PointWithin fits s l) point_numbers 0 m vs
    points_are l m = list_is (Kept q s b) (kept_more q s b) (PointWithin fits s l) (Parses D (point F l)) point_numbers
        (point_is l) D 0 m 1

    operation_is : (got vs ds : List ℕ) → Kept q s b got → Parses D (operation F) got vs ds →
        (o : Operation) × OperationWithin fits q s b o × (vs ≡ operation_numbers o)
    unfolding operation operation_numbers
    operation_is got vs ds k p =
        let p₁ = p.second in
        let p₂ = p₁.second in
        let o = p.first in
        let got₁ = got ++ p.vs₁ in
        let got₂ = got₁ ++ p₁.vs₁ in
        let got₃ = got₂ ++ p₂.vs₁ in
        let k₁ = kept_more q s b got p.vs₁ k in
        let k₂ = kept_more q s b got₁ p₁.vs₁ k₁ in
        let k₃ = kept_more q s b got₂ p₂.vs₁ k₂ in
        let w = points_are least_wait most_waits got₁ p₁.vs₁ p₁.ds₁ k₁ p₁.first in
        let n = points_are least_signal most_signals got₂ p₂.vs₁ p₂.ds₁ k₂ p₂.first in
        let m = list_is (Kept q s b) (kept_more q s b) (MarkWithin b) (Parses D mark) mark_numbers mark_is D 0
        most_marks 1 got₃ p₂.vs₂
        p₂.ds₂ k₃ p₂.second in (
          record { queue = o.number; waits = w.list; signals = n.list; marks = m.list },
          record {
            queue = is_queue D F q s b got o.number k o.holds.passes;
            few_waits = w.few;
            waits = w.each;
            few_signals = n.few;
            signals = n.each;
            few_marks = m.few;
            marks = m.each;
          },
          glued p.numbers_are o.holds.numbers_are p₁.numbers_are w.numbers_are p₂.numbers_are
              n.numbers_are m.numbers_are,
        )
      where
        glued : {vs v₁ v₂ v₃ v₄ v₅ v₆ ws ss ms : List ℕ} {q : ℕ} → vs ≡ v₁ ++ v₂ → v₁ ≡ q ∷ [] → v₂ ≡ v₃ ++ v₄ →
            v₃ ≡ ws → v₄ ≡ v₅ ++ v₆ →
            v₅ ≡ ss → v₆ ≡ ms → vs ≡ q ∷ (ws ++ (ss ++ ms))
        glued a b c d e f g = cc

  -- ---- sections of single fields
  field_is : (w : ℕ) (c : Check) (got vs ds : List ℕ) → Unit {0} → Field D w c got vs ds →
      (v : ℕ) × fits w v × (vs ≡ one_number v)
  unfolding one_number
  field_is w c got vs ds k p = (p.number, spelt_fits w p.number ds p.holds.spelt, p.holds.numbers_are)

  owner_is : (q : ℕ) (got vs ds : List ℕ) → Queues q got → Field D 1 a_queue got vs ds →
      (v : ℕ) × (v < q) × (vs ≡ one_number v)
  unfolding one_number a_queue
  owner_is q got vs ds k p =
      let queues : queue_count got ≡ q = rw append-nil at (k []) in (
        p.number,
        subst (λ z. p.number < z) queues (below_lt (queue_count got) p.number p.holds.passes),
        p.holds.numbers_are,
      )

  section : (vs xs : List ℕ) → vs ≡ counted_numbers one_number xs → vs ≡ length xs ∷ xs
  unfolding counted_numbers
  section vs xs e = e ∙ ap (λ z. length xs ∷ z) (ones xs)

  axes_apart : (vs ds axes : List ℕ) → Counted D 0 most_queues 1 (Field D 8 new_axis) [] vs ds →
      vs ≡ length axes ∷ axes →
      (i k : ℕ) → i < k → k < length axes → get_or axes i 0 ≡ get_or axes k 0 → ⊥
  axes_apart vs ds axes p e =
      let c = listing D 0 most_queues 1 (Field D 8 new_axis) [] vs ds p in
      let row = many_fields D 8 new_axis c.count (c.count ∷ []) c.entries c.spelling c.many in
      let same : c.count ∷ c.entries ≡ length axes ∷ axes = sym c.numbers_are ∙ e in
      let many : c.count ≡ length axes = cc in
      let list : c.entries ≡ axes = cc in
      distinct (length axes) (length axes) axes
      (subst (λ z. Row new_axis (z ∷ []) z axes) many (subst (λ z. Row new_axis (c.count ∷ []) c.count z) list row))

  -- ---- the whole
  pub parsed_plan : (F : Form) → Proper F → (xs ds : List ℕ) → Parses D (plan_grammar F) [] xs ds →
      (p : Plan) × PlanWithin fits p × Admits F (length p.owners) × (xs ≡ numbers_of p)
  unfolding plan_grammar numbers_of
  parsed_plan F proper xs ds p =
      let p₁ = p.second in
      let p₂ = p₁.second in
      let got₂ = p.vs₁ ++ p₁.vs₁ in
      let got₃ = got₂ ++ p₂.vs₁ in
      let O : Takes = Parses D (operation F) in
      let a = list_is (λ _. Unit {0}) (λ _ _ _. tt) (fits 8) (Field D 8 new_axis) one_number (field_is 8 new_axis) D 0
      most_queues 1 []
      p.vs₁ p.ds₁ tt p.first in
      let e₁ = section p.vs₁ a.list a.numbers_are in
      let q = length a.list in
      let o = list_is (Queues q) (queues_stay q) (λ v. v < q) (Field D 1 a_queue) one_number (owner_is q) D
      F.semaphores_least
      F.semaphores_most F.semaphore_width p.vs₁ p₁.vs₁ p₁.ds₁ (heads p.vs₁ q a.list e₁) p₁.first
      in
      let z = list_is (λ _. Unit {0}) (λ _ _ _. tt) (fits 4) (Field D 4 any_number) one_number (field_is 4 any_number) D
      0 most_buffers 2 got₂
      p₂.vs₁ p₂.ds₁ tt p₂.first in
      let e₂ = section p₁.vs₁ o.list o.numbers_are in
      let e₃ = section p₂.vs₁ z.list z.numbers_are in
      let s = length o.list in
      let b = length z.list in
      let k = header_kept q s b a.list o.list z.list refl (refl {a = s}) refl p.vs₁ p₁.vs₁ p₂.vs₁ e₁
      e₂ e₃ in
      let n = list_is (Kept q s b) (kept_more q s b) (OperationWithin fits q s b) O operation_numbers
      (operation_is F q s b) D 0
      most_operations 2 got₃ p₂.vs₂ p₂.ds₂ k p₂.second in (
        record { axes = a.list; owners = o.list; sizes = z.list; operations = n.list },
        record {
          few_queues = a.few;
          axes = a.each;
          axes_distinct = axes_apart p.vs₁ p.ds₁ a.list p.first e₁;
          few_semaphores = omega (arith, o.few, proper.few);
          owners = o.each;
          few_buffers = z.few;
          sizes = z.each;
          few_operations = n.few;
          operations = n.each;
        },
        record { least = o.many; most = o.few },
        glued {b = counted_numbers one_number o.list} {d = counted_numbers operation_numbers n.list}
            p.numbers_are a.numbers_are p₁.numbers_are o.numbers_are
            p₂.numbers_are z.numbers_are n.numbers_are,
      )
    where
      heads : (vs : List ℕ) (q : ℕ) (axes : List ℕ) → vs ≡ q ∷ axes → Queues q vs
      heads vs q axes e more = unfold queue_count in (ap (λ z. get_or (z ++ more) 0 0) e)

      glued : {vs v₁ v₂ v₃ v₄ v₅ v₆ a b c d : List ℕ} → vs ≡ v₁ ++ v₂ → v₁ ≡ a → v₂ ≡ v₃ ++ v₄ → v₃ ≡ b →
          v₄ ≡ v₅ ++ v₆ → v₅ ≡ c → v₆ ≡ d →
          vs ≡ a ++ (b ++ (c ++ d))
      glued h₁ h₂ h₃ h₄ h₅ h₆ h₇ = cc
