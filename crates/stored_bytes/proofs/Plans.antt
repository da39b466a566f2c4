-- The four sections, written one after the other, are the plan: where one is refused, what comes after it is as
-- nothing.
-- Assumes nothing.
use Rattle.std.proofs.Common.{◌≡◌, refl, sym, ap, ◌∙◌, subst, ℕ, ◌+◌, ◌*◌, List, get_or}
use Rattle.std.specs.Prelude.{Result, Ok, Err}
use Rattle.plan_format.specs.Sizes.{most_queues, most_buffers, most_operations, block_bytes}
use Rattle.plan_format.specs.Grammar.{Grammar, counted}
use Rattle.plan_format.specs.Form.{Form, plan_grammar}
use Rattle.plan_format.specs.Sections.{limited, axis_field, size_field, owned, operation_below}
use Rattle.plan_format.specs.Told.{Refused}
use Rattle.stored_bytes.specs.declared.writer.Writer.{Writer}
use Rattle.stored_bytes.specs.Writing.{from, after, Writes, Wrote, Counted, sections_most}
use Rattle.stored_bytes.proofs.Fields.{passed}
use Rattle.stored_bytes.proofs.Writers.{reason_given}
use Rattle.stored_bytes.proofs.Counts.{plan_writes}

-- what was written of a list that is the same
on_list : {A : Type 0} {g : Grammar} {m : ℕ} {u v : Writer} {r : Result A Refused} {xs : List ℕ} → u.numbers.now ≡ xs →
    Wrote g m u r v → Writes g m xs (from u.cursor) u.bytes.now (after r v.cursor) v.bytes.now
on_list {g = g} {m} {u} {v} {r} e p =
    subst (λ (xs : List ℕ). Writes g m xs (from u.cursor) u.bytes.now (after r v.cursor) v.bytes.now) e p.writes

-- what is written from the first number on
pub from_first : {A : Type 0} {g : Grammar} {m : ℕ} {w v : Writer} {r : Result A Refused} → w.cursor.at ≡ 0 → Wrote g
    m w r v →
    Writes g m w.numbers.now (record { number = 0; at = 0; put = w.cursor.put }) w.bytes.now (after r v.cursor)
    v.bytes.now
from_first {g = g} {m} {w} {v} {r} z p =
    subst (λ (a : ℕ). Writes g m w.numbers.now (record { number = 0; at = a; put = w.cursor.put }) w.bytes.now
    (after r v.cursor) v.bytes.now) z p.writes

wrote_from : {A : Type 0} {g : Grammar} {m : ℕ} {w v : Writer} {r : Result A Refused} → w.cursor.at ≡ 0 →
    v.numbers.now ≡ w.numbers.now →
    Writes g m w.numbers.now (record { number = 0; at = 0; put = w.cursor.put }) w.bytes.now (after r v.cursor)
    v.bytes.now →
    Wrote g m w r v
wrote_from {g = g} {m} {w} {v} {r} z e p =
    record {
      same_list = e;
      writes = subst (λ (a : ℕ). Writes g m w.numbers.now (record { number = 0; at = a; put = w.cursor.put })
          w.bytes.now
          (after r v.cursor) v.bytes.now) (sym z) p;
    }

abbrev Axes : (w : Writer) → Result ℕ Refused → Writer → Type 0
Axes w r v = Wrote (counted 0 most_queues 1 axis_field) (1 + 8 * most_queues) w r v

abbrev Sizes : (w : Writer) → Result ℕ Refused → Writer → Type 0
Sizes w r v = Wrote (counted 0 most_buffers 2 size_field) (2 + 4 * most_buffers) w r v

abbrev Owners : Form → (many queues : ℕ) → (w : Writer) → Result ℕ Refused → Writer → Type 0
Owners F j q w r v = Wrote (owned F (limited q 4)) j w r v

module _ (F : Form) (j : ℕ) {w u₁ : Writer} (z : w.cursor.at ≡ 0) where
  pub no_axes : {A : Type 0} {e : Refused} → Axes w (Err e) u₁ → Wrote {A = A} (plan_grammar F) (sections_most j) w
      (Err e) u₁
  no_axes {e} p =
      let n = reason_given e.reason in
      let a = from_first z p in
      wrote_from z p.same_list (plan_writes F w.numbers.now a refl (passed n a.inside) refl (passed n a.inside) refl
      (passed n a.inside))

  module _ {q : ℕ} (axes : Axes w (Ok q) u₁) (count₁ : Counted most_queues w (Ok q) u₁) where
    a : Writes (counted 0 most_queues 1 axis_field) (1 + 8 * most_queues) w.numbers.now
        (record { number = 0; at = 0; put = w.cursor.put }) w.bytes.now (from u₁.cursor) u₁.bytes.now
    a = from_first z axes

    q_is : q ≡ get_or w.numbers.now 0 0
    q_is = sym (count₁.count_read refl) ∙ ap (λ (k : ℕ). get_or w.numbers.now k 0) z

    pub no_owners : {A : Type 0} {u₂ : Writer} {e : Refused} → Owners F j q u₁ (Err e) u₂ →
        Wrote {A = A} (plan_grammar F) (sections_most j) w (Err e) u₂
    no_owners {u₂} {e} p =
        let n = reason_given e.reason in
        let o = on_list axes.same_list p in
        wrote_from z (p.same_list ∙ axes.same_list) (plan_writes F w.numbers.now a q_is o refl (passed n o.inside) refl
        (passed n o.inside))

    module _ {u₂ : Writer} {m most : ℕ} (owners : Owners F j q u₁ (Ok m) u₂) (count₂ : Counted most u₁ (Ok m) u₂) where
      o : Writes (owned F (limited q 4)) j w.numbers.now (from u₁.cursor) u₁.bytes.now (from u₂.cursor) u₂.bytes.now
      o = on_list axes.same_list owners

      same₂ : u₂.numbers.now ≡ w.numbers.now
      same₂ = owners.same_list ∙ axes.same_list

      m_is : m ≡ get_or w.numbers.now u₁.cursor.at 0
      m_is = sym (count₂.count_read refl) ∙ ap (λ (xs : List ℕ). get_or xs u₁.cursor.at 0) axes.same_list

      pub no_sizes : {A : Type 0} {u₃ : Writer} {e : Refused} → Sizes u₂ (Err e) u₃ →
          Wrote {A = A} (plan_grammar F) (sections_most j) w (Err e) u₃
      no_sizes {u₃} {e} p =
          let n = reason_given e.reason in
          let s = on_list same₂ p in
          wrote_from z (p.same_list ∙ same₂) (plan_writes F w.numbers.now a q_is o m_is s refl (passed n s.inside))

      pub four_sections : {A : Type 0} {u₃ v : Writer} {n : ℕ} {r : Result A Refused} → Sizes u₂ (Ok n) u₃ →
          Counted most_buffers u₂ (Ok n) u₃ →
          Wrote (counted 0 most_operations 2 (operation_below F.semaphore_width q m n))
          (2 + block_bytes * most_operations)
          u₃ r v → Wrote (plan_grammar F) (sections_most j) w r v
      four_sections p c s =
          wrote_from z (s.same_list ∙ p.same_list ∙ same₂) (plan_writes F w.numbers.now a q_is o m_is (on_list same₂ p)
          (sym (c.count_read refl) ∙ ap (λ (xs : List ℕ). get_or xs u₂.cursor.at 0) same₂)
          (on_list (p.same_list ∙ same₂) s))
