-- What comes before the operations, as a reader's method reads it: three sections and a count, or the first thing
-- refused. Assumes nothing.
use mathlib.Core.Path.{◌≡◌, refl}
use Rattle.std.specs.Prelude.{Result, Ok, Err}
use Prim.Native.Nat.{ℕ, ◌+◌, ◌≤◌}
use native.Mathlib.Omega.{arith}
use lib.ListN.{length}
use Rattle.plan_format.specs.declared.refusal.Reason.{Reason}
use Rattle.plan_format.specs.Sizes.{most_queues, most_semaphores, most_buffers, most_operations}
use Rattle.plan_format.specs.Grammar.{Grammar, field, counted, count_check}
use Rattle.plan_format.specs.Form.{Form}
use Rattle.plan_format.specs.Sections.{limited, axis_field, size_field, owned}
use Rattle.stored_numbers.specs.declared.operation.Counts.{Counts}
use Rattle.stored_numbers.specs.declared.reader.Reader.{Reader}
use Rattle.stored_numbers.specs.Reading.{Reached, reading, reached, ReadsOn, SameLent, Reads, ReadsNumber, ReadsSection}
use Rattle.stored_numbers.specs.Reading.{front_numbers, Begins, HeadReads}
use Rattle.stored_numbers.proofs.Fields.{reason_given}
use Rattle.stored_numbers.proofs.Cursors.{same_then}
use Rattle.stored_numbers.proofs.Counts.{origin}
use Rattle.stored_numbers.proofs.Heads.{stays_refused, counts_told, head_read, head_past, head_few, refused_told}
use Rattle.stored_numbers.proofs.Heads.{refused_read}

-- what is read of the same bytes
on_plan : {A : Type 0} {s t u : Reader} {g : Grammar} {m : ℕ} {r : Result A Reason} → SameLent s t → Reads g m t r u →
    ReadsOn g m s.plan.now (reading t.cursor.at t.cursor.got) t.numbers.now (reached r u.cursor) u.numbers.now
on_plan same p = rw same.plan at p.reads

-- the four parts, each read from a reader by a result to a reader
abbrev pub Axes : Reader → Result ℕ Reason → Reader → Type 0
Axes = ReadsSection (counted 0 most_queues 1 axis_field) most_queues

abbrev pub Owners : Form → (q : ℕ) → Reader → Result ℕ Reason → Reader → Type 0
Owners F q = ReadsSection (owned F (limited q 4)) F.semaphores_most

abbrev pub Buffers : Reader → Result ℕ Reason → Reader → Type 0
Buffers = ReadsSection (counted 0 most_buffers 2 size_field) most_buffers

abbrev pub Operations : Reader → Result ℕ Reason → Reader → Type 0
Operations = ReadsNumber 2 (λ _ v. count_check 0 most_operations v) most_operations

module _ (F : Form) (fits : F.semaphores_most ≤ most_semaphores) {s : Reader} (begins : Begins F s)
    (roomy : front_numbers F + 1 ≤ length s.numbers.now) where
  from_origin : {A : Type 0} {g : Grammar} {m : ℕ} {t : Reader} {r : Result A Reason} → Reads g m s r t →
      ReadsOn g m s.plan.now (origin F) s.numbers.now (reached r t.cursor) t.numbers.now
  from_origin p = rw (begins.at, begins.got) at p.reads

  module _ {t u v w : Reader} {q m b n : ℕ} (p₁ : Axes s (Ok q) t) (p₂ : Owners F q t (Ok m) u)
      (p₃ : Buffers u (Ok b) v) (p₄ : Operations v (Ok n) w) where
    pub opened : HeadReads F s (Ok (record { queues = q; semaphores = m; buffers = b }, n)) w
    opened =
        let same₁ = p₁.reads.same in
        let same₂ = same_then same₁ p₂.reads.same in
        let same₃ = same_then same₂ p₃.reads.same in
        let a = from_origin p₁.reads in
        let o = on_plan same₁ p₂.reads in
        let z = on_plan same₂ p₃.reads in
        let c = on_plan same₃ p₄.field.reads in
        let got : t.cursor.got ≡ 1 + q = omega (arith, p₁.entries, begins.got) in
        let last = rw same₃.plan at p₄.number.0 in
        record {
          same = same_then same₃ p₄.field.reads.same;
          told =
              counts_told F fits s.plan.now q m b roomy a (λ _. got) o (λ _. p₂.entries) z (λ _. p₃.entries) c n
              (λ _. last) refl;
          means =
              head_read F fits s.plan.now q m b roomy a (λ _. got) o (λ _. p₂.entries) z (λ _. p₃.entries) c n
              (λ _. last) refl p₄.number.1;
          past =
              head_past F fits s.plan.now q m b roomy a (λ _. got) o (λ _. p₂.entries) z (λ _. p₃.entries) c n
              (λ _. last);
          few =
              head_few F fits s.plan.now q m b roomy a (λ _. got) o (λ _. p₂.entries) z (λ _. p₃.entries) c n
              (λ _. last);
        }

  -- ---- refused at one of the parts
  module _ {r : Result (Counts × ℕ) Reason} {e : Reason} (gone : r ≡ Err e) where
    abbrev refusal_at : Reader → Reached
    refusal_at t = reached {A = ℕ} (Err e) t.cursor

    module _ {t : Reader} (p₁ : Axes s (Err e) t) where
      pub axes_refused : HeadReads F s r t
      axes_refused =
          let bs = s.plan.now in
          let c = refusal_at t in
          let nums = t.numbers.now in
          let a = from_origin p₁.reads in
          let z = reason_given e in
          let o = stays_refused (owned F (limited 0 4)) (1 + F.semaphores_most) bs c nums z a.inside in
          let y = stays_refused (counted 0 most_buffers 2 size_field) (1 + most_buffers) bs c nums z a.inside in
          let k = stays_refused (field 2 (λ _ v. count_check 0 most_operations v)) 1 bs c nums z a.inside in
          rw gone (record {
            same = p₁.reads.same;
            told =
                refused_told F fits bs 0 0 0 roomy a (λ i. absurd (z i)) o (λ i. absurd (z i)) y
                (λ i. absurd (z i)) k 0 (λ i. absurd (z i)) z;
            means =
                refused_read F fits bs 0 0 0 roomy a (λ i. absurd (z i)) o (λ i. absurd (z i)) y
                (λ i. absurd (z i)) k 0 (λ i. absurd (z i)) z;
            past =
                head_past F fits bs 0 0 0 roomy a (λ i. absurd (z i)) o (λ i. absurd (z i)) y
                (λ i. absurd (z i)) k 0 (λ i. absurd (z i));
            few =
                head_few F fits bs 0 0 0 roomy a (λ i. absurd (z i)) o (λ i. absurd (z i)) y
                (λ i. absurd (z i)) k 0 (λ i. absurd (z i));
          })

    module _ {t u : Reader} {q : ℕ} (p₁ : Axes s (Ok q) t) (p₂ : Owners F q t (Err e) u) where
      pub owners_refused : HeadReads F s r u
      owners_refused =
          let bs = s.plan.now in
          let c = refusal_at u in
          let nums = u.numbers.now in
          let a = from_origin p₁.reads in
          let got : t.cursor.got ≡ 1 + q = omega (arith, p₁.entries, begins.got) in
          let o = on_plan p₁.reads.same p₂.reads in
          let z = reason_given e in
          let y = stays_refused (counted 0 most_buffers 2 size_field) (1 + most_buffers) bs c nums z o.inside in
          let k = stays_refused (field 2 (λ _ v. count_check 0 most_operations v)) 1 bs c nums z o.inside in
          rw gone (record {
            same = same_then p₁.reads.same p₂.reads.same;
            told =
                refused_told F fits bs q 0 0 roomy a (λ _. got) o (λ i. absurd (z i)) y
                (λ i. absurd (z i)) k 0 (λ i. absurd (z i)) z;
            means =
                refused_read F fits bs q 0 0 roomy a (λ _. got) o (λ i. absurd (z i)) y
                (λ i. absurd (z i)) k 0 (λ i. absurd (z i)) z;
            past =
                head_past F fits bs q 0 0 roomy a (λ _. got) o (λ i. absurd (z i)) y
                (λ i. absurd (z i)) k 0 (λ i. absurd (z i));
            few =
                head_few F fits bs q 0 0 roomy a (λ _. got) o (λ i. absurd (z i)) y
                (λ i. absurd (z i)) k 0 (λ i. absurd (z i));
          })

    module _ {t u v : Reader} {q m : ℕ} (p₁ : Axes s (Ok q) t) (p₂ : Owners F q t (Ok m) u)
        (p₃ : Buffers u (Err e) v) where
      pub sizes_refused : HeadReads F s r v
      sizes_refused =
          let bs = s.plan.now in
          let same₂ = same_then p₁.reads.same p₂.reads.same in
          let a = from_origin p₁.reads in
          let got : t.cursor.got ≡ 1 + q = omega (arith, p₁.entries, begins.got) in
          let o = on_plan p₁.reads.same p₂.reads in
          let y = on_plan same₂ p₃.reads in
          let z = reason_given e in
          let k = stays_refused (field 2 (λ _ v. count_check 0 most_operations v)) 1 bs (refusal_at v) v.numbers.now z
          y.inside in
          rw gone (record {
            same = same_then same₂ p₃.reads.same;
            told =
                refused_told F fits bs q m 0 roomy a (λ _. got) o (λ _. p₂.entries) y
                (λ i. absurd (z i)) k 0 (λ i. absurd (z i)) z;
            means =
                refused_read F fits bs q m 0 roomy a (λ _. got) o (λ _. p₂.entries) y
                (λ i. absurd (z i)) k 0 (λ i. absurd (z i)) z;
            past =
                head_past F fits bs q m 0 roomy a (λ _. got) o (λ _. p₂.entries) y
                (λ i. absurd (z i)) k 0 (λ i. absurd (z i));
            few =
                head_few F fits bs q m 0 roomy a (λ _. got) o (λ _. p₂.entries) y
                (λ i. absurd (z i)) k 0 (λ i. absurd (z i));
          })

    module _ {t u v w : Reader} {q m b : ℕ} (p₁ : Axes s (Ok q) t) (p₂ : Owners F q t (Ok m) u)
        (p₃ : Buffers u (Ok b) v) (p₄ : Operations v (Err e) w) where
      pub count_over : HeadReads F s r w
      count_over =
          let bs = s.plan.now in
          let same₂ = same_then p₁.reads.same p₂.reads.same in
          let same₃ = same_then same₂ p₃.reads.same in
          let a = from_origin p₁.reads in
          let got : t.cursor.got ≡ 1 + q = omega (arith, p₁.entries, begins.got) in
          let o = on_plan p₁.reads.same p₂.reads in
          let y = on_plan same₂ p₃.reads in
          let k = on_plan same₃ p₄.field.reads in
          let z = reason_given e in
          rw gone (record {
            same = same_then same₃ p₄.field.reads.same;
            told =
                refused_told F fits bs q m b roomy a (λ _. got) o (λ _. p₂.entries) y (λ _. p₃.entries) k 0
                (λ i. absurd (z i)) z;
            means =
                refused_read F fits bs q m b roomy a (λ _. got) o (λ _. p₂.entries) y (λ _. p₃.entries) k 0
                (λ i. absurd (z i)) z;
            past =
                head_past F fits bs q m b roomy a (λ _. got) o (λ _. p₂.entries) y (λ _. p₃.entries) k 0
                (λ i. absurd (z i));
            few =
                head_few F fits bs q m b roomy a (λ _. got) o (λ _. p₂.entries) y (λ _. p₃.entries) k 0
                (λ i. absurd (z i));
          })
