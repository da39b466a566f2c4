-- What is read, put together: one thing after another, a count and its things, a loop that stops at a refusal.
-- Assumes nothing.
use mathlib.Core.Path.{◌≡◌, refl, sym, ap, ◌∙◌}
use mathlib.Core.List.{List}
use Rattle.std.specs.Prelude.{Result, Ok, Err, ⊤}
use Rattle.plan_format.specs.declared.refusal.Reason.{Reason}
use Prim.Native.Nat.{ℕ, ◌+◌, ◌*◌, ◌≤◌, ◌<◌}
use native.Mathlib.Nat.{mul-le-mul_left, mul-suc}
use native.Mathlib.Numerals.{add-one}
use native.Mathlib.Omega.{arith}
use lib.ListN.{length}
use Rattle.base_lists.proofs.Fronts.{past_later}
use Rattle.plan_format.specs.Refusal.{given}
use Rattle.plan_format.specs.Grammar.{Grammar, field, seq, counted, bytes, Scan, scan, last_got}
use Rattle.plan_format.specs.Grammar.{count_check, read_by}
use Rattle.plan_format.specs.Sections.{repeat}
use Rattle.plan_format.proofs.Faults.{read_stays}
use Rattle.plan_format.proofs.Repeats.{read_counted, repeat_stops}
use Rattle.stored_numbers.specs.declared.reader.Reader.{Reader}
use Rattle.stored_numbers.specs.Reading.{Reached, fault_of, here, Past, ReadsOn, reached, SameLent, Reads}
use Rattle.stored_numbers.specs.Reading.{ReadsNumber, ReadsSection}
use Rattle.stored_numbers.proofs.Fields.{here_given, fault_none, reason_given}

-- ---- the array past the numbers
pub past_then : {i k : ℕ} {xs ys zs : List ℕ} → i ≤ k → Past i xs ys → Past k ys zs → Past k xs zs
past_then {i} {k} {xs} {ys} l p q =
    record { as_long = q.as_long ∙ p.as_long; past = q.past ∙ past_later i k ys xs l p.past }

pub reads_past : {g : Grammar} {many : ℕ} {bs : List ℕ} {c r : Reached} {nums nums_now : List ℕ} →
    ReadsOn g many bs c nums r nums_now → Past r.got nums nums_now
reads_past p = record { as_long = p.as_long; past = p.past }

-- ---- one thing after another
module _ {bs : List ℕ} {c d r : Reached} {nums nums₁ nums₂ : List ℕ} where
  -- one thing after another
  pub reads_seq : {g h : Grammar} {m n : ℕ} → ReadsOn g m bs c nums d nums₁ → ReadsOn h n bs d nums₁ r nums₂ →
      ReadsOn (seq g h) (m + n) bs c nums r nums₂
  unfolding read_by
  reads_seq {g} {h} p q = record {
    read = ap (λ (s : Scan). read_by bytes h s) p.read ∙ q.read;
    inside = q.inside;
    more = omega arith;
    few = omega arith;
    as_long = q.as_long ∙ p.as_long;
    past = (past_then q.more (reads_past p) (reads_past q)).past;
  }

  -- one more
  pub reads_more : {g : Grammar} {m : ℕ} (i : ℕ) → ReadsOn (repeat i g) (m * i) bs c nums d nums₁ →
      ReadsOn g m bs d nums₁ r nums₂ → ReadsOn (repeat (i + 1) g) (m * (i + 1)) bs c nums r nums₂
  unfolding repeat
  reads_more {g} {m} i p q = rw (add-one i, mul-suc m i) (reads_seq p q)

-- none of a thing
pub reads_none : (g : Grammar) (m : ℕ) (bs : List ℕ) (c : Reached) (nums : List ℕ) → c.at ≤ length bs →
    ReadsOn (repeat 0 g) (m * 0) bs c nums c nums
unfolding repeat read_by
reads_none g m bs c nums h = record
    { read = refl; inside = h; more = omega arith; few = omega arith; as_long = refl; past = refl }

-- a count, and so many of a thing
pub counted_read : (least most w : ℕ) (g : Grammar) {bs : List ℕ} {c start : Reached} {nums nums₁ : List ℕ} →
    ReadsOn (field w (λ _ v. count_check least most v)) 1 bs c nums start nums₁ → (n : ℕ) →
    (start.number ≡ 0 → n ≡ last_got (here bs start nums₁)) →
    read_by bytes (counted least most w g) (here bs c nums) ≡ read_by bytes (repeat n g) (here bs start nums₁)
unfolding here scan fault_of read_by
counted_read least most w g {bs} {c} {start} {nums} {nums₁} p n e =
    read_counted bytes least most w n g (here bs c nums) (here bs start nums₁) p.read
    (λ z. sym (e (fault_none start z)))

-- at most so many, and more room than that
pub reads_within : {g : Grammar} {bs : List ℕ} {c r : Reached} {nums nums_now : List ℕ} {m : ℕ} (n : ℕ) → m ≤ n →
    ReadsOn g m bs c nums r nums_now → ReadsOn g n bs c nums r nums_now
reads_within n l p =
    record {
      read = p.read;
      inside = p.inside;
      more = p.more;
      few = omega (arith, p.few);
      as_long = p.as_long;
      past = p.past;
    }

-- where a thing is refused, nothing is read of what comes after it
pub reads_refused : {g : Grammar} (h : Grammar) {bs : List ℕ} {c r : Reached} {nums nums_now : List ℕ} {m : ℕ}
    (n : ℕ) → (r.number ≡ 0 → ⊥) → m ≤ n → ReadsOn g m bs c nums r nums_now → ReadsOn (seq g h) n bs c nums r nums_now
unfolding read_by
reads_refused h {bs} {c} {r} {nums} {nums_now} n z l p =
    record {
      read = ap (λ (s : Scan). read_by bytes h s) p.read
          ∙ read_stays bytes h (here bs r nums_now) (here_given bs r nums_now z);
      inside = p.inside;
      more = p.more;
      few = omega (arith, p.few);
      as_long = p.as_long;
      past = p.past;
    }

-- a loop that met a refusal has read all that can be read
pub reads_stopped : {bs : List ℕ} {start r : Reached} {nums nums_now : List ℕ} (g : Grammar) (m : ℕ) (i n : ℕ) →
    (r.number ≡ 0 → ⊥) → i ≤ n → ReadsOn (repeat i g) (m * i) bs start nums r nums_now →
    ReadsOn (repeat n g) (m * n) bs start nums r nums_now
reads_stopped {bs} {start} {r} {nums} {nums_now} g m i n z h p =
    record {
      read = repeat_stops bytes g (here bs start nums) i n
          (ap (λ (s : Scan). given s.fault) p.read ∙ here_given bs r nums_now z) h ∙ p.read;
      inside = p.inside;
      few = omega (arith, mul-le-mul_left m h, p.few);
      more = p.more;
      as_long = p.as_long;
      past = p.past;
    }

-- ---- what a reader's methods have read
pub same_then : {s t u : Reader} → SameLent s t → SameLent t u → SameLent s u
same_then p q = record { plan = q.plan ∙ p.plan; room = q.room ∙ p.room }

module _ {A B : Type 0} {s t u : Reader} {x : A} {r : Result B Reason} where
  -- one thing after another
  pub then_reads : {g h : Grammar} {m n : ℕ} → Reads g m s (Ok x) t → Reads h n t r u → Reads (seq g h) (m + n) s r u
  then_reads {h = h} {n = n} p q =
      record { same = same_then p.same q.same; reads = reads_seq p.reads (rw p.same.plan at q.reads) }

  -- one more
  pub more_reads : {g : Grammar} {m : ℕ} (i : ℕ) → Reads (repeat i g) (m * i) s (Ok x) t → Reads g m t r u →
      Reads (repeat (i + 1) g) (m * (i + 1)) s r u
  more_reads i p q =
      record { same = same_then p.same q.same; reads = reads_more i p.reads (rw p.same.plan at q.reads) }

-- whatever is handed back
pub as_reads : {A B : Type 0} {g : Grammar} {m : ℕ} {s t : Reader} {x : A} {y : B} → Reads g m s (Ok x) t →
    Reads g m s (Ok y) t
as_reads p = record { same = p.same; reads = p.reads }

-- none of a thing
pub none_read : (g : Grammar) (m : ℕ) (s : Reader) → Reads {A = ⊤} (repeat 0 g) (m * 0) s (Ok tt) s
none_read g m s = record { same = record { plan = refl; room = refl }; reads = reads_none g m _ _ _ s.inside }

module _ {A B : Type 0} {s t : Reader} {r : Result B Reason} {e : Reason} (gone : r ≡ Err e) where
  -- a refusal handed on
  pub handed_on : {g : Grammar} {m : ℕ} (n : ℕ) → m ≤ n → Reads {A = A} g m s (Err e) t → Reads g n s r t
  handed_on n l p = rw gone (record { same = p.same; reads = reads_within n l p.reads })

  -- nothing is read of what comes after it
  pub refused_reads : {g : Grammar} {m : ℕ} (h : Grammar) (n : ℕ) → m ≤ n → Reads {A = A} g m s (Err e) t →
      Reads (seq g h) n s r t
  refused_reads h n l p =
      rw gone (record { same = p.same; reads = reads_refused h n (reason_given e) l p.reads })

  -- a loop ends with it
  pub stopped_reads : {C : Type 0} {x : C} {s₀ : Reader} (g : Grammar) (m i n : ℕ) → i < n →
      Reads (repeat i g) (m * i) s₀ (Ok x) s → Reads {A = A} g m s (Err e) t → Reads (repeat n g) (m * n) s₀ r t
  stopped_reads {x = x} {s₀ = s₀} g m i n l o p =
      let more = more_reads {x = x} {r = Err e} i o p in
      rw gone (record {
        same = more.same;
        reads = reads_stopped g m (i + 1) n (reason_given e) (omega arith) more.reads;
      })

-- a count, and so many of a thing
module _ (least most w : ℕ) {B : Type 0} (g : Grammar) (m : ℕ) {s t u : Reader} {r : Result B Reason} where
  pub count_then : {n : ℕ} → ReadsNumber w (λ _ v. count_check least most v) most s (Ok n) t →
      Reads (repeat n g) (m * n) t r u → Reads (counted least most w g) (1 + m * most) s r u
  count_then {n} p q =
      let first = p.field.reads.reads in
      let rest = rw p.field.reads.same.plan at q.reads in
      record {
        same = same_then p.field.reads.same q.same;
        reads = record {
          read = counted_read least most w g first n (λ _. p.number.0) ∙ rest.read;
          inside = rest.inside;
          few = omega (arith, mul-le-mul_left m p.number.1, first.few, rest.few);
          more = omega (arith, first.more, rest.more);
          as_long = rest.as_long ∙ first.as_long;
          past = (past_then rest.more (reads_past first) (reads_past rest)).past;
        };
      }

pub count_refused : (least most w : ℕ) {B : Type 0} (g : Grammar) (m : ℕ) {s t : Reader} {r : Result B Reason}
    {e : Reason} → r ≡ Err e → ReadsNumber w (λ _ v. count_check least most v) most s (Err e) t →
    Reads (counted least most w g) (1 + m * most) s r t
count_refused least most w g m {s} {t} {r} {e} gone p =
    let first = p.field.reads.reads in
    rw gone (record {
      same = p.field.reads.same;
      reads = record {
        read = counted_read least most w g first 0 (λ z. absurd (reason_given e z))
            ∙ read_stays bytes (repeat 0 g) _ (here_given s.plan.now (reached {A = ℕ} (Err e) t.cursor) t.numbers.now
            (reason_given e));
        inside = first.inside;
        few = omega (arith, first.few);
        more = first.more;
        as_long = first.as_long;
        past = first.past;
      };
    })

-- ---- a section
pub section_read : {g : Grammar} {most n : ℕ} {s t : Reader} {A : Type 0} {x : A} → Reads g (1 + 1 * most) s (Ok x) t →
    t.cursor.got ≡ s.cursor.got + (1 + n) → ReadsSection g most s (Ok n) t
section_read {most = most} p e =
    record {
      reads = record { same = p.same; reads = reads_within (1 + most) (omega arith) p.reads };
      entries = e;
    }

pub section_refused : {g : Grammar} {most : ℕ} {s t : Reader} {r : Result ℕ Reason} {e : Reason} → r ≡ Err e →
    Reads g (1 + 1 * most) s r t → ReadsSection g most s r t
section_refused {most = most} gone p =
    record {
      reads = record { same = p.same; reads = reads_within (1 + most) (omega arith) p.reads };
      entries = rw gone tt;
    }
