-- What a writer writes, put together: one thing after another, a count and its things, and all that a refusal leaves
-- unwritten. Assumes nothing.
use Rattle.std.proofs.Common.{◌≡◌, refl, sym, ◌∙◌, subst, arith, ℕ, suc, ◌+◌, ◌*◌, ◌≤◌, ◌<◌, List, length}
use Rattle.std.proofs.Common.{get_or}
use Rattle.std.specs.Prelude.{Result, Ok, Err, Bool, true, false, cond, eqb, ltb, ⊤}
use Rattle.std.proofs.Math.Nat.{mul-le-mul_left, mul-suc}
use Rattle.std.proofs.lemmas.Bool.{eqb-false}
use Rattle.plan_format.specs.Grammar.{Grammar, field, seq, counted, numbers, Scan, field_number, read_field, read_by}
use Rattle.plan_format.specs.Grammar.{spell_by}
use Rattle.plan_format.specs.Form.{any_number}
use Rattle.plan_format.specs.Sections.{repeat, limited, size_field}
use Rattle.plan_format.specs.Told.{Refused, number_of}
use Rattle.plan_format.specs.declared.refusal.Reason.{Reason}
use Rattle.plan_format.specs.declared.refusal.Reason.TheVariants.{CutShort, CountOverLimit, BytesFollow, NotInList}
use Rattle.plan_format.specs.declared.refusal.Reason.TheVariants.{AxisTwice, SignalNotHigher, WaitTooHigh, RoomTooShort}
use Rattle.plan_format.specs.declared.refusal.Reason.TheVariants.{Stuck, BrokenMark, NoSuchQueue, NoSuchBuffer}
use Rattle.plan_format.specs.declared.refusal.Reason.TheVariants.{BadFrontier, BadCapacity, WaitForZero, OutOfTurn}
use Rattle.plan_format.specs.declared.refusal.Reason.TheVariants.{NoSignalFrees, NoSuchOperation, BadTrace}
use Rattle.stored_bytes.specs.declared.writer.Writer.{Writer}
use Rattle.stored_bytes.specs.Writing.{here, from, after, Writes, Wrote, WroteLimited, Counted}
use Rattle.stored_bytes.proofs.Fields.{front_number, passed}
use Rattle.stored_bytes.proofs.Cursors.{writes_seq, writes_more, writes_none, writes_counted, writes_within}
use Rattle.stored_bytes.proofs.Cursors.{writes_refused, writes_stopped}

-- no reason has the number 0
pub reason_given : (r : Reason) → number_of r ≡ 0 → ⊥
reason_given CutShort = eqb-false 1 0 refl
reason_given CountOverLimit = eqb-false 2 0 refl
reason_given BytesFollow = eqb-false 3 0 refl
reason_given NotInList = eqb-false 4 0 refl
reason_given AxisTwice = eqb-false 5 0 refl
reason_given SignalNotHigher = eqb-false 7 0 refl
reason_given WaitTooHigh = eqb-false 8 0 refl
reason_given RoomTooShort = eqb-false 9 0 refl
reason_given Stuck = eqb-false 10 0 refl
reason_given BrokenMark = eqb-false 11 0 refl
reason_given NoSuchQueue = eqb-false 12 0 refl
reason_given NoSuchBuffer = eqb-false 13 0 refl
reason_given BadFrontier = eqb-false 14 0 refl
reason_given BadCapacity = eqb-false 15 0 refl
reason_given WaitForZero = eqb-false 16 0 refl
reason_given OutOfTurn = eqb-false 17 0 refl
reason_given NoSignalFrees = eqb-false 19 0 refl
reason_given NoSuchOperation = eqb-false 21 0 refl
reason_given BadTrace = eqb-false 22 0 refl

module _ {g : Grammar} {w v : Writer} where
  -- what was written with one answer was written with any other, and so with a refusal
  pub wrote_ok : {A B : Type 0} {m : ℕ} {a : A} (b : B) → Wrote g m w (Ok a) v → Wrote g m w (Ok b) v
  wrote_ok b p = record { same_list = p.same_list; writes = p.writes }

  pub wrote_err : {A B : Type 0} {m : ℕ} {e : Refused} → Wrote {A = A} g m w (Err e) v → Wrote {A = B} g m w (Err e) v
  wrote_err p = record { same_list = p.same_list; writes = p.writes }

  pub wrote_within : {A : Type 0} {r : Result A Refused} {m : ℕ} (n : ℕ) → m ≤ n → Wrote g m w r v → Wrote g n w r v
  wrote_within n l p = record { same_list = p.same_list; writes = writes_within n l p.writes }

  -- where a thing is refused, nothing is written of what comes after it
  pub wrote_stop : {A B : Type 0} {m : ℕ} {e : Refused} (h : Grammar) (n : ℕ) → m ≤ n →
      Wrote {A = A} g m w (Err e) v → Wrote {A = B} (seq g h) n w (Err e) v
  wrote_stop {e = e} h n l p =
      record { same_list = p.same_list; writes = writes_refused h n (reason_given e.reason) l p.writes }

pub wrote_field : {width limit over : ℕ} {w v : Writer} {r : Result ℕ Refused} →
    WroteLimited width limit over w r v → Wrote (field width (limited limit over)) width w r v
wrote_field p = record { same_list = p.same_list; writes = p.writes.writes }

module _ {A B : Type 0} {w u v : Writer} where
  -- one thing after another
  pub wrote_seq : {g h : Grammar} {m n : ℕ} {a : A} {r : Result B Refused} → Wrote g m w (Ok a) u → Wrote h n u r v →
      Wrote (seq g h) (m + n) w r v
  wrote_seq {h = h} {n = n} {r = r} p q =
      record {
        same_list = q.same_list ∙ p.same_list;
        writes = writes_seq p.writes
            (subst (λ (xs : List ℕ). Writes h n xs (from u.cursor) u.bytes.now (after r v.cursor) v.bytes.now)
            p.same_list q.writes);
      }

  -- one more
  pub wrote_more : {g : Grammar} {m : ℕ} (i : ℕ) {a : A} {r : Result B Refused} → Wrote (repeat i g) (m * i) w (Ok a)
      u →
      Wrote g m u r v → Wrote (repeat (i + 1) g) (m * (i + 1)) w r v
  wrote_more {g} {m} i {r = r} p q =
      record {
        same_list = q.same_list ∙ p.same_list;
        writes = writes_more i p.writes
            (subst (λ (xs : List ℕ). Writes g m xs (from u.cursor) u.bytes.now (after r v.cursor) v.bytes.now)
            p.same_list q.writes);
      }

-- a count, and so many of a thing
pub wrote_counted : {B : Type 0} {w u v : Writer} {g : Grammar} {c most n : ℕ} {r : Result B Refused} (m : ℕ) →
    WroteLimited c (most + 1) 2 w (Ok n) u → (i : ℕ) → i ≡ n → Wrote (repeat i g) (m * i) u r v →
    Wrote (counted 0 most c g) (c + m * most) w r v
wrote_counted {u = u} {v} {g} {r = r} m p i e q =
    record {
      same_list = q.same_list ∙ p.same_list;
      writes = writes_counted m p.writes i e
          (subst (λ (xs : List ℕ). Writes (repeat i g) (m * i) xs (from u.cursor) u.bytes.now (after r v.cursor)
          v.bytes.now) p.same_list q.writes);
    }

-- none of a thing
pub wrote_none : (g : Grammar) (m : ℕ) (w : Writer) → w.cursor.at ≤ length w.numbers.now →
    Wrote {A = ⊤} (repeat 0 g) (m * 0) w (Ok (tt {0})) w
wrote_none g m w h = record { same_list = refl; writes = writes_none g m w.numbers.now (from w.cursor) w.bytes.now h }

-- a loop that met a refusal has written all that can be written
pub wrote_stopped : {A B : Type 0} {w u v : Writer} {m n : ℕ} (g : Grammar) (i : ℕ) {e : Refused} {a : ⊤} → i < n →
    Wrote (repeat i g) (m * i) w (Ok a) u → Wrote {A = A} g m u (Err e) v → Wrote {A = B} (repeat n g) (m * n) w
    (Err e) v
wrote_stopped {m = m} {n} g i {e} h p q =
    let s = wrote_more i p q in
    record {
      same_list = s.same_list;
      writes = writes_stopped g m (i + 1) n (reason_given e.reason) (omega arith) s.writes;
    }

-- a count that is refused
pub wrote_uncounted : {B : Type 0} {w v : Writer} {c most : ℕ} (g : Grammar) (m : ℕ) {e : Refused} →
    WroteLimited c (most + 1) 2 w (Err e) v → Wrote {A = B} (counted 0 most c g) (c + m * most) w (Err e) v
wrote_uncounted {v = v} g m {e} p =
    record {
      same_list = p.same_list;
      writes = writes_counted m p.writes 0 refl (passed (reason_given e.reason) p.writes.writes.inside);
    }

-- a number is below the limit of a size where it fits its bytes
one_limit : (b : Bool) → ◌≡◌ {A = ℕ} (cond b 0 4) (cond (eqb (cond b 0 4) 0) (cond b 0 4) (cond b 0 4))
one_limit true = refl
one_limit false = refl

size_same : (s : Scan) → read_by numbers size_field s ≡ read_by numbers (field 4 (limited 4294967296 4)) s
unfolding size_field read_by read_field field_number numbers any_number limited
size_same s = rw (← one_limit (ltb (get_or s.rest 0 0) 4294967296)) refl

pub wrote_size : {w v : Writer} {r : Result ℕ Refused} → WroteLimited 4 4294967296 4 w r v → Wrote size_field 4 w r v
unfolding spell_by size_field
wrote_size {w} p =
    let q = p.writes.writes in
    record {
      same_list = p.same_list;
      writes = record {
        read = size_same (here w.numbers.now (from w.cursor)) ∙ q.read;
        spell = q.spell;
        inside = q.inside;
        more = q.more;
        few = q.few;
        by_eight = q.by_eight;
        as_long = q.as_long;
        past = q.past;
      };
    }

-- a count is the number at the cursor
pub counted_so : {w u v : Writer} {c most n : ℕ} → WroteLimited c (most + 1) 2 w (Ok n) u →
    Counted most w (Ok n) v
counted_so {w = w} p =
    record {
      count_read = λ _. sym (front_number w.numbers.now w.cursor.at) ∙ p.writes.value_read refl;
      count_few = omega (arith, p.writes.value_below);
    }

pub counted_none : {w v : Writer} (most : ℕ) {e : Refused} → Counted most w (Err e) v
counted_none most {e} = record { count_read = λ z. absurd (reason_given e.reason z); count_few = omega arith }

-- the room for a count and so many things is enough for the next one
pub room_left : (g : Grammar) (m most : ℕ) {c n i : ℕ} {w u v : Writer} {a : ⊤} →
    w.cursor.put + (c + m * most) ≤ length w.bytes.now → WroteLimited c (most + 1) 2 w (Ok n) u →
    Wrote (repeat i g) (m * i) u (Ok a) v → i < n → v.cursor.put + m ≤ length v.bytes.now
room_left g m most {n = n} {i} h p q l =
    omega (
      arith,
      h,
      p.writes.writes.few,
      p.writes.writes.as_long,
      q.writes.few,
      q.writes.as_long,
      mul-suc m i,
      mul-le-mul_left m (let k : suc i ≤ most = omega (arith, p.writes.value_below) in k),
    )
