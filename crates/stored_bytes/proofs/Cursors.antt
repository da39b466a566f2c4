-- What cursors write, put together: one thing after another, a count and its things, a loop that stops at a refusal.
-- Assumes nothing.
use mathlib.Core.Path.{◌≡◌, refl, sym, ap, ◌∙◌}
use mathlib.Core.List.{List}
use Prim.Native.Nat.{ℕ, zero, suc, ◌+◌, ◌*◌, ◌≤◌}
use native.Mathlib.Nat.{mul-le-mul_left, mul-suc}
use native.Mathlib.Numerals.{add-one}
use native.Mathlib.Omega.{arith}
use lib.Dec.{eqb}
use lib.ListN.{length, get_or, take, drop}
use borrow.Author.Tests.{eqb-true, eqb-false}
use Rattle.base_lists.proofs.Tests.{by_cases}
use Rattle.base_lists.proofs.Fronts.{past_later}
use Rattle.plan_format.specs.Refusal.{given}
use Rattle.plan_format.specs.Grammar.{Grammar, seq, counted, numbers, Scan, scan, times, count_check, read_by, Spelling}
use Rattle.plan_format.specs.Grammar.{spell_field, spell_by}
use Rattle.plan_format.specs.Sections.{repeat, limited}
use Rattle.plan_format.proofs.Faults.{read_stays}
use Rattle.plan_format.proofs.Repeats.{read_counted, repeat_stops, field_same, times_last}
use Rattle.plan_format.proofs.Counts.{count_limited}
use Rattle.stored_bytes.specs.Writing.{Reached}
use Rattle.stored_bytes.specs.Writing.{fault_of, here, spelling, Writes, WriteLimited}
use Rattle.stored_bytes.proofs.Fields.{here_given, fault_none, fault_clean}

-- where there is no refusal at the end, there was none before
pub clean_before : {g : Grammar} {many : ℕ} {xs : List ℕ} {c r : Reached} {bytes bytes_now : List ℕ} →
    Writes g many xs c bytes r bytes_now → r.number ≡ 0 → c.number ≡ 0
unfolding here scan
clean_before {g} {xs = xs} {c} {r} p e =
    by_cases (eqb c.number 0) (λ t. eqb-true c.number 0 t)
    (λ f. let z = eqb-false c.number 0 f in
    fault_none c (ap (λ (s : Scan). s.fault.number)
    (sym (read_stays numbers g (here xs c) (here_given xs c z)) ∙ p.read) ∙ fault_clean r e))

module _ {xs : List ℕ} {c d r : Reached} {bytes bytes₁ bytes₂ : List ℕ} where
  -- one thing after another
  pub writes_seq : {g h : Grammar} {m n : ℕ} → Writes g m xs c bytes d bytes₁ → Writes h n xs d bytes₁ r bytes₂ →
      Writes (seq g h) (m + n) xs c bytes r bytes₂
  unfolding read_by spell_by
  writes_seq {g} {h} p q =
      record {
        read = ap (λ (s : Scan). read_by numbers h s) p.read ∙ q.read;
        spell = λ e. ap (λ (s : Spelling). spell_by h s) (p.spell (clean_before q e)) ∙ q.spell e;
        inside = q.inside;
        more = omega arith;
        few = omega arith;
        by_eight = omega arith;
        as_long = q.as_long ∙ p.as_long;
        past = q.past ∙ past_later _ _ bytes₁ bytes q.more p.past;
      }

  -- one more
  pub writes_more : {g : Grammar} {m : ℕ} (i : ℕ) → Writes (repeat i g) (m * i) xs c bytes d bytes₁ →
      Writes g m xs d bytes₁ r bytes₂ → Writes (repeat (i + 1) g) (m * (i + 1)) xs c bytes r bytes₂
  unfolding repeat
  writes_more {g} {m} i p q = rw (add-one i, mul-suc m i) (writes_seq p q)

-- none of a thing
pub writes_none : (g : Grammar) (m : ℕ) (xs : List ℕ) (c : Reached) (bytes : List ℕ) → c.at ≤ length xs →
    Writes (repeat 0 g) (m * 0) xs c bytes c bytes
unfolding repeat read_by spell_by
writes_none g m xs c bytes h = record {
  read = refl;
  spell = λ e. refl;
  inside = h;
  more = omega arith;
  few = omega arith;
  by_eight = omega arith;
  as_long = refl;
  past = refl;
}

spell_repeat : (n : ℕ) (g : Grammar) (s : Spelling) → spell_by (repeat n g) s ≡ times n (λ u. spell_by g u) s
unfolding spell_by repeat times
spell_repeat zero g s = refl
spell_repeat (suc n) g s = ap (λ (u : Spelling). spell_by g u) (spell_repeat n g s)
    ∙ sym (times_last n (λ u. spell_by g u) s)

spell_counted : (l m w n : ℕ) (g : Grammar) (s t : Spelling) → spell_field w s ≡ t → get_or s.left 0 0 ≡ n →
    spell_by (counted l m w g) s ≡ spell_by (repeat n g) t
unfolding spell_by
spell_counted l m w n g s t e h = rw (e, h) (sym (spell_repeat n g t))

-- a count, and so many of a thing
pub writes_counted : {g : Grammar} {xs : List ℕ} {c start r : Reached} {bytes bytes₁ bytes₂ : List ℕ} {w most : ℕ}
    {v : ℕ} (m : ℕ) → WriteLimited w (most + 1) 2 xs c bytes start v bytes₁ → (n : ℕ) → n ≡ v →
    Writes (repeat n g) (m * n) xs start bytes₁ r bytes₂ →
    Writes (counted 0 most w g) (w + m * most) xs c bytes r bytes₂
unfolding here scan fault_of limited read_by spell_by spelling
writes_counted {g} {xs} {c} {start} {bytes = bytes} {bytes₁} {w = w} {most} m p n e q =
    record {
      read =
          read_counted numbers 0 most w n g (here xs c) (here xs start)
          (field_same numbers w (λ v. count_check 0 most v) (λ v. limited (most + 1) 2 (take c.at xs) v) (here xs c)
          (count_limited most (numbers.front w (drop c.at xs))) ∙ p.writes.read)
          (λ z. p.value_is (fault_none start z) ∙ sym e) ∙ q.read;
      spell = λ z. let s = clean_before q z in
          spell_counted 0 most w n g (spelling xs c bytes) (spelling xs start bytes₁) (p.writes.spell s)
          (p.value_read s ∙ sym e) ∙ q.spell z;
      inside = q.inside;
      more = omega (arith, p.writes.more, q.more);
      few =
          omega (
            arith,
            mul-le-mul_left m (let h : n ≤ most = omega (arith, p.value_below) in h),
            p.writes.few,
            q.few,
          );
      by_eight = omega (arith, p.writes.by_eight, q.by_eight);
      as_long = q.as_long ∙ p.writes.as_long;
      past = q.past ∙ past_later _ _ bytes₁ bytes q.more p.writes.past;
    }

-- at most so many, and more room than that
pub writes_within : {g : Grammar} {xs : List ℕ} {c r : Reached} {bytes bytes_now : List ℕ} {m : ℕ} (n : ℕ) → m ≤ n →
    Writes g m xs c bytes r bytes_now → Writes g n xs c bytes r bytes_now
writes_within n l p =
    record {
      read = p.read;
      spell = p.spell;
      inside = p.inside;
      more = p.more;
      few = omega (arith, p.few);
      by_eight = p.by_eight;
      as_long = p.as_long;
      past = p.past;
    }

-- where a thing is refused, nothing is written of what comes after it
pub writes_refused : {g : Grammar} (h : Grammar) {xs : List ℕ} {c r : Reached} {bytes bytes_now : List ℕ} {m : ℕ}
    (n : ℕ) → (r.number ≡ 0 → ⊥) → m ≤ n → Writes g m xs c bytes r bytes_now →
    Writes (seq g h) n xs c bytes r bytes_now
unfolding read_by
writes_refused h {xs} {c} {r} n z l p =
    record {
      read = ap (λ (s : Scan). read_by numbers h s) p.read ∙ read_stays numbers h (here xs r) (here_given xs r z);
      spell = λ e. absurd (z e);
      inside = p.inside;
      more = p.more;
      few = omega (arith, p.few);
      by_eight = p.by_eight;
      as_long = p.as_long;
      past = p.past;
    }

-- a loop that met a refusal has written all that can be written
pub writes_stopped : {xs : List ℕ} {start r : Reached} {bytes bytes_now : List ℕ} (g : Grammar) (m : ℕ) (i n : ℕ) →
    (r.number ≡ 0 → ⊥) → i ≤ n → Writes (repeat i g) (m * i) xs start bytes r bytes_now →
    Writes (repeat n g) (m * n) xs start bytes r bytes_now
writes_stopped {xs} {start} {r} {bytes} {bytes_now} g m i n z h p =
    record {
      read = repeat_stops numbers g (here xs start) i n
          (ap (λ (s : Scan). given s.fault) p.read ∙ here_given xs r z) h ∙ p.read;
      spell = λ e. absurd (z e);
      inside = p.inside;
      more = p.more;
      few = omega (arith, mul-le-mul_left m h, p.few);
      by_eight = p.by_eight;
      as_long = p.as_long;
      past = p.past;
    }
