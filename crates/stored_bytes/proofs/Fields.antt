-- One field of a list, where there is no fault: missing, refused by its check, too wide, or kept and spelled. Assumes
-- nothing.
use mathlib.Core.Path.{◌≡◌, refl, sym, ap, ◌∙◌}
use mathlib.Core.Bool.{true, cond}
use mathlib.Core.List.{List, [], ◌∷◌, ◌++◌}
use Prim.Native.Nat.{ℕ, ◌+◌, ◌≤◌, ◌<◌, ◌^◌}
use native.Mathlib.Nat.{add-zero}
use native.Mathlib.Numerals.{add-one}
use native.Mathlib.Omega.{arith}
use lib.Dec.{eqb}
use lib.ListN.{length, get_or, take, drop, length-drop}
use lib.Seq.{drop-drop, take-suc, get_or-drop}
use borrow.Author.Tests.{lt-ltb, le-ltb, ne_eqb, eqb-true, eqb-false}
use Rattle.base_lists.proofs.Tests.{by_cases}
use Rattle.plan_format.specs.Refusal.{refusal, none_given, given}
use Rattle.plan_format.specs.Grammar.{Check, Grammar, field, numbers, Scan, scan, refused, field_number, read_field}
use Rattle.plan_format.specs.Grammar.{last_got, read_by, spell_field, spell_by}
use Rattle.plan_format.specs.Sections.{limited}
use Rattle.plan_format.proofs.Faults.{read_stays}
use Rattle.plan_format.proofs.Judged.{other_given}
use Rattle.plan_format.proofs.Seams.{last_snoc}
use Rattle.stored_bytes.specs.Writing.{Reached}
use Rattle.stored_bytes.specs.Writing.{fault_of, here, spelling, Writes, NumberPut, WriteLimited}

module _ (w : ℕ) (c : ℕ → ℕ) (rest : List ℕ) (p : ℕ) (got : List ℕ) where
  field_missing : length rest < 1 → read_field numbers w c (scan rest p got none_given) ≡ scan rest p got (refusal 1 p)
  unfolding read_field field_number numbers scan refused given none_given
  field_missing h = rw (lt-ltb (length rest) 1 h)

  field_wrong : (n : ℕ) → 1 ≤ length rest → c (get_or rest 0 0) ≡ n → (n ≡ 0 → ⊥) →
      read_field numbers w c (scan rest p got none_given) ≡ scan rest p got (refusal n p)
  unfolding read_field field_number numbers scan refused given none_given
  field_wrong n h e z = rw (le-ltb (length rest) 1 h, e, ne_eqb n 0 z, ne_eqb n 0 z)

  field_wide : 1 ≤ length rest → c (get_or rest 0 0) ≡ 0 → 256 ^ w ≤ get_or rest 0 0 →
      read_field numbers w c (scan rest p got none_given) ≡ scan rest p got (refusal 4 p)
  unfolding read_field field_number numbers scan refused given none_given
  field_wide h e k = rw (le-ltb (length rest) 1 h, e, le-ltb (get_or rest 0 0) (256 ^ w) k)

  field_right : 1 ≤ length rest → c (get_or rest 0 0) ≡ 0 → get_or rest 0 0 < 256 ^ w →
      read_field numbers w c (scan rest p got none_given) ≡
      scan (drop 1 rest) (p + 1) (got ++ (get_or rest 0 0 ∷ [])) none_given
  unfolding read_field field_number numbers scan refused given none_given
  field_right h e k = rw (le-ltb (length rest) 1 h, e, lt-ltb (get_or rest 0 0) (256 ^ w) k)

-- ---- cursors
abbrev cursor : (number at put : ℕ) → Reached
cursor n a k = record { number = n; at = a; put = k }

pub here_clean : (xs : List ℕ) (c : Reached) → c.number ≡ 0 →
    here xs c ≡ scan (drop c.at xs) c.at (take c.at xs) none_given
unfolding here fault_of
here_clean xs c e =
    ap (λ (n : ℕ). scan (drop c.at xs) c.at (take c.at xs) (cond (eqb n 0) none_given (refusal n c.at))) e

here_fault : (xs : List ℕ) (n a k : ℕ) → (n ≡ 0 → ⊥) →
    here xs (cursor n a k) ≡ scan (drop a xs) a (take a xs) (refusal n a)
unfolding here fault_of
here_fault xs n a k z = rw (ne_eqb n 0 z)

pub fault_number : (c : Reached) → (c.number ≡ 0 → ⊥) → (fault_of c).number ≡ c.number
unfolding fault_of refusal
fault_number c z = rw (ne_eqb c.number 0 z)

pub here_given : (xs : List ℕ) (c : Reached) → (c.number ≡ 0 → ⊥) → given (here xs c).fault ≡ true
unfolding here scan
here_given xs c z = other_given (fault_of c) (λ e. z (sym (fault_number c z) ∙ e))

pub fault_none : (c : Reached) → (fault_of c).number ≡ 0 → c.number ≡ 0
fault_none c e =
    by_cases (eqb c.number 0) (λ t. eqb-true c.number 0 t)
    (λ f. sym (fault_number c (eqb-false c.number 0 f)) ∙ e)

pub fault_clean : (c : Reached) → c.number ≡ 0 → (fault_of c).number ≡ 0
unfolding fault_of none_given
fault_clean c e = ap (λ (n : ℕ). (cond (eqb n 0) none_given (refusal n c.at)).number) e

-- a cursor with a refusal passes through
pub passed : {g : Grammar} {many : ℕ} {xs : List ℕ} {c : Reached} {bytes : List ℕ} → (c.number ≡ 0 → ⊥) →
    c.at ≤ length xs → Writes g many xs c bytes c bytes
unfolding here fault_of
passed {g} {xs = xs} {c} z h =
    record {
      read = read_stays numbers g (here xs c) (here_given xs c z);
      spell = λ e. absurd (z e);
      inside = h;
      more = omega arith;
      few = omega arith;
      by_eight = omega arith;
      as_long = refl;
      past = refl;
    }

read_clean : (w : ℕ) (check : Check) (xs : List ℕ) (c : Reached) → c.number ≡ 0 →
    read_by numbers (field w check) (here xs c) ≡
    read_field numbers w (λ v. check (take c.at xs) v) (scan (drop c.at xs) c.at (take c.at xs) none_given)
unfolding read_by scan
read_clean w check xs c e = ap (λ (s : Scan). read_by numbers (field w check) s) (here_clean xs c e)

pub front_number : (xs : List ℕ) (at : ℕ) → get_or (drop at xs) 0 0 ≡ get_or xs at 0
front_number xs at = get_or-drop at xs 0 0 ∙ ap (λ (k : ℕ). get_or xs k 0) (add-zero at)

front_is : (xs : List ℕ) (at v : ℕ) → v ≡ get_or xs at 0 → v ≡ get_or (drop at xs) 0 0
front_is xs at v d = d ∙ sym (front_number xs at)

some_left : (xs : List ℕ) (at : ℕ) → at < length xs → 1 ≤ length (drop at xs)
some_left xs at l = rw (length-drop at xs) (omega arith)

module _ {w : ℕ} {check : Check} {xs : List ℕ} {c : Reached} {bytes : List ℕ} (clean : c.number ≡ 0)
    (h : c.at ≤ length xs) where
  -- refused, by what the field's number is
  stopped : {n : ℕ} → (n ≡ 0 → ⊥) →
      read_field numbers w (λ v. check (take c.at xs) v)
      (scan (drop c.at xs) c.at (take c.at xs) none_given) ≡
      scan (drop c.at xs) c.at (take c.at xs) (refusal n c.at) →
      Writes (field w check) w xs c bytes (cursor n c.at c.put) bytes
  stopped {n} z e =
      record {
        read = read_clean w check xs c clean ∙ e ∙ sym (here_fault xs n c.at c.put z);
        spell = λ q. absurd (z q);
        inside = h;
        more = omega arith;
        few = omega arith;
        by_eight = omega arith;
        as_long = refl;
        past = refl;
      }

  pub missing : length xs ≤ c.at → Writes (field w check) w xs c bytes (cursor 1 c.at c.put) bytes
  missing l =
      stopped (eqb-false 1 0 refl) (field_missing w
      (λ u. check (take c.at xs) u) (drop c.at xs) c.at (take c.at xs)
      (rw (length-drop c.at xs) (omega arith)))

  module _ (l : c.at < length xs) {v : ℕ} (d : v ≡ get_or xs c.at 0) where
    pub wrong : {n : ℕ} → check (take c.at xs) v ≡ n → (n ≡ 0 → ⊥) →
        Writes (field w check) w xs c bytes (cursor n c.at c.put) bytes
    wrong {n} e z =
        stopped z (field_wrong w (λ u. check (take c.at xs) u) (drop c.at xs) c.at (take c.at xs) n
        (some_left xs c.at l) (rw (← front_is xs c.at v d) e) z)

    pub wide : check (take c.at xs) v ≡ 0 → 256 ^ w ≤ v →
        Writes (field w check) w xs c bytes (cursor 4 c.at c.put) bytes
    wide e k =
        stopped (eqb-false 4 0 refl) (field_wide w
        (λ u. check (take c.at xs) u) (drop c.at xs) c.at (take c.at xs) (some_left xs c.at l)
        (rw (← front_is xs c.at v d) e) (rw (← front_is xs c.at v d) k))

    pub kept : {bytes_now : List ℕ} → w ≤ 8 → check (take c.at xs) v ≡ 0 → v < 256 ^ w →
        NumberPut w bytes c.put v bytes_now → Writes (field w check) w xs c bytes
        (cursor 0 (c.at + 1) (c.put + w)) bytes_now
    unfolding here fault_of spelling spell_by spell_field
    kept {bytes_now} narrow e k q =
        record {
          read =
              read_clean w check xs c clean
              ∙ field_right w (λ u. check (take c.at xs) u) (drop c.at xs) c.at (take c.at xs)
              (some_left xs c.at l) (rw (← front_is xs c.at v d) e) (rw (← front_is xs c.at v d) k)
              ∙ rw (drop-drop 1 c.at xs, ← front_is xs c.at v d, d, add-one c.at, take-suc xs c.at 0 l);
          spell = λ z. rw (drop-drop 1 c.at xs, ← front_is xs c.at v d, q.front);
          inside = omega arith;
          more = omega arith;
          few = omega arith;
          by_eight = omega arith;
          as_long = q.as_long;
          past = q.past;
        }

-- ---- limited fields, whose number the cursor has
module _ {w limit over : ℕ} {xs : List ℕ} {c : Reached} {bytes : List ℕ} where
  pub limited_missing : c.number ≡ 0 → c.at ≤ length xs → length xs ≤ c.at →
      WriteLimited w limit over xs c bytes (cursor 1 c.at c.put) 0 bytes
  limited_missing e h l =
      record {
        writes = missing e h l;
        value_is = λ q. absurd (eqb-false 1 0 refl q);
        value_read = λ q. absurd (eqb-false 1 0 refl q);
        value_below = omega arith;
      }

  module _ (clean : c.number ≡ 0) (h : c.at ≤ length xs) (l : c.at < length xs) {v : ℕ}
      (d : v ≡ get_or xs c.at 0) where
    pub limited_over : (over ≡ 0 → ⊥) → limit ≤ v →
        WriteLimited w limit over xs c bytes (cursor over c.at c.put) 0 bytes
    unfolding limited
    limited_over o m =
        record {
          writes = wrong clean h l d (rw (le-ltb v limit m)) o;
          value_is = λ e. absurd (o e);
          value_read = λ e. absurd (o e);
          value_below = omega arith;
        }

    pub limited_kept : {bytes_now : List ℕ} → w ≤ 8 → v < limit → v < 256 ^ w →
        NumberPut w bytes c.put v bytes_now →
        WriteLimited w limit over xs c bytes (cursor 0 (c.at + 1) (c.put + w)) v bytes_now
    unfolding limited here scan last_got
    limited_kept narrow m k q =
        record {
          writes = kept clean h l d narrow (rw (lt-ltb v limit m)) k q;
          value_is = λ e. rw (add-one c.at, take-suc xs c.at 0 l, ← d) (last_snoc (take c.at xs) v);
          value_read = λ e. sym (d ∙ sym (front_number xs c.at));
          value_below = omega arith;
        }
