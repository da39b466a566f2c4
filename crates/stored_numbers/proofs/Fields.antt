-- One field, read where there is no fault: cut short, refused by its check, or kept; and how far the reading has come.
-- Assumes nothing.
use mathlib.Core.Path.{◌≡◌, refl, sym, ap, ◌∙◌}
use mathlib.Core.Bool.{true, cond}
use mathlib.Core.Logic.{◌⊎◌, inl, inr}
use mathlib.Core.List.{List, [], ◌∷◌, ◌++◌}
use Rattle.std.specs.Prelude.{Result, Ok, Err}
use Prim.Native.Nat.{ℕ, ◌+◌, ◌≤◌, ◌<◌}
use native.Mathlib.Numerals.{add-one}
use native.Mathlib.Omega.{arith}
use lib.Dec.{eqb}
use lib.ListN.{length, take, drop, set, length-drop, length-set}
use lib.Seq.{drop-drop, drop-set-lt, take-suc-set}
use borrow.Author.Tests.{lt-ltb, le-ltb, ne_eqb, eqb-true, eqb-false}
use Rattle.base_lists.proofs.Tests.{by_cases}
use Rattle.plan_format.specs.declared.refusal.Reason.{Reason}
use Rattle.plan_format.specs.declared.refusal.Reason.TheVariants.{CutShort}
use Rattle.plan_format.specs.Told.{number_of}
use Rattle.plan_format.specs.Refusal.{refusal, none_given, given}
use Rattle.plan_format.specs.Grammar.{Check, field, value, bytes, Scan, scan, refused, field_number}
use Rattle.plan_format.specs.Grammar.{read_field, last_got, count_check, read_by}
use Rattle.plan_format.specs.Sections.{limited}
use Rattle.plan_format.proofs.Judged.{other_given}
use Rattle.plan_format.proofs.Seams.{last_snoc}
use Rattle.stored_numbers.specs.declared.reader.Reader.{Reader}
pub use Rattle.stored_numbers.specs.Why.{reason_given}
use Rattle.stored_numbers.specs.Reading.{Reached, fault_of, here, reading, Word, SameLent, ReadsField}
use Rattle.stored_numbers.specs.Reading.{ReadsNumber}

module _ (w : ℕ) (c : ℕ → ℕ) (rest : List ℕ) (p : ℕ) (got : List ℕ) where
  field_cut : length rest < w → read_field bytes w c (scan rest p got none_given) ≡ scan rest p got (refusal 1 p)
  unfolding read_field field_number bytes scan refused given none_given
  field_cut h = rw (lt-ltb (length rest) w h)

  field_wrong : (n : ℕ) → w ≤ length rest → c (value (take w rest)) ≡ n → (n ≡ 0 → ⊥) →
      read_field bytes w c (scan rest p got none_given) ≡ scan rest p got (refusal n p)
  unfolding read_field field_number bytes scan refused given none_given
  field_wrong n h e z = rw (le-ltb (length rest) w h, e, ne_eqb n 0 z, ne_eqb n 0 z)

  field_right : w ≤ length rest → c (value (take w rest)) ≡ 0 →
      read_field bytes w c (scan rest p got none_given) ≡
      scan (drop w rest) (p + w) (got ++ (value (take w rest) ∷ [])) none_given
  unfolding read_field field_number bytes scan refused given none_given
  field_right h e = rw (le-ltb (length rest) w h, e)

-- ---- how far a reading has come
pub here_clean : (bs : List ℕ) (c : Reached) (nums : List ℕ) → c.number ≡ 0 →
    here bs c nums ≡ scan (drop c.at bs) c.at (take c.got nums) none_given
unfolding here fault_of
here_clean bs c nums e =
    ap (λ (n : ℕ). scan (drop c.at bs) c.at (take c.got nums) (cond (eqb n 0) none_given (refusal n c.at)))
    e

pub fault_number : (c : Reached) → (c.number ≡ 0 → ⊥) → (fault_of c).number ≡ c.number
unfolding fault_of refusal
fault_number c z = rw (ne_eqb c.number 0 z)

pub here_given : (bs : List ℕ) (c : Reached) (nums : List ℕ) → (c.number ≡ 0 → ⊥) → given (here bs c nums).fault ≡ true
unfolding here scan
here_given bs c nums z = other_given (fault_of c) (λ e. z (sym (fault_number c z) ∙ e))

pub fault_none : (c : Reached) → (fault_of c).number ≡ 0 → c.number ≡ 0
fault_none c e =
    by_cases (eqb c.number 0) (λ t. eqb-true c.number 0 t)
    (λ f. sym (fault_number c (eqb-false c.number 0 f)) ∙ e)

here_refused : (bs : List ℕ) (e : Reason) (a k : ℕ) (nums : List ℕ) →
    here bs (record { number = number_of e; at = a; got = k }) nums ≡
    scan (drop a bs) a (take k nums) (refusal (number_of e) a)
unfolding here fault_of
here_refused bs e a k nums = rw (ne_eqb (number_of e) 0 (reason_given e))

-- ---- what a field's method has read
read_clean : (w : ℕ) (check : Check) (bs nums : List ℕ) (at got : ℕ) →
    read_by bytes (field w check) (here bs (reading at got) nums) ≡
    read_field bytes w (λ v. check (take got nums) v) (scan (drop at bs) at (take got nums) none_given)
unfolding read_by scan
read_clean w check bs nums at got = ap (λ (s : Scan). read_by bytes (field w check) s)
    (here_clean bs (reading at got) nums refl)

module _ {A : Type 0} {w : ℕ} {check : Check} where
  -- a field that is refused leaves all as it was
  stays : {old new : Reader} (e : Reason) → SameLent old new → new.cursor ≡ old.cursor →
      new.numbers.now ≡ old.numbers.now → old.cursor.at ≤ length old.plan.now →
      read_field bytes w (λ v. check (take old.cursor.got old.numbers.now) v)
      (scan (drop old.cursor.at old.plan.now) old.cursor.at (take old.cursor.got old.numbers.now) none_given) ≡
      scan (drop old.cursor.at old.plan.now) old.cursor.at (take old.cursor.got old.numbers.now)
      (refusal (number_of e) old.cursor.at) → ReadsField {A = A} w check old (Err e) new
  stays {old} {new} e same c n inside read =
      let at : new.cursor.at ≡ old.cursor.at = ap (λ x. x.at) c in
      let got : new.cursor.got ≡ old.cursor.got = ap (λ x. x.got) c in
      record {
        reads = record {
          same = same;
          reads = record {
            read = read_clean w check old.plan.now old.numbers.now old.cursor.at old.cursor.got ∙ read
                ∙ sym (rw (n, at, got) (here_refused old.plan.now e old.cursor.at old.cursor.got old.numbers.now));
            inside = rw at inside;
            more = omega (arith, got);
            few = omega (arith, got);
            as_long = ap length n;
            past = ap (drop new.cursor.got) n;
          };
        };
        one = tt;
      }

  -- cut short
  pub cut : {old : Reader} {r : Result A Reason} {e : Reason} → r ≡ Err e →
      (e ≡ CutShort) × (length old.plan.now < old.cursor.at + w) → old.cursor.at ≤ length old.plan.now →
      ReadsField w check old r old
  cut {old} {r} {e} g (is, short) inside =
      rw (g, is) (stays {old = old} {new = old} CutShort (record { plan = refl; room = refl }) refl refl inside
      (field_cut w (λ v. check (take old.cursor.got old.numbers.now) v) (drop old.cursor.at old.plan.now)
      old.cursor.at (take old.cursor.got old.numbers.now)
      (rw (length-drop old.cursor.at old.plan.now) (omega arith))))

  -- refused by its check
  pub wrong : {old new : Reader} (e : Reason) {v : ℕ} → SameLent old new → new.cursor ≡ old.cursor →
      new.numbers.now ≡ old.numbers.now → Word w old.plan.now old.cursor.at v →
      check (take old.cursor.got old.numbers.now) v ≡ number_of e → ReadsField {A = A} w check old (Err e) new
  wrong {old} {new} e same c n d checked =
      stays {old = old} {new = new} e same c n (omega (arith, d.whole))
      (field_wrong w (λ v. check (take old.cursor.got old.numbers.now) v) (drop old.cursor.at old.plan.now)
      old.cursor.at (take old.cursor.got old.numbers.now) (number_of e)
      (rw (length-drop old.cursor.at old.plan.now) (omega (arith, d.whole)))
      (rw (← d.word) checked) (reason_given e))

  -- kept
  pub kept : {old new : Reader} (x : A) {v : ℕ} → SameLent old new →
      new.cursor ≡ record { at = old.cursor.at + w; got = old.cursor.got + 1 } →
      new.numbers.now ≡ set old.numbers.now old.cursor.got v → Word w old.plan.now old.cursor.at v →
      old.cursor.got + 1 ≤ length old.numbers.now → check (take old.cursor.got old.numbers.now) v ≡ 0 →
      ReadsField w check old (Ok x) new
  unfolding here fault_of
  kept {old} {new} x {v} same c n d room checked =
      let at : new.cursor.at ≡ old.cursor.at + w = ap (λ y. y.at) c in
      let got : new.cursor.got ≡ old.cursor.got + 1 = ap (λ y. y.got) c in
      record {
        reads = record {
          same = same;
          reads = rw (n, at, got) (record {
            read =
                read_clean w check old.plan.now old.numbers.now old.cursor.at old.cursor.got
                ∙ field_right w (λ y. check (take old.cursor.got old.numbers.now) y)
                (drop old.cursor.at old.plan.now) old.cursor.at (take old.cursor.got old.numbers.now)
                (rw (length-drop old.cursor.at old.plan.now) (omega (arith, d.whole)))
                (rw (← d.word) checked)
                ∙ rw (
                  drop-drop w old.cursor.at old.plan.now,
                  ← d.word,
                  add-one old.cursor.got,
                  take-suc-set old.numbers.now old.cursor.got v (omega arith),
                ) refl;
            inside = d.whole;
            more = omega arith;
            few = omega arith;
            as_long = length-set old.numbers.now old.cursor.got v;
            past = drop-set-lt (old.cursor.got + 1) old.numbers.now old.cursor.got v (omega arith);
          });
        };
        one = got;
      }

-- ---- a number that is handed back
module _ {w : ℕ} {check : Check} {most : ℕ} where
  pub cut_number : {old : Reader} {r : Result ℕ Reason} {e : Reason} → r ≡ Err e →
      (e ≡ CutShort) × (length old.plan.now < old.cursor.at + w) → old.cursor.at ≤ length old.plan.now →
      ReadsNumber w check most old r old
  cut_number g short inside = record { field = cut g short inside; number = rw g tt }

  pub wrong_number : {old new : Reader} (e : Reason) {v : ℕ} → SameLent old new → new.cursor ≡ old.cursor →
      new.numbers.now ≡ old.numbers.now → Word w old.plan.now old.cursor.at v →
      check (take old.cursor.got old.numbers.now) v ≡ number_of e → ReadsNumber w check most old (Err e) new
  wrong_number e same c n d checked = record { field = wrong e same c n d checked; number = tt }

  pub kept_number : {old new : Reader} {v : ℕ} → SameLent old new →
      new.cursor ≡ record { at = old.cursor.at + w; got = old.cursor.got + 1 } →
      new.numbers.now ≡ set old.numbers.now old.cursor.got v → Word w old.plan.now old.cursor.at v →
      old.cursor.got + 1 ≤ length old.numbers.now → check (take old.cursor.got old.numbers.now) v ≡ 0 → v ≤ most →
      ReadsNumber w check most old (Ok v) new
  unfolding here scan last_got
  kept_number {old} {new} {v} same c n d room checked m =
      let got : new.cursor.got ≡ old.cursor.got + 1 = ap (λ y. y.got) c in
      record {
        field = kept v same c n d room checked;
        number = (
          rw (n, got) (sym (rw (
            add-one old.cursor.got,
            take-suc-set old.numbers.now old.cursor.got v
                (omega arith),
          ) (last_snoc (take old.cursor.got old.numbers.now) v))),
          m,
        );
      }

-- what a limit and a count's check say of a number
pub over_limit : (limit over v : ℕ) (got : List ℕ) → limit ≤ v → limited limit over got v ≡ over
unfolding limited
over_limit limit over v got m = rw (le-ltb v limit m)

pub below_limit : (limit over v : ℕ) (got : List ℕ) → v < limit → limited limit over got v ≡ 0
unfolding limited
below_limit limit over v got m = rw (lt-ltb v limit m)

module _ (least most v : ℕ) where
  pub count_out : (v < least) ⊎ ((least ≤ v) × (most < v)) → count_check least most v ≡ 2
  unfolding count_check
  count_out (inl m) = rw (lt-ltb v least m)
  count_out (inr (l, m)) = rw (le-ltb v least l, lt-ltb most v m)

  pub count_right : least ≤ v → v ≤ most → count_check least most v ≡ 0
  unfolding count_check
  count_right l m = rw (le-ltb v least l, le-ltb most v m)
