-- Reading by a grammar, from any source: a thing repeated, a count and its things, an operation's lists of points.
-- Assumes nothing.
use mathlib.Core.Path.{◌≡◌, refl, sym, ap, ◌∙◌}
use mathlib.Core.Bool.{true}
use Prim.Native.Nat.{ℕ, zero, suc, ◌+◌, ◌≤◌}
use native.Mathlib.Numerals.{add-one}
use native.Mathlib.Omega.{arith}
use lib.Dec.{eqb}
use borrow.Author.Tests.{eqb-true, eqb-false}
use Rattle.base_lists.proofs.Tests.{by_cases}
use Rattle.plan_format.specs.Sizes.{most_waits, most_signals, least_wait, least_signal}
use Rattle.plan_format.specs.Refusal.{given}
use Rattle.plan_format.specs.Grammar.{Grammar, counted, Source, Scan, field_number, read_field, last_got, times}
use Rattle.plan_format.specs.Grammar.{count_check, read_by}
use Rattle.plan_format.specs.Sections.{repeat, most_in, least_in}
use Rattle.plan_format.proofs.Judged.{not_given_zero}
use Rattle.plan_format.proofs.Faults.{read_stays}

pub times_last : {A : Type 0} (k : ℕ) (f : A → A) (s : A) → times k f (f s) ≡ f (times k f s)
unfolding times
times_last zero f s = refl
times_last (suc k) f s = times_last k f (f s)

module _ (S : Source) where
  pub read_repeat : (n : ℕ) (g : Grammar) (s : Scan) → read_by S (repeat n g) s ≡ times n (λ u. read_by S g u) s
  unfolding read_by repeat times
  read_repeat zero g s = refl
  read_repeat (suc n) g s = ap (λ (u : Scan). read_by S g u) (read_repeat n g s)
      ∙ sym (times_last n (λ u. read_by S g u) s)

  -- a count, and so many of a thing
  pub read_counted : (l m w n : ℕ) (g : Grammar) (s t : Scan) → read_field S w (λ v. count_check l m v) s ≡ t →
      (t.fault.number ≡ 0 → last_got t ≡ n) → read_by S (counted l m w g) s ≡ read_by S (repeat n g) t
  unfolding read_by
  read_counted l m w n g s t e h =
      rw e
      (by_cases (given t.fault) (λ y. rw y (sym (read_stays S (repeat n g) t y)))
      (λ z. rw (z, h (not_given_zero t.fault z)) (sym (read_repeat n g t))))

  -- a thing that stopped at a fault has stopped for good
  pub repeat_stops : (g : Grammar) (s : Scan) (i n : ℕ) → given (read_by S (repeat i g) s).fault ≡ true → i ≤ n →
      read_by S (repeat n g) s ≡ read_by S (repeat i g) s
  unfolding read_by repeat
  repeat_stops g s i zero e h = ap (λ (k : ℕ). read_by S (repeat k g) s) (let z : 0 ≡ i = omega arith in z)
  repeat_stops g s i (suc n) e h =
      by_cases (eqb i (suc n)) (λ t. ap (λ (k : ℕ). read_by S (repeat k g) s) (sym (eqb-true i (suc n) t)))
      (λ f. rw (repeat_stops g s i n e (omega (arith, eqb-false i (suc n) f)))
      (read_stays S g (read_by S (repeat i g) s) e))

  -- a field's check counts only at its number
  pub field_same : (w : ℕ) (c d : ℕ → ℕ) (s : Scan) → c (S.front w s.rest) ≡ d (S.front w s.rest) →
      read_field S w c s ≡ read_field S w d s
  unfolding read_field field_number
  field_same w c d s e = rw e

-- ---- the lists of points of an operation
-- the waits come first, and after them the signals
pub waits_first : (most_waits ≡ most_in 0) × (least_wait ≡ least_in 0)
unfolding most_in least_in
waits_first = (refl, refl)

pub signals_later : (i : ℕ) → (most_signals ≡ most_in (i + 1)) × (least_signal ≡ least_in (i + 1))
unfolding most_in least_in
signals_later i = rw (add-one i) (refl, refl)
