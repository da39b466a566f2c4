-- After a fault nothing is read: a reading that ends without a fault began without one. Assumes nothing.
use mathlib.Core.Path.{◌≡◌, refl, sym, ap, ◌∙◌}
use mathlib.Core.Bool.{true}
use mathlib.Core.List.{[], ◌∷◌}
use Prim.Native.Nat.{ℕ, zero, suc}
use Rattle.base_lists.proofs.Tests.{by_cases, clash}
use Rattle.plan_format.specs.Refusal.{refusal, given}
use Rattle.plan_format.specs.Grammar.{Grammar, field, seq, counted, nothing, Source, bytes, Scan, scan}
use Rattle.plan_format.specs.Grammar.{read_field, times, count_check, read_by, ended}
use Rattle.plan_format.proofs.Judged.{zero_not_given, not_given_zero}

-- of two faults the first is told
first_told : read_field bytes 1 (λ _. 4) (scan (9 ∷ []) 6 [] (refusal 2 3)) ≡ scan (9 ∷ []) 6 [] (refusal 2 3)
unfolding read_field scan given refusal
first_told = refl

pub times_stays {ℓ} : {A : Type ℓ} (k : ℕ) (f : A → A) (a : A) → f a ≡ a → times k f a ≡ a
unfolding times
times_stays zero f a e = refl
times_stays (suc k) f a e = ap (λ z. times k f z) e ∙ times_stays k f a e

pub ended_stays : (s : Scan) → given s.fault ≡ true → ended s ≡ s
unfolding ended
ended_stays s e = rw e

module _ (S : Source) where
  pub field_stays : (w : ℕ) (c : ℕ → ℕ) (s : Scan) → given s.fault ≡ true → read_field S w c s ≡ s
  unfolding read_field
  field_stays w c s e = rw e

  pub read_stays : (g : Grammar) (s : Scan) → given s.fault ≡ true → read_by S g s ≡ s
  unfolding read_by
  read_stays (field w c) s e = field_stays w (λ v. c s.got v) s e
  read_stays (seq g h) s e = ap (λ t. read_by S h t) (read_stays g s e) ∙ read_stays h s e
  read_stays (counted l m w g) s e = rw (field_stays w (λ v. count_check l m v) s e, e)
  read_stays nothing s e = refl

-- what leaves a fault as it is and ends without one began without one
pub began : (f : Scan → Scan) (s : Scan) → (given s.fault ≡ true → f s ≡ s) → (f s).fault.number ≡ 0 →
    s.fault.number ≡ 0
began f s h e =
    by_cases (given s.fault)
    (λ t. clash (given s.fault) t (zero_not_given s.fault (ap (λ z. z.fault.number) (sym (h t)) ∙ e)))
    (λ n. not_given_zero s.fault n)

module _ (S : Source) where
  pub field_began : (w : ℕ) (c : ℕ → ℕ) (s : Scan) → (read_field S w c s).fault.number ≡ 0 → s.fault.number ≡ 0
  field_began w c s e = began (λ t. read_field S w c t) s (field_stays S w c s) e

  pub read_began : (g : Grammar) (s : Scan) → (read_by S g s).fault.number ≡ 0 → s.fault.number ≡ 0
  read_began g s e = began (λ t. read_by S g t) s (read_stays S g s) e

  pub times_began : (k : ℕ) (g : Grammar) (s : Scan) → (times k (λ t. read_by S g t) s).fault.number ≡ 0 →
      s.fault.number ≡ 0
  times_began k g s e =
      began (λ t. times k (λ u. read_by S g u) t) s (λ t. times_stays k (λ u. read_by S g u) s (read_stays S g s t)) e

pub ended_began : (s : Scan) → (ended s).fault.number ≡ 0 → s.fault.number ≡ 0
ended_began s e = began ended s (ended_stays s) e
