-- Refusals: given or not, and the first of two. Assumes nothing.
use mathlib.Core.Path.{◌≡◌}
use mathlib.Core.Bool.{true, false}
use Prim.Native.Nat.{ℕ}
use native.Mathlib.Omega.{arith}
use lib.Dec.{eqb}
use borrow.Author.Tests.{eqb-true, eqb-false, eq-eqb, ne_eqb}
use Rattle.base_lists.proofs.Tests.{by_cases}
use Rattle.plan_format.specs.Refusal.{Refusal, refusal, given, or_refusal}

pub zero_not_given : (f : Refusal) → f.number ≡ 0 → given f ≡ false
unfolding given
zero_not_given f e = rw (eq-eqb f.number 0 e)

pub other_given : (f : Refusal) → (f.number ≡ 0 → ⊥) → given f ≡ true
unfolding given
other_given f h = rw (ne_eqb f.number 0 h)

pub not_given_zero : (f : Refusal) → given f ≡ false → f.number ≡ 0
not_given_zero f e =
    by_cases (eqb f.number 0) (λ t. eqb-true f.number 0 t)
    (λ n. absurd (never e (other_given f (eqb-false f.number 0 n))))
  where
    never : given f ≡ false → given f ≡ true → ⊥
    never a b = let z : ◌≡◌ {A = ℕ} 0 1 = cc in omega arith

module _ (a b : Refusal) where
  pub or_else_first : given a ≡ true → or_refusal a b ≡ a
  unfolding or_refusal
  or_else_first e = rw e

  pub or_else_second : a.number ≡ 0 → or_refusal a b ≡ b
  unfolding or_refusal
  or_else_second e = rw (zero_not_given a e)

  pub or_else_none : (or_refusal a b).number ≡ 0 → (a.number ≡ 0) × (b.number ≡ 0)
  or_else_none e =
      by_cases (given a) (λ t. let z : a.number ≡ 0 = rw (or_else_first t) at e in absurd
      (let y : ◌≡◌ {A = ℕ} 0 1 = cc (zero_not_given a z) in omega arith))
      (λ f. let z = not_given_zero a f in (z, rw (or_else_second z) at e))

-- a refusal by some number
pub refusal_given : (n p : ℕ) → (n ≡ 0 → ⊥) → given (refusal n p) ≡ true
unfolding refusal
refusal_given n p h = other_given (refusal n p) h
