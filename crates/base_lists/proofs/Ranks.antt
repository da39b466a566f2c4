-- The rank of a number that passes a test: how many below it pass. Assumes nothing.
use mathlib.Core.Path.{◌≡◌, refl}
use mathlib.Core.Bool.{Bool, true, cond}
use Prim.Native.Nat.{ℕ, zero, suc, ◌+◌, ◌<◌}
use native.Mathlib.Nat.{not-suc-le-zero, le_refl}
use native.Mathlib.Omega.{arith}
use lib.Dec.{eqb}
use borrow.Author.Tests.{eqb-true, eqb-false}
use Rattle.base_lists.specs.Lists.{tally}
use Rattle.base_lists.proofs.Tests.{by_cases}
use Rattle.base_lists.proofs.Tallies.{tally_further}

-- a count in two parts
pub tally_parts : (n : ℕ) (f g h : ℕ → Bool) → ((i : ℕ) → cond (h i) 1 0 ≡ cond (f i) 1 0 + cond (g i) 1 0) →
    tally n h ≡ tally n f + tally n g
unfolding tally
tally_parts zero f g h e = refl
tally_parts (suc n) f g h e = omega (arith, e n, tally_parts n f g h e)

-- ranks rise
pub rank_under : (k n : ℕ) (f : ℕ → Bool) → k < n → f k ≡ true → tally k f < tally n f
unfolding tally
rank_under k n f l t =
    let one : tally (suc k) f ≡ 1 + tally k f = rw t in omega (arith, tally_further (suc k) n f l)

-- each rank is that of some number
pub record Ranked (n : ℕ) (f : ℕ → Bool) (r k : ℕ) : Type 0 where
  pub inside : k < n
  pub passes : f k ≡ true
  pub rank : tally k f ≡ r

rank_more : (n : ℕ) (f : ℕ → Bool) (r : ℕ) → (k : ℕ) × Ranked n f r k → (k : ℕ) × Ranked (suc n) f r k
rank_more n f r w = (w.0, record { inside = omega (arith, w.1.inside); passes = w.1.passes; rank = w.1.rank })

pub with_rank : (n : ℕ) (f : ℕ → Bool) (r : ℕ) → r < tally n f → (k : ℕ) × Ranked n f r k
unfolding tally
with_rank zero f r l = absurd (not-suc-le-zero l)
with_rank (suc n) f r l =
    by_cases (f n)
    (λ t. let l' : r < 1 + tally n f = rw t at l in
    by_cases (eqb (tally n f) r)
    (λ e. (n, record { inside = le_refl (suc n); passes = t; rank = eqb-true (tally n f) r e }))
    (λ e. rank_more n f r (with_rank n f r (omega (arith, eqb-false (tally n f) r e)))))
    (λ t. let l' : r < 0 + tally n f = rw t at l in rank_more n f r (with_rank n f r (omega arith)))
