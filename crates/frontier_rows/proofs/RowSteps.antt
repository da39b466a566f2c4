-- The walk that compares two rows place by place. Assumes nothing.
use mathlib.Core.Path.{◌≡◌, refl}
use mathlib.Core.Bool.{true, false, ◌&&◌, and-false}
use mathlib.Core.List.{List, [], ◌∷◌}
use Prim.Native.Nat.{ℕ}
use native.Mathlib.Omega.{arith}
use lib.Dec.{leb, eqb}
use lib.ListN.{length}
use denote.Ref.{Bor}
use borrow.Author.Tests.{eq-eqb, ne_eqb, eqb-true, eqb-false}
use Rattle.std.specs.Prelude.{nat_le}
use Rattle.std.specs.List.{list_all, zip}
use Rattle.base_lists.proofs.Tests.{by_cases, clash}
use Rattle.frontier_rows.specs.Rows.{row_reaches, reaching_row, AsItLies}

pub reaches_by_all : (xs ys : List ℕ) →
    row_reaches xs ys ≡ (eqb (length xs) (length ys) && list_all (λ p. nat_le p.1 p.0) (zip xs ys))
unfolding row_reaches
reaches_by_all [] [] = refl
reaches_by_all [] (y ∷ ys) = rw (ne_eqb 0 (length (y ∷ ys)) (λ e. omega arith)) refl
reaches_by_all (x ∷ xs) [] = rw (ne_eqb (length (x ∷ xs)) 0 (λ e. omega arith)) refl
reaches_by_all (x ∷ xs) (y ∷ ys) =
    rw (reaches_by_all xs ys)
    (by_cases (eqb (length xs) (length ys))
    (λ t. rw (t, eq-eqb (length (x ∷ xs)) (length (y ∷ ys)) (omega (arith, eqb-true (length xs) (length ys) t))))
    (λ t. rw (
      t,
      ne_eqb (length (x ∷ xs)) (length (y ∷ ys)) (λ e. eqb-false (length xs) (length ys) t (omega arith)),
      and-false,
    )))

-- THE THREE ANSWERS
module _ (first second : Bor (List ℕ)) where
  pub first_reaches : row_reaches first.now second.now ≡ true →
      AsItLies first second first × (first.now ≡ reaching_row first.now second.now)
  unfolding reaching_row
  first_reaches e = (
    record {
      is_first = λ t. refl;
      is_second = λ t u. clash (row_reaches first.now second.now) e t;
      is_empty = λ t u. clash (row_reaches first.now second.now) e t;
    },
    rw e,
  )

  pub second_reaches : row_reaches first.now second.now ≡ false → row_reaches second.now first.now ≡ true →
      AsItLies first second second × (second.now ≡ reaching_row first.now second.now)
  unfolding reaching_row
  second_reaches e f = (
    record {
      is_first = λ t. clash (row_reaches first.now second.now) t e;
      is_second = λ t u. refl;
      is_empty = λ t u. clash (row_reaches second.now first.now) f u;
    },
    rw (e, f),
  )

  pub none_reaches : (r : Bor (List ℕ)) → r.ref_ptr ≡ first.ref_ptr → r.now ≡ [] →
      row_reaches first.now second.now ≡ false → row_reaches second.now first.now ≡ false →
      AsItLies first second r × (r.now ≡ reaching_row first.now second.now)
  unfolding reaching_row
  none_reaches r p n e f = (
    record {
      is_first = λ t. clash (row_reaches first.now second.now) t e;
      is_second = λ t u. clash (row_reaches second.now first.now) u f;
      is_empty = λ t u. (p, n);
    },
    rw (e, f) n,
  )
