-- The table of last values with zeros for the first semaphores. Assumes nothing.
use mathlib.Core.Path.{◌≡◌, refl, sym, ap, ◌∙◌}
use mathlib.Core.List.{List, ◌++◌}
use Prim.Native.Nat.{ℕ, zero, suc, ◌+◌, ◌<◌, min}
use native.Mathlib.Nat.{not-suc-le-zero}
use native.Mathlib.Omega.{arith}
use lib.Dec.{ltb, eqb}
use lib.ListN.{length, get_or, set, drop, replicate, length-set, get_or-eq_default}
use Rattle.std.proofs.lemmas.List.{set_past}
use Rattle.std.proofs.lemmas.List.Edits.{fill_more}
use lib.Seq.{get_or-set_same, get_or-set_other}
use borrow.Author.Tests.{ltb-true, ltb-false, eqb-true, eqb-false}
use Rattle.base_lists.proofs.Tests.{by_cases}
use Rattle.check_signals.specs.Walks.{cleared}

pub cleared_long : (n : ℕ) (last : List ℕ) → length (cleared n last) ≡ length last
unfolding cleared
cleared_long zero last = refl
cleared_long (suc n) last = length-set (cleared n last) n 0 ∙ cleared_long n last

pub cleared_at : (n : ℕ) (last : List ℕ) (s : ℕ) → s < n → get_or (cleared n last) s 0 ≡ 0
unfolding cleared
cleared_at zero last s l = absurd (not-suc-le-zero l)
cleared_at (suc n) last s l =
    by_cases (eqb s n)
    (λ t. rw (eqb-true s n t) (zeroed (cleared n last) n))
    (λ f. let ne = eqb-false s n f in
    get_or-set_other (cleared n last) n s 0 0 ne ∙ cleared_at n last s (omega (arith, ne)))
  where
    zeroed : (xs : List ℕ) (n : ℕ) → get_or (set xs n 0) n 0 ≡ 0
    zeroed xs n =
        by_cases (ltb n (length xs)) (λ t. get_or-set_same xs n 0 0 (ltb-true n (length xs) t))
        (λ f. get_or-eq_default (set xs n 0) 0 {n = n} (omega (arith, length-set xs n 0, ltb-false n (length xs) f)))

-- zeros in front, as many as there are places
pub cleared_filled : (n : ℕ) (last : List ℕ) →
    replicate (min n (length last)) 0 ++ drop (min n (length last)) last ≡ cleared n last
unfolding cleared
cleared_filled zero last = let e : min 0 (length last) ≡ 0 = omega arith in rw e refl
cleared_filled (suc n) last =
    by_cases (ltb n (length last))
    (λ t. let l = ltb-true n (length last) t in
    let e : min (suc n) (length last) ≡ n + 1 = omega arith in
    let f : min n (length last) ≡ n = omega arith in
    rw e (sym (fill_more n 0 last l) ∙ ap (λ (xs : List ℕ). set xs n 0) (rw f at (cleared_filled n last))))
    (λ t. let l = ltb-false n (length last) t in
    let e : min (suc n) (length last) ≡ length last = omega arith in
    let f : min n (length last) ≡ length last = omega arith in
    rw e ((rw f at (cleared_filled n last))
    ∙ sym (set_past (cleared n last) n 0 (omega (arith, cleared_long n last)))))
