-- Rows of numbers stored into a list. Assumes nothing.
use mathlib.Core.Path.{◌≡◌, refl, sym, ap, ◌∙◌}
use mathlib.Core.List.{List, [], ◌∷◌, ◌++◌, append-nil}
use Prim.Native.Nat.{ℕ, ◌+◌, ◌<◌}
use native.Mathlib.Numerals.{add-one}
use native.Mathlib.Omega.{arith}
use lib.ListN.{length, get_or, set, take, drop, length-append, drop_of_length-le}
use lib.Seq.{sets, sets-eq, take-suc, length-take-le}
use Rattle.base_lists.proofs.Stores.{sets_append}

module _ (l : List ℕ) (at : ℕ) (row : List ℕ) where
  pub store_none : l ≡ sets l at (take 0 row)
  store_none = none row
    where
      none : (xs : List ℕ) → l ≡ sets l at (take 0 xs)
      none [] = refl
      none (x ∷ xs) = refl

  pub store_more : (i : ℕ) (now : List ℕ) → i < length row → now ≡ sets l at (take i row) →
      set now (at + i) (get_or row i 0) ≡ sets l at (take (i + 1) row)
  store_more i now b e =
      ap (λ (xs : List ℕ). set xs (at + i) (get_or row i 0)) e
      ∙ ap (λ (k : ℕ). set (sets l at (take i row)) (at + k) (get_or row i 0))
      (sym (length-take-le i row (omega arith)))
      ∙ sets_append (take i row) l (get_or row i 0 ∷ []) at
      ∙ ap (λ (xs : List ℕ). sets l at xs) (sym (take-suc row i 0 b) ∙ ap (λ (k : ℕ). take k row) (sym (add-one i)))

-- two rows and what comes after them, over a whole list
pub stored_whole : (l xs ys zs : List ℕ) (n m : ℕ) → length xs ≡ n → length xs + length ys ≡ m →
    length l ≡ length xs + length ys + length zs →
    sets (sets (sets l 0 xs) n ys) m zs ≡ xs ++ ys ++ zs
stored_whole l xs ys zs n m en em el =
    let all = length-append (xs ++ ys) zs in
    let two = length-append xs ys in
    let a : n ≡ 0 + length xs = omega (arith, en) in
    let b : m ≡ 0 + length (xs ++ ys) = omega (arith, em, two) in
    ap (λ (k : ℕ). sets (sets (sets l 0 xs) k ys) m zs) a
    ∙ ap (λ (w : List ℕ). sets w m zs) (sets_append xs l ys 0)
    ∙ ap (λ (k : ℕ). sets (sets l 0 (xs ++ ys)) k zs) b
    ∙ sets_append (xs ++ ys) l zs 0
    ∙ whole (xs ++ ys ++ zs) (omega (arith, el, all, two))
  where
    none_taken : (ws : List ℕ) → take 0 ws ≡ []
    none_taken [] = refl
    none_taken (w ∷ ws) = refl

    whole : (vs : List ℕ) → length l ≡ length vs → sets l 0 vs ≡ vs
    whole vs e =
        sets-eq vs l 0 (omega (arith, e)) ∙ ap (λ (ws : List ℕ). ws ++ vs ++ drop (0 + length vs) l) (none_taken l)
        ∙ ap (λ (ws : List ℕ). vs ++ ws) (drop_of_length-le l {i = 0 + length vs} (omega (arith, e))) ∙ append-nil vs
