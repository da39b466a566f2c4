-- A number at the seam of two lists, what comes after it, and a number at the end. Assumes nothing.
use mathlib.Core.Path.{◌≡◌, sym, ap, ◌∙◌}
use mathlib.Core.List.{List, [], ◌∷◌, ◌++◌}
use Prim.Native.Nat.{ℕ, suc, ◌+◌, ◌-◌}
use native.Mathlib.Omega.{arith}
use lib.ListN.{length, get_or, drop, length-append}
use lib.Seq.{append_snoc, get_or_at, drop_at}

pub at_seam : (xs front back : List ℕ) (y n : ℕ) → xs ≡ front ++ (y ∷ back) → length front ≡ n → get_or xs n 0 ≡ y
at_seam xs front back y n e l = ap (λ z. get_or z n 0) e ∙ get_or_at front y back 0 n l

pub after_seam : (xs front back : List ℕ) (y n : ℕ) → xs ≡ front ++ (y ∷ back) → suc (length front) ≡ n →
    drop n xs ≡ back
after_seam xs front back y n e l = ap (λ z. drop n z) (e ∙ sym (append_snoc front y back))
    ∙ drop_at (front ++ (y ∷ [])) back n (rw length-append (omega arith))

pub last_snoc : (xs : List ℕ) (v : ℕ) → get_or (xs ++ (v ∷ [])) (length (xs ++ (v ∷ [])) - 1) 0 ≡ v
last_snoc xs v = rw length-append (get_or_at xs v [] 0 (length xs + 1 - 1) (omega arith))
