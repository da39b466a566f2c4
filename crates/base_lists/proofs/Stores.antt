-- Runs of stores into a list, and lists tabulated from what another list holds. Assumes nothing.
use mathlib.Core.Path.{◌≡◌, refl, sym, ap, ◌∙◌}
use mathlib.Core.List.{List, [], ◌∷◌, ◌++◌, map}
use Prim.Native.Nat.{ℕ, suc, ◌+◌, ◌≤◌, ◌<◌}
use native.Mathlib.Nat.{zero-add}
use native.Mathlib.Omega.{arith}
use lib.ListN.{length, get_or, set, drop, get_or-append, length-map, get_or-map}
use lib.Seq.{sets, sets-eq, ext_get_or}
use Rattle.base_lists.specs.Lists.{tabulate_from}
use Rattle.base_lists.proofs.Tables.{tabulate_length, tabulate_at}

pub sets_append : {A : Type 0} (xs l ys : List A) (i : ℕ) → sets (sets l i xs) (i + length xs) ys ≡ sets l i (xs ++ ys)
sets_append [] l ys i = let e : i + 0 ≡ i = omega arith in rw e
sets_append (x ∷ xs) l ys i = let e : i + suc (length xs) ≡ suc i + length xs = omega arith in
    rw e (sets_append xs (set l i x) ys (suc i))

-- what is stored from the front on is there
pub sets_at : {A : Type 0} (l xs : List A) (k : ℕ) (d : A) → length xs ≤ length l → k < length xs →
    get_or (sets l 0 xs) k d ≡ get_or xs k d
sets_at l xs k d h b =
    ap (λ (z : List _). get_or z k d) (sets-eq xs l 0 (omega arith)) ∙ get_or-append xs (drop (0 + length xs) l) d k b

pub map_append : {A B : Type 0} (h : A → B) (xs ys : List A) → map h (xs ++ ys) ≡ map h xs ++ map h ys
map_append h [] ys = refl
map_append h (x ∷ xs) ys = ap (λ (z : List _). h x ∷ z) (map_append h xs ys)

pub tabulate_map : {A : Type 0} (f : ℕ → ℕ) (h : A → ℕ) (d : A) (many : ℕ) (ys : List A) → length ys ≡ many →
    ((j : ℕ) → j < many → f j ≡ h (get_or ys j d)) →
    tabulate_from many 0 f ≡ map h ys
tabulate_map f h d many ys long same =
    let size = tabulate_length f many 0 in
    ext_get_or (h d) (tabulate_from many 0 f) (map h ys) (size ∙ sym long ∙ sym (length-map ys h))
    (λ j l. tabulate_at f many 0 j (h d) (omega (arith, size)) ∙ ap f (zero-add j) ∙ same j (omega (arith, size))
    ∙ sym (get_or-map h ys j d))
