-- The numbers of a well-formed frontier are read back as it, so that what a call hands back can be lent to the next.
-- Assumes nothing.
use mathlib.Core.Path.{◌≡◌, refl, ap, ◌∙◌}
use mathlib.Core.Bool.{Bool, true, false, not, cond}
use mathlib.Core.List.{List, [], ◌∷◌, ◌++◌, append_assoc}
use Prim.Native.Nat.{ℕ, ◌+◌}
use native.Mathlib.Omega.{arith}
use lib.Dec.{ltb, eqb}
use lib.ListN.{length, get_or, take, drop, length-append}
use lib.Seq.{take-append-le, take_at, drop_at, get_or-append-add}
use Rattle.frontier.specs.declared.Frontier.{Frontier}
use Rattle.frontier.specs.declared.Merged.{Merged}
use Rattle.frontier_slots.specs.Entries.{most_entries}
use Rattle.frontier.specs.Frontiers.{well_formed}
use Rattle.frontier.proofs.Pack.{formed}
use Rattle.c_told.specs.Told.{told_of}
use Rattle.c_lent.specs.Lent.{epochs_at, length_at, taint_at, over_long, frontier_of, list_of, merged_of}

-- the numbers after the two rows
module _ (axes epochs : List ℕ) (la : length axes ≡ most_entries) (le : length epochs ≡ most_entries) (len : ℕ)
    (t : Bool) where
  abbrev ns : List ℕ
  ns = axes ++ epochs ++ (len ∷ cond t 1 0 ∷ [])

  after : (k : ℕ) → get_or ns (length_at + k) 0 ≡ get_or (len ∷ cond t 1 0 ∷ []) k 0
  after k =
      let e : length_at + k ≡ length (axes ++ epochs) + k = omega (arith, la, le, length-append axes epochs) in
      ap (λ (i : ℕ). get_or ns i 0) e ∙ get_or-append-add (axes ++ epochs) (len ∷ cond t 1 0 ∷ []) k 0

  length_back : (b : Bool) → cond (ltb 1 (cond b 1 0)) over_long len ≡ len
  length_back true = refl
  length_back false = refl

  taint_back : (b : Bool) → not (eqb (cond b 1 0) 0) ≡ b
  taint_back true = refl
  taint_back false = refl

  axes_back : take most_entries ns ≡ axes
  axes_back = take-append-le most_entries (axes ++ epochs) _ (omega (arith, la, le, length-append axes epochs))
      ∙ take_at axes epochs most_entries la

  epochs_back : take most_entries (drop epochs_at ns) ≡ epochs
  epochs_back =
      ap (λ (l : List ℕ). take most_entries (drop epochs_at l)) (append_assoc axes epochs _)
      ∙ ap (λ (l : List ℕ). take most_entries l) (drop_at axes _ most_entries la) ∙ take_at epochs _ most_entries le

  numbers_back : frontier_of ns ≡ record { axes = axes; epochs = epochs; len = len; tainted = t }
  unfolding frontier_of
  numbers_back =
      let taint : get_or ns taint_at 0 ≡ cond t 1 0 = after 1 in
      λ i. record {
        axes = axes_back i;
        epochs = epochs_back i;
        len = (ap (λ (k : ℕ). cond (ltb 1 k) over_long (get_or ns length_at 0)) taint
            ∙ ap (λ (k : ℕ). cond (ltb 1 (cond t 1 0)) over_long k) (after 0) ∙ length_back t) i;
        tainted = (ap (λ (k : ℕ). not (eqb k 0)) taint ∙ taint_back t) i;
      }

pub frontier_back : (f : Frontier) → well_formed f ≡ true → frontier_of (list_of f) ≡ f
unfolding list_of
frontier_back f e =
    numbers_back f.axes f.epochs (formed f e).sixteen_axes (formed f e).sixteen_epochs f.len f.tainted

-- what was told and stored of a merge is read as that merge
pub merged_back : (m : Merged) (told frontier : List ℕ) → (told_of told).number ≡ m.number →
    frontier ≡ list_of m.frontier →
    well_formed m.frontier ≡ true → merged_of told frontier ≡ m
unfolding merged_of
merged_back m told frontier en ef w =
    λ i. record { number = en i; frontier = (ap frontier_of ef ∙ frontier_back m.frontier w) i }
