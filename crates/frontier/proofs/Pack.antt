-- A frontier is its entries and its taint: packing the entries of a well-formed frontier gives it back, and a packed
-- list gives its entries. Assumes nothing.
use mathlib.Core.Path.{◌≡◌, refl, sym, ap, ap₂, ◌∙◌}
use mathlib.Core.Bool.{Bool, true}
use mathlib.Core.List.{List, [], ◌∷◌, ◌++◌, map}
use Prim.Native.Nat.{ℕ, zero, suc, ◌-◌, ◌≤◌}
use native.Mathlib.Nat.{le_of_suc-le-suc, not-suc-le-zero}
use native.Mathlib.Omega.{arith}
use lib.Dec.{eqb}
use lib.ListN.{length, get_or, take, drop, replicate, length-append, length-replicate, length-map, length-drop}
use lib.ListN.{take-append-drop}
use lib.Seq.{drop_at}
use borrow.Author.Tests.{eqb-true}
use Rattle.base_lists.specs.Lists.{tabulate_from}
use Rattle.base_lists.proofs.Tests.{and_left, and_right}
use Rattle.frontier.specs.declared.Frontier.{Frontier}
use Rattle.frontier_slots.specs.declared.Entry.{Entry}
use Rattle.frontier_slots.specs.Entries.{most_entries, rising_from}
use Rattle.frontier_slots.specs.Slots.{slot, slots, all_zero}
use Rattle.frontier.specs.Frontiers.{entries, well_formed, pack}
use Rattle.frontier_slots.specs.Slots.{AllSlots}
use Rattle.frontier_slots.proofs.Form.{slots_have, slots_well}
use Rattle.frontier.proofs.Sorted.{Sorted, sorted, rising}
use Rattle.frontier.proofs.Slots.{tabulate_shift, slots_length}

-- ROWS
tabulate_map : (f : Entry → ℕ) (n i : ℕ) (g : ℕ → Entry) →
    map f (tabulate_from n i g) ≡ tabulate_from n i (λ k. f (g k))
unfolding tabulate_from
tabulate_map f zero i g = refl
tabulate_map f (suc n) i g = ap {B = List ℕ} (λ l. f (g i) ∷ l) (tabulate_map f n (suc i) g)

tabulate_row : (n : ℕ) (row : List ℕ) → n ≤ length row → tabulate_from n 0 (λ k. get_or row k 0) ≡ take n row
unfolding tabulate_from
tabulate_row zero row h = refl
tabulate_row (suc n) [] h = absurd (not-suc-le-zero h)
tabulate_row (suc n) (x ∷ row) h =
    ap {B = List ℕ}
    (λ l. x ∷ l) (tabulate_shift n 0 (λ k. get_or (x ∷ row) k 0) ∙ tabulate_row n row (le_of_suc-le-suc h))

pub zeros : (row : List ℕ) → all_zero row ≡ true → row ≡ replicate (length row) 0
zeros [] e = refl
zeros (x ∷ row) e =
    ap₂ {C = List ℕ} (λ y l. y ∷ l) (eqb-true x 0 (and_left (eqb x 0) (all_zero row) e))
    (zeros row (and_right (eqb x 0) (all_zero row) e))

pub all_zero_replicate : (n : ℕ) → all_zero (replicate n 0) ≡ true
all_zero_replicate zero = refl
all_zero_replicate (suc n) = all_zero_replicate n

row_split : (n : ℕ) (row : List ℕ) → length row ≡ most_entries → all_zero (drop n row) ≡ true →
    row ≡ take n row ++ replicate (most_entries - n) 0
row_split n row l z =
    sym (take-append-drop n row)
    ∙ ap (λ t. take n row ++ t) (zeros (drop n row) z ∙ ap (λ k. replicate k 0) (length-drop n row ∙ ap (λ k. k - n) l))

-- sixteen slots, zero past the length, are packed entries
pub repack : (axes epochs : List ℕ) (n : ℕ) (t : Bool) → n ≤ most_entries → length axes ≡ most_entries →
    length epochs ≡ most_entries → all_zero (drop n axes) ≡ true → all_zero (drop n epochs) ≡ true →
    record { axes = axes; epochs = epochs; len = n; tainted = t } ≡ pack (slots axes epochs n 0) t
unfolding pack slots slot
repack axes epochs n t h la le za ze =
    λ i. record {
      axes = row_of axes (λ e. e.axis) la za (tabulate_map (λ e. e.axis) n 0 (slot axes epochs)) i;
      epochs = row_of epochs (λ e. e.epoch) le ze (tabulate_map (λ e. e.epoch) n 0 (slot axes epochs)) i;
      len = sym (slots_length axes epochs n 0) i;
      tainted = t;
    }
  where
    row_of : (row : List ℕ) (f : Entry → ℕ) → length row ≡ most_entries → all_zero (drop n row) ≡ true →
        map f (tabulate_from n 0 (slot axes epochs)) ≡ tabulate_from n 0 (λ k. get_or row k 0) →
        row ≡ map f (tabulate_from n 0 (slot axes epochs)) ++ replicate
        (most_entries - length (tabulate_from n 0 (slot axes epochs))) 0
    row_of row f l z e =
        row_split n row l z ∙ ap₂ {C = List ℕ} (λ front k. front ++ replicate (most_entries - k) 0)
        (sym (e ∙ tabulate_row n row (omega arith))) (sym (slots_length axes epochs n 0))

-- what a well-formed frontier has
pub record Formed (f : Frontier) : Type 0 where
  pub short : f.len ≤ most_entries
  pub rises : rising_from 0 (entries f) ≡ true
  pub sixteen_axes : length f.axes ≡ most_entries
  pub sixteen_epochs : length f.epochs ≡ most_entries
  pub zero_axes : all_zero (drop f.len f.axes) ≡ true
  pub zero_epochs : all_zero (drop f.len f.epochs) ≡ true

pub formed : (f : Frontier) → well_formed f ≡ true → Formed f
formed f e =
    let w = slots_have f.axes f.epochs f.len e in
    record {
      short = w.short;
      rises = unfold entries in w.rises;
      sixteen_axes = w.sixteen_axes;
      sixteen_epochs = w.sixteen_epochs;
      zero_axes = w.zero_axes;
      zero_epochs = w.zero_epochs;
    }

pub well : (f : Frontier) → Formed f → well_formed f ≡ true
well f w = slots_well f.axes f.epochs f.len (record {
  short = w.short;
  rises = unfold entries in w.rises;
  sixteen_axes = w.sixteen_axes;
  sixteen_epochs = w.sixteen_epochs;
  zero_axes = w.zero_axes;
  zero_epochs = w.zero_epochs;
})

pub pack_entries : (f : Frontier) → well_formed f ≡ true → f ≡ pack (entries f) f.tainted
unfolding entries
pack_entries f e =
    let w = formed f e in
    repack f.axes f.epochs f.len f.tainted w.short w.sixteen_axes w.sixteen_epochs w.zero_axes
    w.zero_epochs

pub sorted_entries : (f : Frontier) → well_formed f ≡ true → Sorted 0 (entries f)
sorted_entries f e = sorted 0 (entries f) (formed f e).rises

-- PACKED LISTS
unpacked : (xs : List Entry) (ps qs : List ℕ) →
    slots (map (λ e. e.axis) xs ++ ps) (map (λ e. e.epoch) xs ++ qs) (length xs) 0 ≡ xs
unfolding slots slot tabulate_from
unpacked [] ps qs = refl
unpacked (x ∷ xs) ps qs =
    ap {B = List Entry} (λ l. x ∷ l)
    (tabulate_shift (length xs) 0 (slot (map (λ e. e.axis) (x ∷ xs) ++ ps) (map (λ e. e.epoch) (x ∷ xs) ++ qs))
    ∙ unpacked xs ps qs)

pub entries_pack : (xs : List Entry) (t : Bool) → entries (pack xs t) ≡ xs
unfolding entries pack
entries_pack xs t = unpacked xs (replicate (most_entries - length xs) 0) (replicate (most_entries - length xs) 0)

pub well_formed_pack : (xs : List Entry) (t : Bool) → Sorted 0 xs → length xs ≤ most_entries →
    well_formed (pack xs t) ≡ true
unfolding pack
well_formed_pack xs t s h = well (pack xs t) (record {
  short = h;
  rises = rw (entries_pack xs t) (rising 0 xs s);
  sixteen_axes = row_long (λ e. e.axis);
  sixteen_epochs = row_long (λ e. e.epoch);
  zero_axes = row_zero (λ e. e.axis);
  zero_epochs = row_zero (λ e. e.epoch);
})
  where
    row_long : (f : Entry → ℕ) → length (map f xs ++ replicate (most_entries - length xs) 0) ≡ most_entries
    row_long f = rw (length-append, length-map xs f, length-replicate) (omega arith)

    row_zero : (f : Entry → ℕ) → all_zero (drop (length xs) (map f xs ++ replicate (most_entries - length xs) 0)) ≡ true
    row_zero f = rw (drop_at (map f xs) (replicate (most_entries - length xs) 0) (length xs) (length-map xs f))
        (all_zero_replicate (most_entries - length xs))

-- all slots of a well-formed frontier are there
pub all_slots : (f : Frontier) → well_formed f ≡ true → AllSlots f.axes f.epochs
all_slots f e = ((formed f e).sixteen_axes, (formed f e).sixteen_epochs)
