-- Slots of two arrays as a list of entries: from the front, from a place on, and with one slot more. Assumes nothing.
use mathlib.Core.Path.{◌≡◌, refl, sym, ap, ap₂, ◌∙◌}
use mathlib.Core.Bool.{true}
use mathlib.Core.List.{List, [], ◌∷◌, ◌++◌}
use Prim.Native.Nat.{ℕ, zero, suc, ◌+◌, ◌≤◌, ◌<◌}
use native.Mathlib.Nat.{le_refl}
use native.Mathlib.Numerals.{add-one}
use native.Mathlib.Omega.{arith}
use lib.ListN.{length, get_or, set, take, drop}
use lib.Dec.{eqb}
use lib.Seq.{get_or-set_same, get_or-set_other, get_or-take, take_all, take-suc, take-suc-set}
use Rattle.base_lists.specs.Lists.{tabulate_from}
use Rattle.base_lists.proofs.Tests.{and_left, and_right, and_both}
use Rattle.base_lists.proofs.Tables.{tabulate_length, tabulate_last}
use Rattle.frontier_slots.specs.declared.Entry.{Entry}
use Rattle.frontier_slots.specs.Entries.{most_entries, most_of_two}
use Rattle.frontier_slots.specs.Slots.{slot, slots, all_zero, rest, floor}
use Rattle.frontier_slots.proofs.Slots.{rest_all, rest_more}
use Rattle.frontier.proofs.Sorted.{Sorted, same_entry}

-- TABLES
module _ {A : Type 0} where
  pub tabulate_same : (n i : ℕ) (f g : ℕ → A) → ((k : ℕ) → i ≤ k → k < i + n → f k ≡ g k) →
      tabulate_from n i f ≡ tabulate_from n i g
  unfolding tabulate_from
  tabulate_same zero i f g h = refl
  tabulate_same (suc n) i f g h =
      ap₂ {C = List A} (λ a xs. a ∷ xs) (h i (le_refl i) (omega arith))
      (tabulate_same n (suc i) f g (λ k l m. h k (omega arith) (omega arith)))

  pub tabulate_shift : (n i : ℕ) (f : ℕ → A) → tabulate_from n (suc i) f ≡ tabulate_from n i (λ k. f (suc k))
  unfolding tabulate_from
  tabulate_shift zero i f = refl
  tabulate_shift (suc n) i f = ap {B = List A} (λ xs. f (suc i) ∷ xs) (tabulate_shift n (suc i) f)

-- SLOTS
module _ (xs es : List ℕ) where
  pub slots_length : (n i : ℕ) → length (slots xs es n i) ≡ n
  unfolding slots
  slots_length n i = tabulate_length (slot xs es) n i

  pub sorted_rest : (n i : ℕ) → i ≤ n → Sorted 0 (slots xs es n 0) → Sorted (floor xs i) (rest xs es n i)
  unfolding floor slot
  sorted_rest n zero h s = rw (rest_all xs es n) s
  sorted_rest n (suc i) h s =
      let t : Sorted (floor xs i) (slot xs es i ∷ rest xs es n (i + 1)) =
      rw (rest_more xs es n i h) at (sorted_rest n i (omega arith) s) in
      rw (add-one i) at t.2

-- one slot more is written
pub slots_put : (xs es : List ℕ) (n a e : ℕ) → n < length xs → n < length es →
    slots (set xs n a) (set es n e) (n + 1) 0 ≡ slots xs es n 0 ++ (record { axis = a; epoch = e } ∷ [])
unfolding slots slot
slots_put xs es n a e p q =
    rw (add-one n) (tabulate_last (slot (set xs n a) (set es n e)) n 0 ∙
    ap₂ {C = List Entry} (λ zs z. zs ++ (z ∷ []))
    (tabulate_same n 0 (slot (set xs n a) (set es n e)) (slot xs es)
    (λ k l m. same_entry (get_or-set_other xs n k a 0 (λ q. omega arith)) (get_or-set_other es n k e 0 (λ q.
    omega arith))))
    (same_entry (ap (λ k. get_or (set xs n a) k 0) (zero_plus n) ∙ get_or-set_same xs n a 0 p)
    (ap (λ k. get_or (set es n e) k 0) (zero_plus n) ∙ get_or-set_same es n e 0 q)))
  where
    zero_plus : (n : ℕ) → 0 + n ≡ n
    zero_plus n = omega arith

-- the slots before it stay, and those past it
pub slots_before : (xs es : List ℕ) (n a e : ℕ) → slots (set xs n a) (set es n e) n 0 ≡ slots xs es n 0
unfolding slots slot
slots_before xs es n a e =
    tabulate_same n 0 (slot (set xs n a) (set es n e)) (slot xs es)
    (λ k l m. same_entry (get_or-set_other xs n k a 0 (λ q. omega arith)) (get_or-set_other es n k e 0 (λ q.
    omega arith)))

pub rest_past : (xs es : List ℕ) (len n i a e : ℕ) → n < i →
    rest (set xs n a) (set es n e) len i ≡ rest xs es len i
unfolding slots slot
rest_past xs es len n i a e h =
    tabulate_same _ i (slot (set xs n a) (set es n e)) (slot xs es)
    (λ k l m. same_entry (get_or-set_other xs n k a 0 (λ q. omega arith)) (get_or-set_other es n k e 0 (λ q.
    omega arith)))

-- THE FIRST SLOTS
zero_take : (m : ℕ) (row : List ℕ) → all_zero row ≡ true → all_zero (take m row) ≡ true
zero_take zero row z = refl
zero_take (suc m) [] z = refl
zero_take (suc m) (x ∷ row) z =
    and_both (eqb x 0) (all_zero (take m row)) (and_left (eqb x 0) (all_zero row) z)
    (zero_take m row (and_right (eqb x 0) (all_zero row) z))

pub zero_first : (m n : ℕ) (row : List ℕ) → all_zero (drop n row) ≡ true → all_zero (drop n (take m row)) ≡ true
zero_first m zero row z = zero_take m row z
zero_first zero (suc n) row z = refl
zero_first (suc m) (suc n) [] z = refl
zero_first (suc m) (suc n) (x ∷ row) z = zero_first m n row z

pub slots_first : (xs es : List ℕ) (m n : ℕ) → n ≤ m → slots (take m xs) (take m es) n 0 ≡ slots xs es n 0
unfolding slots slot
slots_first xs es m n h =
    tabulate_same n 0 (slot (take m xs) (take m es)) (slot xs es)
    (λ k l p. same_entry (get_or-take m xs k 0 (omega arith)) (get_or-take m es k 0 (omega arith)))

-- one slot more is copied
pub take_copied : (to from : List ℕ) (i : ℕ) → length to ≡ most_entries → length from ≡ most_of_two → i < most_entries →
    take i to ≡ take i from → take (i + 1) (set to i (get_or from i 0)) ≡ take (i + 1) from
take_copied to from i p q h e =
    rw (add-one i) (take-suc-set to i (get_or from i 0) (omega arith) ∙ ap (λ l. l ++ (get_or from i 0 ∷ [])) e
    ∙ sym (take-suc from i 0 (omega arith)))

pub first_copied : (to from : List ℕ) (i : ℕ) → i ≤ most_entries → most_entries ≤ i → length to ≡ most_entries →
    take i to ≡ take i from → to ≡ take most_entries from
first_copied to from i h l e q = let z : i ≡ most_entries = omega arith in sym (take_all most_entries to (omega arith))
    ∙ (rw z at q)
