-- Raise as the code has it: refused; the larger epoch stored in the axis's slot; or joined with one entry. Assumes
-- nothing.
use mathlib.Core.Path.{◌≡◌, refl, sym, ap, ap₂, ◌∙◌}
use mathlib.Core.Bool.{Bool, true, false, not, ◌||◌, or-false}
use mathlib.Core.List.{List, [], ◌∷◌}
use Prim.Native.Nat.{ℕ, zero, suc, ◌+◌, ◌≤◌, ◌<◌, max, zero-le}
use native.Mathlib.Omega.{arith}
use mir.Val.{bool_byte}
use lib.Dec.{eqb}
use lib.ListN.{length, get_or, set, length-set}
use lib.Seq.{get_or-set_same, get_or-set_other, set-get_or, drop-set-lt}
use borrow.Author.Tests.{eqb-true, eqb-false}
use Rattle.base_lists.specs.Lists.{tabulate_from}
use Rattle.base_lists.proofs.Tests.{by_cases}
use Rattle.frontier.specs.declared.Frontier.{Frontier}
use Rattle.frontier.specs.declared.Merged.{Merged}
use Rattle.frontier_slots.specs.declared.Entry.{Entry}
use Rattle.frontier_slots.specs.Entries.{most_entries, rising_from, put, union}
use Rattle.frontier_slots.specs.Slots.{slot, slots}
use Rattle.frontier.specs.Frontiers.{entries, well_formed, pack, refusal, handed, joined}
use Rattle.frontier.specs.Frontiers.{one_entry, raise}
use Rattle.frontier_slots.specs.Slots.{rest, AllSlots}
use Rattle.frontier.specs.Walks.{left_number}
use Rattle.frontier.proofs.Sorted.{Sorted, rising, same_entry, put_same, put_past, union_commutes, union_none}
use Rattle.frontier_slots.proofs.Slots.{rest_all, rest_more}
use Rattle.frontier.proofs.Slots.{tabulate_same, slots_length}
use Rattle.frontier.proofs.Pack.{Formed, formed, repack, entries_pack, sorted_entries, all_slots}
use Rattle.frontier.proofs.Merge.{LeftAccepted, left_accepted, refused_first, merged, formed_one, sorted_one}
use Rattle.frontier.proofs.Merge.{joined_whole, merge_formed}

-- ONE ENTRY as slots: none for epoch 0, else the first
module _ (a e : ℕ) (axes epochs : List ℕ) where
  one_slots : slots (a ∷ axes) (e ∷ epochs) (bool_byte (not (eqb e 0))) 0 ≡ one_entry a e
  unfolding slots slot tabulate_from one_entry
  one_slots = by_cases (eqb e 0) (λ t. rw t) (λ t. rw t)

  pub one_fits : (bool_byte (not (eqb e 0)) ≤ most_entries)
      × (rising_from 0 (slots (a ∷ axes) (e ∷ epochs) (bool_byte (not (eqb e 0))) 0) ≡ true)
  one_fits = (
    by_cases (eqb e 0) (λ t. rw t zero-le) (λ t. rw t (omega arith)),
    rw one_slots (rising 0 (one_entry a e) (sorted_one a e)),
  )

  pub one_joined : (xs : List Entry) (t : Bool) (c : ℕ) →
      handed (joined xs (slots (a ∷ axes) (e ∷ epochs) (bool_byte (not (eqb e 0))) 0) t c) ≡
      handed (joined xs (one_entry a e) t c)
  one_joined xs t c = ap (λ ys. handed (joined xs ys t c)) one_slots

-- a raise hands back a well-formed frontier, as a merge does
pub raise_formed : (f : Frontier) (x e c : ℕ) → well_formed (raise f x e c).frontier ≡ true
unfolding raise
raise_formed f x e c = merge_formed f (pack (one_entry x e) false) c

-- STORED IN A SLOT: what is put into the list of the entries
module _ (xs es : List ℕ) (n at a e old m : ℕ) (l : at < n) (long : at < length es)
    (s : slot xs es at ≡ record { axis = a; epoch = old }) (g : m ≡ max e old) where
  later : (i : ℕ) → at < i → rest xs es n i ≡ rest xs (set es at m) n i
  unfolding slots slot
  later i h =
      tabulate_same _ i (slot xs es) (slot xs (set es at m))
      (λ k p q. same_entry refl (sym (get_or-set_other es at k m 0 (λ z. omega arith))))

  axis_is : get_or xs at 0 ≡ a
  axis_is = unfold slot in (ap (λ (x : Entry). x.axis) s)

  -- rising slots: what comes before slot `at` has a smaller axis
  above : (k i b : ℕ) → i + k ≡ at → Sorted b (rest xs es n i) → b ≤ a
  unfolding slot
  above zero i b q r =
      let z : i ≡ at = omega arith in
      omega (arith, (rw (rest_more xs es n i (omega arith)) at r).0, ap (λ (j : ℕ). get_or xs j 0) z, axis_is)
  above (suc k) i b q r =
      let t = rw (rest_more xs es n i (omega arith)) at r in
      omega (arith, t.0, above k (i + 1) (suc (get_or xs i 0)) (omega arith) t.2)

  here : put (record { axis = a; epoch = e }) (rest xs es n at) ≡ rest xs (set es at m) n at
  unfolding slot
  here =
      rw (rest_more xs es n at l, rest_more xs (set es at m) n at l)
      (put_same (record { axis = a; epoch = e }) (slot xs es at) (rest xs es n (at + 1)) (sym axis_is)
      ∙ ap₂ {C = List Entry} (λ x ys. x ∷ ys) (same_entry (sym axis_is) larger) (later (at + 1) (omega arith)))
    where
      larger : max e (get_or es at 0) ≡ get_or (set es at m) at 0
      larger = ap (max e) (ap (λ (x : Entry). x.epoch) s) ∙ sym g ∙ sym (get_or-set_same es at m 0 long)

  put_slot : (k i b : ℕ) → i + k ≡ at → Sorted b (rest xs es n i) →
      put (record { axis = a; epoch = e }) (rest xs es n i) ≡ rest xs (set es at m) n i
  unfolding slot
  put_slot zero i b q r = let z : i ≡ at = omega arith in rw z here
  put_slot (suc k) i b q r =
      let t = rw (rest_more xs es n i (omega arith)) at r in
      rw (rest_more xs es n i (omega arith), rest_more xs (set es at m) n i (omega arith))
      (put_past (record { axis = a; epoch = e }) (slot xs es i) (rest xs es n (i + 1))
      (omega (arith, above k (i + 1) (suc (get_or xs i 0)) (omega arith) t.2))
      ∙ ap₂ {C = List Entry} (λ x ys. x ∷ ys) (same_entry refl (sym (get_or-set_other es at i m 0 (λ z. omega arith))))
      (put_slot k (i + 1) (suc (get_or xs i 0)) (omega arith) t.2))

  pub stored_entries : Sorted 0 (slots xs es n 0) → slots xs (set es at m) n 0 ≡ union (slots xs es n 0) (one_entry a e)
  stored_entries r = by_cases (eqb e 0) (λ t. none t) (λ t. some t)
    where
      none : eqb e 0 ≡ true → slots xs (set es at m) n 0 ≡ union (slots xs es n 0) (one_entry a e)
      none t = unfold one_entry slot in (rw t
          (ap (λ (ys : List ℕ). slots xs ys n 0)
          (ap (set es at) (omega (arith, g, eqb-true e 0 t, ap (λ (x : Entry). x.epoch) s)) ∙ set-get_or es at 0)
          ∙ sym (union_none 0 (slots xs es n 0) r)))

      some : eqb e 0 ≡ false → slots xs (set es at m) n 0 ≡ union (slots xs es n 0) (one_entry a e)
      some t = unfold one_entry union in (rw t
          (sym (rw (rest_all xs es n, rest_all xs (set es at m) n) at
          (put_slot at 0 0 (omega arith) (rw (rest_all xs es n) r)))
          ∙ union_commutes 0 (record { axis = a; epoch = e } ∷ []) (slots xs es n 0)
          (zero-le, omega (arith, eqb-false e 0 t), tt) r))

-- THE THREE WAYS
module _ (f : Frontier) (x e c : ℕ) (n : ℕ) (p : n ≡ left_number f c) where
  pub raise_refused : (n ≡ 0 → ⊥) → refusal n ≡ raise f x e c
  unfolding raise
  raise_refused h = refused_first f (pack (one_entry x e) false) c n p h

  module _ (z : n ≡ 0) where
    left : LeftAccepted f (pack (one_entry x e) false) c
    left = left_accepted f (pack (one_entry x e) false) c n p z

    pub raise_joins : ((f.len ≤ most_entries) × (rising_from 0 (entries f) ≡ true) × AllSlots f.axes f.epochs)
        × ((1 ≤ c) × (c ≤ most_entries))
    raise_joins = (
      ((formed f left.left).short, (formed f left.left).rises, all_slots f left.left),
      (left.at_least_one, left.at_most_sixteen),
    )

    pub raise_joined : (m : Merged) → m ≡ handed (joined (entries f) (one_entry x e) f.tainted c) → m ≡ raise f x e c
    unfolding raise
    raise_joined m j =
        merged f (pack (one_entry x e) false) c m left (formed_one (pack (one_entry x e) false) x e refl)
        (j ∙ sym (rw (entries_pack (one_entry x e) false)
        (ap (λ t. handed (joined (entries f) (one_entry x e) t c)) untainted)))
      where
        untainted : (f.tainted || (pack (one_entry x e) false).tainted) ≡ f.tainted
        untainted = unfold pack in (or-false f.tainted)

    -- the axis is listed, and the capacity holds every entry
    pub raise_stored : (i m : ℕ) → i < f.len → get_or f.axes i 0 ≡ x → m ≡ max (get_or f.epochs i 0) e →
        f.len ≤ c →
        handed (record {
          axes = f.axes;
          epochs = set f.epochs i m;
          len = f.len;
          tainted = f.tainted;
        }) ≡ raise f x e c
    raise_stored i m below of_axis g h =
        raise_joined _ (ap handed (packed
        ∙ sym (joined_whole (entries f) (one_entry x e) f.tainted c
        (omega (arith, ap length same, slots_length f.axes (set f.epochs i m) f.len 0)))))
      where
        v : Formed f
        v = formed f left.left

        same : slots f.axes (set f.epochs i m) f.len 0 ≡ union (entries f) (one_entry x e)
        same = unfold entries in
            (stored_entries f.axes f.epochs f.len i x e (get_or f.epochs i 0) m below
            (omega (arith, below, v.short, v.sixteen_epochs)) (unfold slot in (same_entry of_axis refl))
            (omega (arith, g))
            (sorted_entries f left.left))

        packed : record {
          axes = f.axes;
          epochs = set f.epochs i m;
          len = f.len;
          tainted = f.tainted;
        } ≡ pack (union (entries f) (one_entry x e)) f.tainted
        packed =
            repack f.axes (set f.epochs i m) f.len f.tainted v.short v.sixteen_axes
            (length-set f.epochs i m ∙ v.sixteen_epochs) v.zero_axes
            (rw (drop-set-lt f.len f.epochs i m below) v.zero_epochs)
            ∙ ap (λ l. pack l f.tainted) same
