-- A frontier built one axis at a time: raising at a capacity that holds every axis never cuts, so raises in any order
-- gather the union; and a merge with the empty frontier cuts. Assumes nothing.
use mathlib.Core.Path.{◌≡◌, refl, sym, ap, ◌∙◌}
use mathlib.Core.Bool.{Bool, false, ◌||◌, or-false}
use mathlib.Core.List.{List, [], ◌∷◌}
use Prim.Native.Nat.{ℕ, suc, ◌+◌, ◌≤◌, ◌<◌, zero-le}
use native.Mathlib.Nat.{le_refl}
use native.Mathlib.Omega.{arith}
use lib.Dec.{ltb, eqb}
use lib.ListN.{length}
use Rattle.base_lists.proofs.Tests.{by_cases}
use Rattle.frontier.specs.declared.Frontier.{Frontier}
use Rattle.frontier_slots.specs.declared.Entry.{Entry}
use Rattle.frontier_slots.specs.Entries.{most_entries, put, union, cut}
use Rattle.frontier.specs.Frontiers.{entries, pack, joined, merge, one_entry, gathered, raise}
use Rattle.frontier.proofs.Sorted.{Sorted, sorted_union, union_associates, union_none}
use Rattle.frontier.proofs.Pack.{entries_pack, well_formed_pack}
use Rattle.frontier.proofs.Merge.{accepted, joined_whole, sorted_one, short_one}

tainted_pack : (xs : List Entry) (t : Bool) → (pack xs t).tainted ≡ t
unfolding pack
tainted_pack xs t = refl

-- a union is no longer than both sides together
put_length : (x : Entry) (ys : List Entry) → length (put x ys) ≤ suc (length ys)
unfolding put
put_length x [] = le_refl 1
put_length x (y ∷ ys) =
    by_cases (ltb x.axis y.axis) (λ l. rw l (le_refl (suc (suc (length ys)))))
    (λ l. by_cases (eqb x.axis y.axis) (λ m. rw (l, m) (omega arith))
    (λ m. rw (l, m) (omega (arith, put_length x ys))))

pub union_length : (xs ys : List Entry) → length (union xs ys) ≤ length xs + length ys
unfolding union
union_length [] ys = omega arith
union_length (x ∷ xs) ys = omega (arith, union_length xs ys, put_length x (union xs ys))

-- two packed lists that are not refused
pub merge_packed : (xs ys : List Entry) (s t : Bool) (c : ℕ) → Sorted 0 xs → Sorted 0 ys → length xs ≤ most_entries →
    length ys ≤ most_entries → 1 ≤ c → c ≤ most_entries →
    merge (pack xs s) (pack ys t) c ≡ record { number = 0; frontier = joined xs ys (s || t) c }
merge_packed xs ys s t c p q l m h k =
    sym (accepted (pack xs s) (pack ys t) c h k (well_formed_pack xs s p l) (well_formed_pack ys t q m))
    ∙ ap (λ (f : Frontier). record { number = 0; frontier = f }) same
  where
    same : joined (entries (pack xs s)) (entries (pack ys t)) ((pack xs s).tainted || (pack ys t).tainted) c ≡
        joined xs ys (s || t) c
    same = rw (entries_pack xs s, entries_pack ys t, tainted_pack xs s, tainted_pack ys t)

-- one axis raised, at a capacity that holds one more: nothing is cut
pub raise_whole : (ys : List Entry) (t : Bool) (a e c : ℕ) → Sorted 0 ys → length ys < c → c ≤ most_entries →
    raise (pack ys t) a e c ≡ record { number = 0; frontier = pack (union ys (one_entry a e)) t }
unfolding raise
raise_whole ys t a e c s h k =
    merge_packed ys (one_entry a e) t false c s (sorted_one a e) (omega arith) (omega (arith, short_one a e))
    (omega arith) k
    ∙ ap (λ (f : Frontier). record { number = 0; frontier = f })
    (joined_whole ys (one_entry a e) (t || false) c (omega (arith, union_length ys (one_entry a e), short_one a e))
    ∙ ap (pack (union ys (one_entry a e))) (or-false t))

-- raises one after the other, at capacity sixteen
unfoldable pub raises : List Entry → Frontier → Frontier
raises [] f = f
raises (x ∷ xs) f = raises xs (raise f x.axis x.epoch most_entries).frontier

pub sorted_gathered : (xs : List Entry) → Sorted 0 (gathered xs)
unfolding gathered
sorted_gathered [] = tt
sorted_gathered (x ∷ xs) =
    sorted_union 0 (one_entry x.axis x.epoch) (gathered xs) (sorted_one x.axis x.epoch) (sorted_gathered xs)

pub gathered_length : (xs : List Entry) → length (gathered xs) ≤ length xs
unfolding gathered
gathered_length [] = zero-le
gathered_length (x ∷ xs) =
    omega (
      arith,
      union_length (one_entry x.axis x.epoch) (gathered xs),
      short_one x.axis x.epoch,
      gathered_length xs,
    )

-- raises of at most sixteen entries gather their union
pub raises_gather : (xs ys : List Entry) (t : Bool) → Sorted 0 ys → length ys + length xs ≤ most_entries →
    raises xs (pack ys t) ≡ pack (union ys (gathered xs)) t
unfolding raises gathered
raises_gather [] ys t s h = ap (λ l. pack l t) (sym (union_none 0 ys s))
raises_gather (x ∷ xs) ys t s h =
    ap (λ (f : Frontier). raises xs f) (ap (λ (m : Rattle.frontier.specs.declared.Merged.Merged). m.frontier)
    (raise_whole ys t x.axis x.epoch most_entries s (omega arith) (le_refl most_entries)))
    ∙ raises_gather xs (union ys (one_entry x.axis x.epoch)) t
    (sorted_union 0 ys (one_entry x.axis x.epoch) s (sorted_one x.axis x.epoch))
    (omega (arith, union_length ys (one_entry x.axis x.epoch), short_one x.axis x.epoch))
    ∙ ap (λ l. pack l t) (union_associates 0 ys (one_entry x.axis x.epoch) (gathered xs) s
    (sorted_one x.axis x.epoch) (sorted_gathered xs))

pub raises_from_empty : (xs : List Entry) → length xs ≤ most_entries →
    raises xs (pack [] false) ≡ pack (gathered xs) false
raises_from_empty xs h = raises_gather xs [] false tt (omega arith) ∙ ap (λ l. pack l false) (unfold union in refl)

-- R70: the cut to a capacity is a merge with the empty frontier
pub merge_empty : (ys : List Entry) (t : Bool) (c : ℕ) → Sorted 0 ys → length ys ≤ most_entries → 1 ≤ c →
    c ≤ most_entries → merge (pack ys t) (pack [] false) c ≡ record {
      number = 0;
      frontier = pack (cut c ys) (t || ltb c (length ys));
    }
merge_empty ys t c s h l k =
    merge_packed ys [] t false c s tt h zero-le l k ∙ ap (λ (f : Frontier). record { number = 0; frontier = f }) same
  where
    same : joined ys [] (t || false) c ≡ pack (cut c ys) (t || ltb c (length ys))
    same = unfold joined in (rw (union_none 0 ys s, or-false t) refl)
