-- What merge and raise promise of their answers: completions are kept, and merges at one capacity are grouped in any
-- way. Assumes nothing.
use mathlib.Core.Path.{◌≡◌, refl, sym, ap, ap₂, ◌∙◌}
use mathlib.Core.Bool.{Bool, true, false, ◌||◌, cond, or-true, or-false}
use mathlib.Core.List.{List, []}
use Prim.Native.Nat.{ℕ, max}
use native.Mathlib.Nat.{le_refl}
use native.Mathlib.Omega.{arith}
use lib.Dec.{ltb, eqb}
use lib.ListN.{length}
use borrow.Author.Tests.{ltb-true, ltb-false, lt-ltb, le-ltb, eqb-true, eqb-false}
use Rattle.base_lists.proofs.Tests.{by_cases, clash}
use Rattle.frontier.specs.declared.Frontier.{Frontier}
use Rattle.frontier.specs.declared.Merged.{Merged}
use Rattle.frontier_slots.specs.declared.Entry.{Entry}
use Rattle.frontier_slots.specs.Entries.{find, union, cut}
use Rattle.frontier.specs.Frontiers.{entries, well_formed, pack, joined, merge, one_entry, raise}
use Rattle.frontier.specs.Meaning.{epoch_at, Completion, both, MergeMeans, MergeRight, RaiseRight}
use Rattle.frontier.proofs.Sorted.{Sorted, epoch_here, epoch_there, epoch_none, epoch_union, sorted_union}
use Rattle.frontier.proofs.Sorted.{union_commutes, union_associates}
use Rattle.frontier.proofs.Cut.{cut_whole, cut_length, find_cut, epoch_cut}
use Rattle.frontier.proofs.Pack.{entries_pack, sorted_entries}
use Rattle.frontier.proofs.Associate.{cut_first, told_first, cut_fills}
use Rattle.frontier.proofs.Merge.{Accepted, accepted, accepted_by, number_right, frontier_right, merge_formed}
use Rattle.frontier.proofs.Merge.{merge_commutes, joined_idempotent, joined_formed}

-- what `||` tells where it is false
or_left_false : (a b : Bool) → (a || b) ≡ false → a ≡ false
or_left_false true b e = e
or_left_false false b e = refl

or_right_false : (a b : Bool) → (a || b) ≡ false → b ≡ false
or_right_false true b e = clash true refl e
or_right_false false b e = e

-- MERGE

-- what is made of two frontiers that are not refused
abbrev pub made : (f g : Frontier) → (c : ℕ) → Frontier
made f g c = joined (entries f) (entries g) (f.tainted || g.tainted) c

module _ (f g : Frontier) (c : ℕ) (a : Accepted f g c) where
  sf : Sorted 0 (entries f)
  sf = sorted_entries f a.left

  sg : Sorted 0 (entries g)
  sg = sorted_entries g a.right

  su : Sorted 0 (both f g)
  su = sorted_union 0 (entries f) (entries g) sf sg

  made_entries : entries (made f g c) ≡ cut c (both f g)
  unfolding joined
  made_entries = entries_pack (cut c (both f g)) ((f.tainted || g.tainted) || ltb c (length (both f g)))

  -- what is cut is told by the lengths
  cut_told : ltb c (length (both f g)) ≡ ltb (length (entries (made f g c))) (length (both f g))
  cut_told =
      rw made_entries (by_cases (ltb c (length (both f g)))
      (λ t. t
      ∙ sym (lt-ltb (length (cut c (both f g))) (length (both f g))
      (omega (arith, ltb-true c (length (both f g)) t, cut_length c 0 (both f g) su))))
      (λ t. t
      ∙ sym (rw (cut_whole c (both f g) (ltb-false c (length (both f g)) t))
      (le-ltb (length (both f g)) (length (both f g)) (le_refl (length (both f g)))))))

  keeps : (full other : ℕ → ℕ) → Completion f full → Completion g other →
      Completion (made f g c) (λ axis. max (full axis) (other axis))
  keeps full other p q = record {
    at_least =
        λ x. rw made_entries (omega (
          arith,
          epoch_cut c 0 (both f g) su x,
          epoch_union 0 (entries f) (entries g) sf sg x,
          p.at_least x,
          q.at_least x,
        ));
    exact =
        λ t x. rw (made_entries, whole t) (omega (
          arith,
          epoch_union 0 (entries f) (entries g) sf sg x,
          p.exact (or_left_false f.tainted g.tainted (sides t)) x,
          q.exact (or_right_false f.tainted g.tainted (sides t)) x,
        ));
  }
    where
      sides : (made f g c).tainted ≡ false → (f.tainted || g.tainted) ≡ false
      sides t = or_left_false (f.tainted || g.tainted) (ltb c (length (both f g))) (unfold joined pack in t)

      whole : (made f g c).tainted ≡ false → cut c (both f g) ≡ both f g
      whole t =
          cut_whole c (both f g) (ltb-false c (length (both f g))
          (or_right_false (f.tainted || g.tainted) (ltb c (length (both f g))) (unfold joined pack in t)))

  made_tainted : (made f g c).tainted ≡ ((f.tainted || g.tainted) || ltb c (length (both f g)))
  unfolding joined pack
  made_tainted = refl

-- GROUPING
joined_same : (xs ys zs ws : List Entry) (t : Bool) (c : ℕ) → union xs ys ≡ union zs ws →
    joined xs ys t c ≡ joined zs ws t c
unfolding joined
joined_same xs ys zs ws t c e = rw e

joined_commutes : (xs ys : List Entry) (t : Bool) (c : ℕ) → Sorted 0 xs → Sorted 0 ys →
    joined xs ys t c ≡ joined ys xs t c
unfolding joined
joined_commutes xs ys t c s u = rw (union_commutes 0 xs ys s u)

or_moved : (s p t q : Bool) → (((s || p) || t) || q) ≡ ((s || t) || (p || q))
or_moved true p t q = refl
or_moved false true true q = refl
or_moved false true false q = refl
or_moved false false t q = refl

or_turned : (x y z : Bool) → ((x || y) || z) ≡ ((y || z) || x)
or_turned true y z = sym (or-true (y || z))
or_turned false y z = sym (or-false (y || z))

-- a cut and its taint before a join change nothing of the join
joined_first : (xs ys : List Entry) (s t : Bool) (c : ℕ) → Sorted 0 xs → Sorted 0 ys →
    joined (cut c xs) ys ((s || ltb c (length xs)) || t) c ≡ joined xs ys (s || t) c
unfolding joined
joined_first xs ys s t c p q =
    ap₂ pack (cut_first c xs ys p q)
    (or_moved s (ltb c (length xs)) t (ltb c (length (union (cut c xs) ys)))
    ∙ ap (λ b. (s || t) || b) (told_first c xs ys p q))

joined_of_made : (f g h : Frontier) (c : ℕ) (a : Accepted f g c) → well_formed h ≡ true →
    merge (made f g c) h c ≡
    record { number = 0; frontier = joined (both f g) (entries h) ((f.tainted || g.tainted) || h.tainted) c }
joined_of_made f g h c a w =
    sym
    (accepted (made f g c) h c a.at_least_one a.at_most_sixteen (joined_formed (entries f) (entries g)
    (f.tainted || g.tainted) c (sf f g c a) (sg f g c a) a.at_most_sixteen) w)
    ∙ ap (λ (m : Frontier). record { number = 0; frontier = m }) same
  where
    same : joined (entries (made f g c)) (entries h) ((made f g c).tainted || h.tainted) c ≡
        joined (both f g) (entries h) ((f.tainted || g.tainted) || h.tainted) c
    same =
        rw (made_entries f g c a, made_tainted f g c a) (joined_first (both f g) (entries h) (f.tainted || g.tainted)
        h.tainted c (su f g c a) (sorted_entries h w))

pub merge_associates : (f g h : Frontier) (c : ℕ) (a : Accepted f g c) → well_formed h ≡ true →
    merge (made f g c) h c ≡ merge f (merge g h c).frontier c
merge_associates f g h c a w =
    let b : Accepted g h c =
    record { at_least_one = a.at_least_one; at_most_sixteen = a.at_most_sixteen; left = a.right; right = w } in
    joined_of_made f g h c a w
    ∙ ap (λ (m : Frontier). record { number = 0; frontier = m }) (regroup b)
    ∙ sym (joined_of_made g h f c b a.left)
    ∙ merge_commutes (made g h c) f c
    ∙ ap (λ m. merge f m c) (sym (frontier_right g h c b))
  where
    regroup : Accepted g h c → joined (both f g) (entries h) ((f.tainted || g.tainted) || h.tainted) c ≡
        joined (both g h) (entries f) ((g.tainted || h.tainted) || f.tainted) c
    regroup b =
        ap (λ t. joined (both f g) (entries h) t c) (or_turned f.tainted g.tainted h.tainted)
        ∙ joined_same (both f g) (entries h) (entries f) (both g h) ((g.tainted || h.tainted) || f.tainted) c
        (union_associates 0 (entries f) (entries g) (entries h) (sf f g c a) (sg f g c a) (sorted_entries h w))
        ∙ joined_commutes (entries f) (both g h) ((g.tainted || h.tainted) || f.tainted) c (sf f g c a) (su g h c b)

-- ALL THAT A MERGE PROMISES
pub merge_right : (f g : Frontier) (c : ℕ) (r : Merged) → r ≡ merge f g c → MergeRight f g c r
merge_right f g c r e = record {
  formed = rw e (merge_formed f g c);
  commutes = e ∙ merge_commutes f g c;
  means =
      λ z.
      let a : Accepted f g c = accepted_by f g c
      (sym (number_right f g c) ∙ sym (ap (λ (m : Merged). m.number) e) ∙ z) in
      rw (ap (λ (m : Merged). m.frontier) e ∙ frontier_right f g c a) (made_means a);
}
  where
    made_means : (a : Accepted f g c) → MergeMeans f g c (joined (entries f) (entries g) (f.tainted || g.tainted) c)
    made_means a = record {
      larger = epoch_union 0 (entries f) (entries g) (sf f g c a) (sg f g c a);
      stays = λ x. ap (find x) (made_entries f g c a) ∙ find_cut c 0 (both f g) (su f g c a) x;
      fills = ap length (made_entries f g c a) ∙ cut_fills c (both f g) (su f g c a);
      taint = made_tainted f g c a ∙ ap (λ b. (f.tainted || g.tainted) || b) (cut_told f g c a);
      completions = keeps f g c a;
      idempotent = λ q h. rw (sym q) (joined_idempotent f c a.left h);
      associates = λ h w. merge_associates f g h c a w;
    }

-- the equation, and what it means
pub merge_all : (f g : Frontier) (c : ℕ) (r : Merged) → r ≡ merge f g c → (r ≡ merge f g c) × MergeRight f g c r
merge_all f g c r e = (e, merge_right f g c r e)

-- RAISE
pub one_epoch : (x e axis : ℕ) → epoch_at (one_entry x e) axis ≡ cond (eqb x axis) e 0
one_epoch x e axis =
    by_cases (eqb e 0)
    (λ t.
    unfold one_entry in (rw (t, eqb-true e 0 t) (epoch_none axis ∙ by_cases (eqb x axis) (λ u. rw u) (λ u. rw u))))
    (λ t. unfold one_entry in (rw t (by_cases (eqb x axis)
    (λ u. rw u (epoch_here (record { axis = x; epoch = e }) [] axis (eqb-true x axis u)))
    (λ u. rw u (epoch_there (record { axis = x; epoch = e }) [] axis (eqb-false x axis u) ∙ epoch_none axis)))))

one_full : (x e : ℕ) → Completion (pack (one_entry x e) false) (λ axis. cond (eqb x axis) e 0)
one_full x e = record {
  at_least = λ axis. rw (entries_pack (one_entry x e) false, one_epoch x e axis) (le_refl (cond (eqb x axis) e 0));
  exact = λ t axis. rw (entries_pack (one_entry x e) false, one_epoch x e axis) refl;
}

pub raise_right : (f : Frontier) (x e c : ℕ) (r : Merged) → r ≡ raise f x e c → RaiseRight f x e c r
unfolding raise
raise_right f x e c r q =
    let m = merge_right f (pack (one_entry x e) false) c r q in
    record {
      merged = m;
      completions = λ z full p. (m.means z).completions full (λ axis. cond (eqb x axis) e 0) p (one_full x e);
    }

pub raise_all : (f : Frontier) (x e c : ℕ) (r : Merged) → r ≡ raise f x e c →
    (r ≡ raise f x e c) × RaiseRight f x e c r
raise_all f x e c r q = (q, raise_right f x e c r q)
