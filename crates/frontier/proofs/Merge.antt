-- The laws of merge and raise: the refusals in their order, well-formed results, commutative always, idempotent where
-- the capacity holds it. Assumes nothing.
use mathlib.Core.Path.{◌≡◌, refl, sym, ap, ◌∙◌}
use mathlib.Core.Bool.{Bool, true, false, ◌&&◌, ◌||◌, or-false}
use mathlib.Core.List.{List, []}
use Prim.Native.Nat.{ℕ, ◌≤◌, ◌<◌, zero-le}
use native.Mathlib.Nat.{le_refl}
use native.Mathlib.Omega.{arith}
use lib.Dec.{ltb, leb, eqb}
use lib.ListN.{length}
use borrow.Author.Tests.{leb-true, le-ltb, le-leb, lt-leb, eqb-true, eqb-false}
use Rattle.base_lists.proofs.Tests.{by_cases}
use Rattle.frontier.specs.declared.Frontier.{Frontier}
use Rattle.frontier.specs.declared.Merged.{Merged}
use Rattle.frontier_slots.specs.declared.Entry.{Entry}
use Rattle.frontier_slots.specs.Entries.{most_entries, union, cut}
use Rattle.frontier.specs.Frontiers.{entries, well_formed, pack, refusal, handed, joined, merge_number, merge}
use Rattle.frontier.specs.Frontiers.{one_entry}
use Rattle.frontier.specs.Walks.{left_number}
use Rattle.frontier.proofs.Sorted.{Sorted, sorted_union, union_commutes, union_idempotent}
use Rattle.frontier.proofs.Cut.{sorted_cut, cut_length, cut_whole}
use Rattle.frontier.proofs.Slots.{slots_length}
use Rattle.frontier.proofs.Pack.{pack_entries, sorted_entries, well_formed_pack}

-- ONE ENTRY
pub sorted_one : (a e : ℕ) → Sorted 0 (one_entry a e)
unfolding one_entry
sorted_one a e = by_cases (eqb e 0) (λ t. rw t tt) (λ t. rw t (zero-le, omega (arith, eqb-false e 0 t), tt))

pub short_one : (a e : ℕ) → length (one_entry a e) ≤ 1
unfolding one_entry
short_one a e = by_cases (eqb e 0) (λ t. rw t zero-le) (λ t. rw t (le_refl 1))

pub formed_one : (g : Frontier) (a e : ℕ) → g ≡ pack (one_entry a e) false → well_formed g ≡ true
formed_one g a e q = rw q (well_formed_pack (one_entry a e) false (sorted_one a e) (omega (arith, short_one a e)))

-- THE NUMBER
-- the left side's number, as the code judges it
pub judged_small : (f : Frontier) (c : ℕ) → c < 1 → 15 ≡ left_number f c
unfolding left_number
judged_small f c h = rw (lt-leb 1 c h)

pub judged_large : (f : Frontier) (c : ℕ) → most_entries < c → 15 ≡ left_number f c
unfolding left_number
judged_large f c h = rw (le-leb 1 c (omega arith), lt-leb c most_entries h)

module _ (f g : Frontier) (c : ℕ) where
  pub refused_first : (n : ℕ) → n ≡ left_number f c → (n ≡ 0 → ⊥) → refusal n ≡ merge f g c
  unfolding merge merge_number left_number
  refused_first n e h =
      by_cases (leb 1 c && leb c most_entries)
      (λ t. by_cases (well_formed f) (λ p. absurd (h (rw (t, p) at e)))
      (λ p. let q : n ≡ 14 = rw (t, p) at e in rw (q, t, p)))
      (λ t. let q : n ≡ 15 = rw t at e in rw (q, t))

  -- what 0 for the left side tells
  pub record LeftAccepted : Type 0 where
    pub at_least_one : 1 ≤ c
    pub at_most_sixteen : c ≤ most_entries
    pub left : well_formed f ≡ true

  pub left_accepted : (n : ℕ) → n ≡ left_number f c → n ≡ 0 → LeftAccepted
  unfolding left_number
  left_accepted n e z =
      by_cases (leb 1 c) (λ a. by_cases (leb c most_entries) (λ b. by_cases (well_formed f)
      (λ p. record { at_least_one = leb-true 1 c a; at_most_sixteen = leb-true c most_entries b; left = p })
      (λ p. absurd (let q : n ≡ 14 = rw (a, b, p) at e in omega arith)))
      (λ b. absurd (let q : n ≡ 15 = rw (a, b) at e in omega arith)))
      (λ a. absurd (let q : n ≡ 15 = rw a at e in omega arith))

  pub refused_right : LeftAccepted → well_formed g ≡ false → refusal 14 ≡ merge f g c
  unfolding merge merge_number
  refused_right w q = rw (le-leb 1 c w.at_least_one, le-leb c most_entries w.at_most_sixteen, w.left, q)

  pub accepted : 1 ≤ c → c ≤ most_entries → well_formed f ≡ true → well_formed g ≡ true →
      handed (joined (entries f) (entries g) (f.tainted || g.tainted) c) ≡ merge f g c
  unfolding merge merge_number
  accepted h l e q = rw (le-leb 1 c h, le-leb c most_entries l, e, q)

  pub merged : (m : Merged) → LeftAccepted → well_formed g ≡ true →
      m ≡ handed (joined (entries f) (entries g) (f.tainted || g.tainted) c) → m ≡ merge f g c
  merged m w q e = e ∙ accepted w.at_least_one w.at_most_sixteen w.left q

  -- what number 0 tells
  pub record Accepted : Type 0 where
    pub at_least_one : 1 ≤ c
    pub at_most_sixteen : c ≤ most_entries
    pub left : well_formed f ≡ true
    pub right : well_formed g ≡ true

  pub accepted_by : merge_number f g c ≡ 0 → Accepted
  unfolding merge_number
  accepted_by e =
      by_cases (leb 1 c) (λ a. by_cases (leb c most_entries)
      (λ b. by_cases (well_formed f) (λ p. by_cases (well_formed g)
      (λ q. record { at_least_one = leb-true 1 c a; at_most_sixteen = leb-true c most_entries b; left = p; right = q })
      (λ q. absurd (let z : 14 ≡ 0 = rw (a, b, p, q) at e in omega arith)))
      (λ p. absurd (let z : 14 ≡ 0 = rw (a, b, p) at e in omega arith)))
      (λ b. absurd (let z : 15 ≡ 0 = rw (a, b) at e in omega arith)))
      (λ a. absurd (let z : 15 ≡ 0 = rw a at e in omega arith))

  pub number_right : (merge f g c).number ≡ merge_number f g c
  unfolding merge refusal
  number_right = by_cases (eqb (merge_number f g c) 0) (λ t. rw t (sym (eqb-true (merge_number f g c) 0 t))) (λ t. rw t)

  pub frontier_right : Accepted → (merge f g c).frontier ≡ joined (entries f) (entries g) (f.tainted || g.tainted) c
  frontier_right a =
      ap (λ (m : Merged). m.frontier) (sym (accepted a.at_least_one a.at_most_sixteen a.left a.right))

-- WELL-FORMED
pub joined_formed : (xs ys : List Entry) (t : Bool) (c : ℕ) → Sorted 0 xs → Sorted 0 ys → c ≤ most_entries →
    well_formed (joined xs ys t c) ≡ true
unfolding joined
joined_formed xs ys t c s u h =
    well_formed_pack (cut c (union xs ys)) (t || ltb c (length (union xs ys)))
    (sorted_cut c 0 (union xs ys) (sorted_union 0 xs ys s u))
    (omega (arith, cut_length c 0 (union xs ys) (sorted_union 0 xs ys s u)))

pub merge_formed : (f g : Frontier) (c : ℕ) → well_formed (merge f g c).frontier ≡ true
unfolding merge refusal
merge_formed f g c =
    by_cases (eqb (merge_number f g c) 0)
    (λ t. let a = accepted_by f g c (eqb-true (merge_number f g c) 0 t) in
    rw t (joined_formed (entries f) (entries g) (f.tainted || g.tainted) c (sorted_entries f a.left)
    (sorted_entries g a.right) a.at_most_sixteen))
    (λ t. rw t (well_formed_pack [] false tt zero-le))

-- COMMUTATIVE
pub or_commutes : (a b : Bool) → (a || b) ≡ (b || a)
or_commutes true true = refl
or_commutes true false = refl
or_commutes false true = refl
or_commutes false false = refl

number_commutes : (f g : Frontier) (c : ℕ) → merge_number f g c ≡ merge_number g f c
unfolding merge_number
number_commutes f g c =
    by_cases (well_formed f) (λ p. by_cases (well_formed g) (λ q. rw (p, q)) (λ q. rw (p, q)))
    (λ p. by_cases (well_formed g) (λ q. rw (p, q)) (λ q. rw (p, q)))

pub merge_commutes : (f g : Frontier) (c : ℕ) → merge f g c ≡ merge g f c
unfolding merge joined
merge_commutes f g c =
    by_cases (eqb (merge_number f g c) 0)
    (λ t. let a = accepted_by f g c (eqb-true (merge_number f g c) 0 t) in
    rw (
      ← number_commutes f g c,
      t,
      union_commutes 0 (entries f) (entries g) (sorted_entries f a.left) (sorted_entries g a.right),
      or_commutes f.tainted g.tainted,
    ))
    (λ t. rw (← number_commutes f g c, t))

-- IDEMPOTENT, where the capacity holds it
or_same : (a : Bool) → ((a || a) || false) ≡ a
or_same true = refl
or_same false = refl

pub entries_length : (f : Frontier) → length (entries f) ≡ f.len
unfolding entries
entries_length f = slots_length f.axes f.epochs f.len 0

pub joined_idempotent : (f : Frontier) (c : ℕ) → well_formed f ≡ true → f.len ≤ c →
    joined (entries f) (entries f) (f.tainted || f.tainted) c ≡ f
unfolding joined
joined_idempotent f c w h =
    let n : length (entries f) ≤ c = omega (arith, entries_length f) in
    rw (
      union_idempotent 0 (entries f) (sorted_entries f w),
      cut_whole c (entries f) n,
      le-ltb c (length (entries f)) n,
      or_same f.tainted,
    )
    (sym (pack_entries f w))

-- WITHOUT A CUT
pub joined_whole : (xs ys : List Entry) (t : Bool) (c : ℕ) → length (union xs ys) ≤ c →
    joined xs ys t c ≡ pack (union xs ys) t
unfolding joined
joined_whole xs ys t c h = rw (cut_whole c (union xs ys) h, le-ltb c (length (union xs ys)) h, or-false t)
