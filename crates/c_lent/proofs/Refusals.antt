-- A length over sixteen or a taint above 1 is refused as badly formed. Assumes nothing.
use mathlib.Core.Path.{◌≡◌, refl, sym}
use mathlib.Core.Bool.{Bool, true, false, ◌&&◌, ◌||◌, cond}
use mathlib.Core.List.{List}
use Prim.Native.Nat.{ℕ}
use mathlib.Core.Bool.{false≢true}
use lib.Dec.{ltb, leb, eqb}
use lib.ListN.{get_or}
use borrow.Author.Tests.{ltb-true, lt-leb}
use Rattle.base_lists.proofs.Tests.{by_cases, clash, either, or_cases}
use Rattle.frontier.specs.declared.Frontier.{Frontier}
use Rattle.frontier.specs.declared.Merged.{Merged}
use Rattle.frontier_slots.specs.Entries.{most_entries}
use Rattle.frontier_slots.specs.Slots.{slots_formed}
use Rattle.frontier.specs.Frontiers.{well_formed, capable, merge_number, merge, refusal, dominance_number}
use Rattle.c_lent.specs.Lent.{length_at, taint_at, over_long, frontier_of, oversized}

-- a first test that fails
pub first_fails : (a b : Bool) → a ≡ false → (a && b) ≡ false
first_fails a b e = rw e

-- a length over sixteen, or the one that is put in its place
long : (taint len : ℕ) → (ltb most_entries len || ltb 1 taint) ≡ true →
    leb (cond (ltb 1 taint) over_long len) most_entries ≡ false
long taint len o =
    by_cases (ltb 1 taint) (λ t. rw t)
    (λ n. either (or_cases (ltb most_entries len) (ltb 1 taint) o)
    (λ t. rw n (lt-leb len most_entries (ltb-true most_entries len t))) (λ t. clash (ltb 1 taint) t n))

pub oversized_formed : (ns : List ℕ) → oversized ns ≡ true → well_formed (frontier_of ns) ≡ false
unfolding oversized frontier_of slots_formed
oversized_formed ns o =
    first_fails (leb (cond (ltb 1 (get_or ns taint_at 0)) over_long (get_or ns length_at 0)) most_entries) _
    (long (get_or ns taint_at 0) (get_or ns length_at 0) o)

-- the number of two frontiers, one of which is badly formed
fourteen : (left right : Bool) → (left && right) ≡ false → ◌≡◌ {A = ℕ} (cond left (cond right 0 14) 14) 14
fourteen true true e = absurd (false≢true (sym e))
fourteen true false e = refl
fourteen false right e = refl

after_capacity : (capable left right : Bool) → (left && right) ≡ false →
    ◌≡◌ {A = ℕ} (cond capable (cond left (cond right 0 14) 14) 15) (cond capable 14 15)
after_capacity true left right e = fourteen left right e
after_capacity false left right e = refl

given_back : (n : ℕ) (capable : Bool) (m : Merged) → n ≡ cond capable 14 15 →
    (cond (eqb n 0) m (refusal n)).number ≡ cond capable 14 15
unfolding refusal
given_back n true m e = rw e
given_back n false m e = rw e

module _ (f g : Frontier) (bad : (well_formed f && well_formed g) ≡ false) where
  pub dominance_fourteen : dominance_number f g ≡ 14
  unfolding dominance_number
  dominance_fourteen = fourteen (well_formed f) (well_formed g) bad

  pub merge_refused : (capacity : ℕ) → (merge f g capacity).number ≡ cond (capable capacity) 14 15
  unfolding merge merge_number
  merge_refused capacity =
      given_back (merge_number f g capacity) (capable capacity) _
      (after_capacity (capable capacity) (well_formed f) (well_formed g) bad)

-- two lists of numbers, one of which is oversized
pub either_oversized : (left right : List ℕ) → (oversized left || oversized right) ≡ true →
    (well_formed (frontier_of left) && well_formed (frontier_of right)) ≡ false
either_oversized left right o =
    either (or_cases _ _ o) (λ t. first_fails _ _ (oversized_formed left t))
    (λ t. second_fails (well_formed (frontier_of left)) (well_formed (frontier_of right)) (oversized_formed right t))
  where
    second_fails : (a b : Bool) → b ≡ false → (a && b) ≡ false
    second_fails true b e = e
    second_fails false b e = refl
