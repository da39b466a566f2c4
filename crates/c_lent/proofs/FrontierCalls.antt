-- What merge, raise, dominance and lookup tell and store means, of the frontiers that were lent. Assumes nothing.
use mathlib.Core.Path.{◌≡◌, refl, sym, ap, ◌∙◌, subst}
use mathlib.Core.Bool.{true, false, cond, ◌||◌}
use mathlib.Core.List.{List}
use Prim.Native.Nat.{ℕ}
use Rattle.plan_format.specs.declared.Told.{Told}
use Rattle.frontier.specs.declared.Merged.{Merged}
use Rattle.std.specs.Prelude.{Option, Some, None}
use Rattle.frontier.specs.Frontiers.{Verdict}
use Rattle.frontier.specs.Frontiers.{well_formed, pack, capable, one_entry, merge, raise, dominance, looked_up}
use Rattle.frontier.specs.Meaning.{epoch_of, Looked, MergeRight, RaiseRight, DominanceMeans}
use Rattle.frontier.proofs.Lookups.{looked}
use Rattle.frontier.proofs.Meaning.{merge_right, raise_right}
use Rattle.frontier.proofs.Dominates.{dominance_means}
use Rattle.c_told.specs.Told.{told_of}
use Rattle.c_lent.specs.Lent.{frontier_of, oversized, MergeSays, merged_of, OversizedRefused}
use Rattle.c_lent.specs.Lent.{dominance_told, dominance_of, listed_value, LookupSays, lookup_of}
use Rattle.c_lent.proofs.Told.{dominance_back}
use Rattle.c_lent.proofs.Frontiers.{merged_back}
use Rattle.c_lent.proofs.Refusals.{first_fails, oversized_formed, either_oversized, dominance_fourteen}
use Rattle.c_lent.proofs.Refusals.{merge_refused}

-- what is read of a merge that was told and stored
module _ (m : Merged) (told frontier : List ℕ) (s : MergeSays m told frontier) where
  number : (told_of told).number ≡ m.number
  number = ap (λ (t : Told). t.number) s.0

  read : well_formed m.frontier ≡ true → m ≡ merged_of told frontier
  read w = sym (merged_back m told frontier number s.1 w)

module _ (left right : List ℕ) (capacity : ℕ) (told frontier : List ℕ) where
  abbrev merged : Merged
  merged = merge (frontier_of left) (frontier_of right) capacity

  pub merge_answered : MergeSays merged told frontier → MergeSays merged told frontier
      × (MergeRight (frontier_of left) (frontier_of right) capacity (merged_of told frontier)
      × OversizedRefused (oversized left || oversized right) (capable capacity) told)
  merge_answered s =
      let h = merge_right (frontier_of left) (frontier_of right) capacity merged refl in (
        s,
        (
          subst (λ (k : Merged). MergeRight (frontier_of left) (frontier_of right) capacity k)
              (read merged told frontier s h.formed) h,
          λ o. number merged told frontier s
              ∙ merge_refused (frontier_of left) (frontier_of right) (either_oversized left right o) capacity,
        ),
      )

module _ (old : List ℕ) (axis epoch capacity : ℕ) (told frontier : List ℕ) where
  abbrev raised : Merged
  raised = raise (frontier_of old) axis epoch capacity

  pub raise_answered : MergeSays raised told frontier → MergeSays raised told frontier
      × (RaiseRight (frontier_of old) axis epoch capacity (merged_of told frontier)
      × OversizedRefused (oversized old) (capable capacity) told)
  raise_answered s =
      let h = raise_right (frontier_of old) axis epoch capacity raised refl in (
        s,
        (
          subst (λ (k : Merged). RaiseRight (frontier_of old) axis epoch capacity k)
              (read raised told frontier s h.merged.formed) h,
          λ o. number raised told frontier s ∙ refused o,
        ),
      )
    where
      refused : oversized old ≡ true → raised.number ≡ cond (capable capacity) 14 15
      refused o = unfold raise in (merge_refused (frontier_of old) (pack (one_entry axis epoch) false)
          (first_fails _ _ (oversized_formed old o)) capacity)

module _ (left right : List ℕ) (told : List ℕ) where
  abbrev dominated : Verdict
  dominated = dominance (frontier_of left) (frontier_of right)

  pub dominance_answered : told_of told ≡ dominance_told dominated → (told_of told ≡ dominance_told dominated)
      × (DominanceMeans (frontier_of left) (frontier_of right) (dominance_of (told_of told))
      × OversizedRefused (oversized left || oversized right) true told)
  dominance_answered e =
      let h = dominance_means (frontier_of left) (frontier_of right) dominated refl in (
        e,
        (
          subst (λ (k : Verdict). DominanceMeans (frontier_of left) (frontier_of right) k)
              (sym (ap dominance_of e ∙ dominance_back (frontier_of left) (frontier_of right))) h,
          λ o. ap (λ (k : Told). k.number) e ∙ h.number
              ∙ dominance_fourteen (frontier_of left) (frontier_of right) (either_oversized left right o),
        ),
      )

-- an answer that was told and stored is read back
lookup_back : (r : Option ℕ) (told epoch : List ℕ) → LookupSays r told epoch → lookup_of told epoch ≡ r
unfolding listed_value epoch_of lookup_of
lookup_back (Some e) told epoch s = rw (s.0, s.1)
lookup_back None told epoch s = rw s.0

module _ (numbers : List ℕ) (axis : ℕ) (told epoch : List ℕ) where
  pub lookup_answered : LookupSays (looked_up (frontier_of numbers) axis) told epoch →
      LookupSays (looked_up (frontier_of numbers) axis) told epoch
      × Looked (frontier_of numbers) axis (lookup_of told epoch)
  lookup_answered s = (s, looked (frontier_of numbers) axis (lookup_of told epoch) (lookup_back _ told epoch s))
