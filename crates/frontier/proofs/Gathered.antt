-- Entries gathered under distinct axes: each axis has its own epoch, and any other none. Assumes nothing.
use mathlib.Core.Path.{◌≡◌, refl, sym, ap, ap₂, ◌∙◌}
use mathlib.Core.Bool.{cond}
use mathlib.Core.List.{List, ◌∷◌}
use Prim.Native.Nat.{ℕ, zero, suc, ◌+◌, ◌≤◌, ◌<◌, max}
use native.Mathlib.Omega.{arith}
use lib.Dec.{eqb}
use borrow.Author.Tests.{eqb-true, eqb-false, eq-eqb, ne_eqb}
use Rattle.base_lists.specs.Lists.{tabulate_from}
use Rattle.base_lists.proofs.Tests.{by_cases}
use Rattle.frontier_slots.specs.declared.Entry.{Entry}
use Rattle.frontier.specs.Frontiers.{one_entry, gathered}
use Rattle.frontier.specs.Meaning.{epoch_at}
use Rattle.frontier.proofs.Sorted.{epoch_none, epoch_union}
use Rattle.frontier.proofs.Merge.{sorted_one}
use Rattle.frontier.proofs.Meaning.{one_epoch}
use Rattle.frontier.proofs.Raising.{sorted_gathered}

pub epoch_gathered : (x : Entry) (xs : List Entry) (a : ℕ) →
    epoch_at (gathered (x ∷ xs)) a ≡ max (cond (eqb x.axis a) x.epoch 0) (epoch_at (gathered xs) a)
unfolding gathered
epoch_gathered x xs a =
    epoch_union 0 (one_entry x.axis x.epoch) (gathered xs) (sorted_one x.axis x.epoch)
    (sorted_gathered xs) a
    ∙ ap (λ k. max k (epoch_at (gathered xs) a)) (one_epoch x.axis x.epoch a)

module _ (axis epoch : ℕ → ℕ) where
  -- so many entries from a place on
  abbrev pub tabled : (many start : ℕ) → List Entry
  tabled n s = tabulate_from n s (λ q. record { axis = axis q; epoch = epoch q })

  here : (n s a : ℕ) → epoch_at (gathered (tabled (suc n) s)) a ≡
      max (cond (eqb (axis s) a) (epoch s) 0) (epoch_at (gathered (tabled n (suc s))) a)
  unfolding tabulate_from
  here n s a = epoch_gathered (record { axis = axis s; epoch = epoch s }) (tabled n (suc s)) a

  -- an axis that none of them has
  pub gathered_other : (n s a : ℕ) → ((q : ℕ) → s ≤ q → q < n + s → axis q ≡ a → ⊥) →
      epoch_at (gathered (tabled n s)) a ≡ 0
  gathered_other zero s a other = unfold gathered tabulate_from in (epoch_none a)
  gathered_other (suc n) s a other =
      here n s a
      ∙ rw (
        ne_eqb (axis s) a (other s (omega arith) (omega arith)),
        gathered_other n (suc s) a (λ q l h. other q (omega arith) (omega arith)),
      ) (omega arith)

  -- an axis that one of them has
  pub gathered_own : (n s : ℕ) → ((i k : ℕ) → s ≤ i → i < k → k < n + s → axis i ≡ axis k → ⊥) → (q : ℕ) →
      s ≤ q → q < n + s →
      epoch_at (gathered (tabled n s)) (axis q) ≡ epoch q
  gathered_own zero s distinct q l h = absurd (omega arith)
  gathered_own (suc n) s distinct q l h =
      here n s (axis q)
      ∙ by_cases (eqb s q)
      (λ t. let e = eqb-true s q t in
      rw (
        eq-eqb (axis s) (axis q) (ap axis e),
        gathered_other n (suc s) (axis q) (λ k m b z. distinct q k l (omega arith) (omega arith) (sym z)),
      )
      (ap₂ max (ap epoch e) refl ∙ omega arith))
      (λ t. let ne = eqb-false s q t in
      rw (
        ne_eqb (axis s) (axis q) (distinct s q (omega arith) (omega arith) h),
        gathered_own n (suc s) (λ i k m b z. distinct i k (omega arith) b (omega arith)) q (omega arith) (omega arith),
      ) (omega arith))
