-- What the answers mean: completions of a frontier, and what lookup, merge, raise and dominance promise of their
-- answers. Assumes nothing: these are definitions.
use Rattle.std.specs.Prelude.{◌≡◌, Bool, true, false, ◌||◌, cond, List, ℕ, ◌+◌, ◌≤◌, ◌<◌, max, min, ltb, leb, eqb}
use Rattle.std.specs.Prelude.{length}
use Rattle.axis_search.specs.Halving.{most_reads, Range, searched, Halves}
use Rattle.frontier.specs.declared.Frontier.{Frontier}
use Rattle.frontier.specs.declared.Merged.{Merged}
use Rattle.std.specs.Prelude.{Option, Some, None}
use Rattle.frontier.specs.Frontiers.{Verdict, Yes, No, Unknown}
use Rattle.frontier_slots.specs.declared.Entry.{Entry}
use Rattle.frontier_slots.specs.Entries.{most_entries, find, values_of, epochs_under, union, exceeding}
use Rattle.frontier_slots.specs.Slots.{slot}
use Rattle.frontier.specs.Frontiers.{entries, well_formed, pack, one_entry, merge, dominance_number}
use Rattle.frontier.specs.Frontiers.{number_of, looked_up}

-- COMPLETIONS

-- the epoch of a lookup: an absent axis is at 0, below every entry's epoch
unfoldable pub epoch_of : Option ℕ → ℕ
epoch_of (Some e) = e
epoch_of None = 0

unfoldable pub epoch_at : List Entry → (axis : ℕ) → ℕ
epoch_at xs a = epoch_of (find a xs)

-- `full` is what a frontier may stand for: a map from axes to epochs that is at least what is listed, and exactly that
-- where nothing was lost
pub record Completion (f : Frontier) (full : ℕ → ℕ) : Type 0 where
  pub at_least : (axis : ℕ) → epoch_at (entries f) axis ≤ full axis
  pub exact : f.tainted ≡ false → (axis : ℕ) → full axis ≡ epoch_at (entries f) axis

-- one map dominates another
abbrev pub Over : (full other : ℕ → ℕ) → Type 0
Over full other = (axis : ℕ) → other axis ≤ full axis

-- no epoch but the listed ones, and 1 under an axis of at most sixteen: so a map of 64-bit axes to 64-bit epochs
abbrev pub Small : (f g : Frontier) → (full : ℕ → ℕ) → Type 0
Small f g full = (axis : ℕ) →
    full axis ≤ max (max (epoch_at (entries f) axis) (epoch_at (entries g) axis)) (cond (leb axis most_entries) 1 0)

-- LOOKUP

-- R60: of any frontier the lookup gives what is in the slot that the search by halving finds, for which it reads at
-- most five of sixteen. If the frontier is well formed, it gives every epoch listed under the axis, one or none, and
-- each slot that is read leaves at most half of those in question, with every slot of the axis; of any other, which the
-- rules leave unspecified, it gives, if anything, what is in a slot below the length, and nothing where that is over
-- sixteen
pub record Looked (f : Frontier) (axis : ℕ) (r : Option ℕ) : Type 0 where
  pub by_halving : r ≡ looked_up f axis
  pub few_read : (searched f.axes axis f.len).read ≤ most_reads
  pub found : well_formed f ≡ true → r ≡ find axis (entries f)
  pub exactly : well_formed f ≡ true → values_of r ≡ epochs_under axis (entries f)
  pub halves : well_formed f ≡ true → (range : Range) → 0 < range.many → range.low + range.many ≤ f.len →
      Halves f.axes axis range
  pub in_a_slot : (epoch : ℕ) → r ≡ Some epoch → (i : ℕ) × (i < f.len) × (f.len ≤ most_entries)
      × (slot f.axes f.epochs i ≡ record { axis = axis; epoch = epoch })

-- MERGE AND RAISE

-- a found entry that passes a test
unfoldable pub listed_if : (Entry → Bool) → (axis : ℕ) → Option ℕ → Option ℕ
listed_if f a (Some e) = cond (f (record { axis = a; epoch = e })) (Some e) None
listed_if f a None = None

abbrev pub both : (f g : Frontier) → List Entry
both f g = union (entries f) (entries g)

-- what a merge hands back that is not refused
pub record MergeMeans (f g : Frontier) (capacity : ℕ) (r : Frontier) : Type 0 where
  -- R61: the larger epoch of each axis
  pub larger : (axis : ℕ) → epoch_at (both f g) axis ≡ max (epoch_at (entries f) axis) (epoch_at (entries g) axis)
  -- R62: an entry stays exactly if fewer than the capacity exceed it
  pub stays : (axis : ℕ) →
      find axis (entries r) ≡ listed_if (λ x. ltb (exceeding x (both f g)) capacity) axis (find axis (both f g))
  -- and as many stay as the capacity holds
  pub fills : length (entries r) ≡ min capacity (length (both f g))
  -- R63: tainted exactly if a side was or something was cut
  pub taint : r.tainted ≡ ((f.tainted || g.tainted) || ltb (length (entries r)) (length (both f g)))
  -- nothing is lost that the taint does not tell of
  pub completions : (full other : ℕ → ℕ) → Completion f full → Completion g other →
      Completion r (λ axis. max (full axis) (other axis))
  -- R66
  pub idempotent : f ≡ g → f.len ≤ capacity → r ≡ f
  -- R66, and more: of three frontiers at one capacity, in any grouping, also where they are cut
  pub associates : (h : Frontier) → well_formed h ≡ true →
      merge r h capacity ≡ merge f (merge g h capacity).frontier capacity

-- what holds of every merge, refused or not
pub record MergeRight (f g : Frontier) (capacity : ℕ) (r : Merged) : Type 0 where
  pub formed : well_formed r.frontier ≡ true
  pub commutes : r ≡ merge g f capacity
  pub means : r.number ≡ 0 → MergeMeans f g capacity r.frontier

-- the axis at least at the epoch, and every other as it was
abbrev pub raised : (full : ℕ → ℕ) → (axis epoch : ℕ) → (ℕ → ℕ)
raised full axis epoch a = max (full a) (cond (eqb axis a) epoch 0)

-- R64: what holds of every raise
pub record RaiseRight (f : Frontier) (axis epoch capacity : ℕ) (r : Merged) : Type 0 where
  pub merged : MergeRight f (pack (one_entry axis epoch) false) capacity r
  pub completions : r.number ≡ 0 → (full : ℕ → ℕ) → Completion f full →
      Completion r.frontier (raised full axis epoch)

-- DOMINANCE

-- R68: yes, every completion of f dominates every completion of g; no, none does; unknown, there are completions of
-- both kinds
pub record DominanceMeans (f g : Frontier) (r : Verdict) : Type 0 where
  pub number : (number_of r).number ≡ dominance_number f g
  pub if_yes : r ≡ Yes → (full other : ℕ → ℕ) → Completion f full → Completion g other → Over full other
  pub if_no : r ≡ No → (full other : ℕ → ℕ) → Completion f full → Completion g other → Over full other → ⊥
  pub if_unknown : r ≡ Unknown →
      (full : ℕ → ℕ) × (other : ℕ → ℕ) × Completion f full × Completion g other × Small f g full × Small f g other ×
      Over full other
  pub nor_yes : r ≡ Unknown →
      (full : ℕ → ℕ) × (other : ℕ → ℕ) × Completion f full × Completion g other × Small f g full × Small f g other ×
      (Over full other → ⊥)
