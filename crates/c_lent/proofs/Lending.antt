-- The frontier of lent numbers by its slots, and what is stored of a merge that fills room for slots. Assumes nothing.
use mathlib.Core.Path.{◌≡◌, refl, sym, ap, ◌∙◌}
use mathlib.Core.Bool.{true, false, not, cond}
use mathlib.Core.List.{List, [], ◌∷◌}
use Prim.Native.Nat.{ℕ, ◌≤◌}
use native.Mathlib.Omega.{arith}
use lib.Dec.{ltb, eqb}
use lib.ListN.{length, get_or, take, drop}
use lib.Seq.{length-take-le}
use Rattle.frontier.specs.declared.Frontier.{Frontier}
use Rattle.frontier.specs.declared.Merged.{Merged}
use Rattle.frontier.specs.Walks.{Laid}
use Rattle.std.specs.Prelude.{Option, Some, None}
use Rattle.frontier.specs.Frontiers.{Verdict}
use Rattle.frontier_slots.specs.Entries.{most_entries}
use Rattle.frontier.specs.Frontiers.{well_formed, merge, raise, dominance, looked_up}
use Rattle.frontier.specs.Meaning.{epoch_of}
use Rattle.frontier.specs.Walks.{of_slots, Fills, filled}
use Rattle.frontier.proofs.Merge.{merge_formed}
use Rattle.frontier.proofs.Raise.{raise_formed}
use Rattle.frontier.proofs.Fill.{filled_right}
use Rattle.c_told.specs.Told.{told_of}
use Rattle.c_lent.specs.Lent.{epochs_at, length_at, taint_at, over_long, frontier_of}
use Rattle.c_lent.specs.Lent.{list_of, MergeStored, listed_value, LookupSays}

-- LENT NUMBERS
-- the length that is taken
abbrev pub LengthIs : (ns : List ℕ) → (len : ℕ) → Type 0
LengthIs ns len = len ≡ cond (ltb 1 (get_or ns taint_at 0)) over_long (get_or ns length_at 0)

abbrev slots_of : (ns : List ℕ) → (len : ℕ) → Frontier
slots_of ns len =
    of_slots (take most_entries ns) (take most_entries (drop epochs_at ns)) len (not (eqb (get_or ns taint_at 0) 0))

lent_slots : (ns : List ℕ) (len : ℕ) → LengthIs ns len → slots_of ns len ≡ frontier_of ns
unfolding frontier_of
lent_slots ns len e = rw e refl

-- the first slots of lent numbers, or of room for slots
pub first_long : {n : ℕ} (row : List ℕ) → length row ≡ n → most_entries ≤ n →
    most_entries ≡ length (take most_entries row)
first_long row e l = sym (length-take-le most_entries row (omega (arith, e, l)))

stored : (m : Merged) (r : Laid) (axes epochs numbers : List ℕ) → well_formed m.frontier ≡ true →
    Fills m r axes epochs → numbers ≡ list_of (filled r axes epochs).frontier → MergeStored m r.number numbers
stored m r axes epochs numbers f w e =
    let q = filled_right m r axes epochs f w in
    (ap (λ (k : Merged). k.number) q, e ∙ ap (λ (k : Merged). list_of k.frontier) q)

module _ (left right : List ℕ) (xn yn capacity : ℕ) (r : Laid) (axes epochs : List ℕ)
    (w : Fills (merge (slots_of left xn) (slots_of right yn) capacity) r axes epochs) where
  pub merge_stored : (numbers : List ℕ) → LengthIs left xn → LengthIs right yn →
      numbers ≡ list_of (filled r axes epochs).frontier →
      MergeStored (merge (frontier_of left) (frontier_of right) capacity) r.number numbers
  merge_stored numbers p q e =
      rw (← lent_slots left xn p, ← lent_slots right yn q)
      (stored (merge (slots_of left xn) (slots_of right yn) capacity) r axes epochs numbers
      (merge_formed (slots_of left xn) (slots_of right yn) capacity) w e)

module _ (old : List ℕ) (len axis epoch capacity : ℕ) (r : Laid) (axes epochs : List ℕ)
    (w : Fills (raise (slots_of old len) axis epoch capacity) r axes epochs) where
  pub raise_stored : (numbers : List ℕ) → LengthIs old len →
      numbers ≡ list_of (filled r axes epochs).frontier →
      MergeStored (raise (frontier_of old) axis epoch capacity) r.number numbers
  raise_stored numbers p e =
      rw (← lent_slots old len p)
      (stored (raise (slots_of old len) axis epoch capacity) r axes epochs numbers
      (raise_formed (slots_of old len) axis epoch capacity) w e)

-- QUESTIONS
pub dominance_lent : (left right : List ℕ) (xn yn : ℕ) (r : Verdict) → LengthIs left xn → LengthIs right yn →
    r ≡ dominance (slots_of left xn) (slots_of right yn) → r ≡ dominance (frontier_of left) (frontier_of right)
dominance_lent left right xn yn r p q e = rw (← lent_slots left xn p, ← lent_slots right yn q) e

pub lookup_lent : (ns : List ℕ) (len axis : ℕ) (r : Option ℕ) → LengthIs ns len →
    r ≡ looked_up (of_slots (take most_entries ns) (take most_entries (drop epochs_at ns)) len false) axis →
    r ≡ looked_up (frontier_of ns) axis
unfolding looked_up
lookup_lent ns len axis r p e = rw (← lent_slots ns len p) e

-- what is told of an absent axis, and of a listed one
pub absent_says : (q r : Option ℕ) (told : List ℕ) → r ≡ q → r ≡ None →
    told_of told ≡ record { number = 0; place = 0; answer = 0 } → LookupSays q told (0 ∷ [])
unfolding listed_value epoch_of
absent_says q r told e a t = rw (← e, a) (t, refl)

pub listed_says : (q r : Option ℕ) (told : List ℕ) (epoch : ℕ) → r ≡ q → r ≡ Some epoch →
    told_of told ≡ record { number = 0; place = 0; answer = 1 } → LookupSays q told (epoch ∷ [])
unfolding listed_value epoch_of
listed_says q r told epoch e a t = rw (← e, a) (t, refl)
