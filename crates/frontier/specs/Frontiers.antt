-- Frontiers as the code has them: their entries and form, merge, raise and dominance with their numbers. Assumes
-- nothing: these are definitions.
use Rattle.std.specs.Prelude.{Bool, true, false, ◌&&◌, ◌||◌, cond, List, [], ◌∷◌, ◌++◌, map, ℕ, ◌-◌, ltb, leb, eqb}
use Rattle.std.specs.Prelude.{length, replicate}
use Rattle.axis_search.specs.Halving.{searched}
use Rattle.frontier.specs.declared.Frontier.{Frontier}
use Rattle.frontier.specs.declared.Merged.{Merged}
use Rattle.std.specs.Prelude.{Option, Some, None, Result, Ok, Err}
use Rattle.frontier.specs.declared.Dominance.{Dominance}
use Rattle.frontier.specs.declared.Dominance.TheVariants as told
use Rattle.frontier.specs.declared.Unfit.{Unfit}
use Rattle.frontier.specs.declared.Unfit.TheVariants.{Form, Capacity}
use Rattle.frontier_slots.specs.declared.Entry.{Entry}
use Rattle.frontier_slots.specs.Entries.{most_entries, find, union, cut}
use Rattle.frontier_slots.specs.Slots.{slots, slots_formed, lookup_at}

unfoldable pub entries : Frontier → List Entry
entries f = slots f.axes f.epochs f.len 0

-- R60, lookup: what is in the slot that the search by halving finds
unfoldable pub looked_up : (f : Frontier) → (axis : ℕ) → Option ℕ
looked_up f axis = lookup_at f.epochs (searched f.axes axis f.len).at

-- R59, form: what a frontier is that is not refused by 14 (R50)
abbrev pub well_formed : Frontier → Bool
well_formed f = slots_formed f.axes f.epochs f.len

-- the frontier of at most sixteen entries; R59: of none, the empty frontier
unfoldable pub pack : List Entry → (tainted : Bool) → Frontier
pack xs tainted = record {
  axes = map (λ x. x.axis) xs ++ replicate (most_entries - length xs) 0;
  epochs = map (λ x. x.epoch) xs ++ replicate (most_entries - length xs) 0;
  len = length xs;
  tainted = tainted;
}

-- R67: beside a refusal, the empty untainted frontier
unfoldable pub refusal : (number : ℕ) → Merged
refusal number = record { number = number; frontier = pack [] false }

-- R61 to R63: two lists joined and cut; tainted if something was cut or a side was tainted
unfoldable pub joined : (xs ys : List Entry) → (tainted : Bool) → (capacity : ℕ) → Frontier
joined xs ys tainted capacity = pack (cut capacity (union xs ys)) (tainted || ltb capacity (length (union xs ys)))

-- R51, refusal 15: a capacity is at least 1, and at most as many as a frontier has entries
abbrev pub capable : (capacity : ℕ) → Bool
capable capacity = leb 1 capacity && leb capacity most_entries

-- R67, refusals of a merge: the capacity, then the left side, then the right
unfoldable pub merge_number : (f g : Frontier) → (capacity : ℕ) → ℕ
merge_number f g capacity =
    cond (capable capacity) (cond (well_formed f) (cond (well_formed g) 0 14) 14) 15

-- a merge that is not refused
abbrev pub handed : Frontier → Merged
handed f = record { number = 0; frontier = f }

unfoldable pub merge : (f g : Frontier) → (capacity : ℕ) → Merged
merge f g capacity =
    cond (eqb (merge_number f g capacity) 0)
    (handed (joined (entries f) (entries g) (f.tainted || g.tainted) capacity))
    (refusal (merge_number f g capacity))

-- R64, raise: with which entries it merges
unfoldable pub one_entry : (axis epoch : ℕ) → List Entry
one_entry a e = cond (eqb e 0) [] (record { axis = a; epoch = e } ∷ [])

-- every entry of epoch above 0, sorted by axis, of equal axes the larger epoch
unfoldable pub gathered : List Entry → List Entry
gathered [] = []
gathered (x ∷ xs) = union (one_entry x.axis x.epoch) (gathered xs)

unfoldable pub raise : Frontier → (axis epoch capacity : ℕ) → Merged
raise f a e capacity = merge f (pack (one_entry a e) false) capacity

-- R68: an entry is reached if its axis is listed with at least its epoch; R60: not if it is absent
unfoldable pub met : Option ℕ → (epoch : ℕ) → Bool
met (Some e) n = leb n e
met None n = false

-- R68: every entry is reached
unfoldable pub reached : (xs ys : List Entry) → Bool
reached xs [] = true
reached xs (y ∷ ys) = met (find y.axis xs) y.epoch && reached xs ys

-- R50, R51: the number of each reason, and of a result
abbrev pub number_of_unfit : Unfit → ℕ
number_of_unfit Form = 14
number_of_unfit Capacity = 15

abbrev pub number_by : {A : Type 0} → Result A Unfit → ℕ
number_by (Ok x) = 0
number_by (Err e) = number_of_unfit e

-- R68: what is said of dominance, a refusal's number among it
pub data Verdict : Type 0 where
  Yes : Verdict
  No : Verdict
  Unknown : Verdict
  Refused : (number : ℕ) → Verdict

-- by the result of a call
abbrev pub verdict : Result Dominance Unfit → Verdict
verdict (Ok told.Yes) = Yes
verdict (Ok told.No) = No
verdict (Ok told.Unknown) = Unknown
verdict (Err e) = Refused (number_of_unfit e)

-- R68, dominance: where all is reached the taint of g decides, else the taint of f
unfoldable pub answer : (all_reached f_tainted g_tainted : Bool) → Verdict
answer true f_tainted false = Yes
answer true f_tainted true = Unknown
answer false false g_tainted = No
answer false true g_tainted = Unknown

-- R67, refusals of dominance: the left side, then the right
unfoldable pub dominance_number : (f g : Frontier) → ℕ
dominance_number f g = cond (well_formed f) (cond (well_formed g) 0 14) 14

unfoldable pub dominance : (f g : Frontier) → Verdict
dominance f g =
    cond (eqb (dominance_number f g) 0) (answer (reached (entries f) (entries g)) f.tainted g.tainted)
    (Refused (dominance_number f g))

-- R77: the numbers of an answer: a refusal's number, 0 for none, and the value of the answer, 0 beside a refusal
pub record Numbers : Type 0 where
  pub number : ℕ
  pub value : ℕ

unfoldable pub number_of : Verdict → Numbers
number_of No = record { number = 0; value = 0 }
number_of Yes = record { number = 0; value = 1 }
number_of Unknown = record { number = 0; value = 2 }
number_of (Refused n) = record { number = n; value = 0 }
