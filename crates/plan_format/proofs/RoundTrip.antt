-- Writing what was read gives the same bytes, reading what was written gives the same numbers, and one plan has one
-- string of bytes, in whichever form. Assumes nothing.
use mathlib.Core.Path.{◌≡◌, sym, ap, ◌∙◌, subst}
use mathlib.Core.Bool.{true}
use mathlib.Core.List.{List, []}
use Prim.Native.Nat.{ℕ}
use lib.ListN.{length}
use Rattle.plan_format.specs.Refusal.{none_given}
use Rattle.plan_format.specs.Grammar.{Scan, scan}
use Rattle.plan_format.specs.Plan.{plan_of}
use Rattle.plan_format.specs.Limits.{Within, numbers_of, bytes_of}
use Rattle.plan_format.specs.Stored.{all_bytes, scanned, listed, plan_in, spelled}
use Rattle.plan_format.specs.Promise.{OneString, StoredPlan}
use Rattle.plan_format.proofs.Plans.{listed_within}
use Rattle.plan_format.proofs.Taking.{takes_plans}

-- bytes that are read are those of the plan that they tell
read_plan : (bs : List ℕ) → all_bytes bs ≡ true → (scanned bs).fault.number ≡ 0 →
    Within (plan_in bs) × (bs ≡ bytes_of (plan_in bs))
read_plan bs b = (takes_plans.read bs b).0

pub one_string : OneString
unfolding OneString plan_in
one_string bs cs b c e f g =
    (read_plan bs b e).1 ∙ ap (λ (z : List ℕ). bytes_of (plan_of z)) g ∙ sym (read_plan cs c f).1

-- ---- both ways back
module _ (bs : List ℕ) (b : all_bytes bs ≡ true) (e : (scanned bs).fault.number ≡ 0) where
  stored : StoredPlan (plan_in bs)
  stored = takes_plans.every (plan_in bs) (read_plan bs b e).0

  got_numbers : (scanned bs).got ≡ numbers_of (plan_in bs)
  unfolding scan
  got_numbers = ap (λ (z : List ℕ). (scanned z).got) (read_plan bs b e).1 ∙ ap (λ (s : Scan). s.got) stored.read

  -- the writer takes the numbers read as they are
  pub listed_scanned : listed (scanned bs).got ≡ scan [] (length (scanned bs).got) (scanned bs).got none_given
  listed_scanned = subst (λ (xs : List ℕ). listed xs ≡ scan [] (length xs) xs none_given) (sym got_numbers)
      stored.taken

  -- and writes the bytes read
  pub spelled_scanned : spelled (scanned bs).got ≡ bs
  spelled_scanned = ap spelled got_numbers ∙ stored.written ∙ sym (read_plan bs b e).1

module _ (xs : List ℕ) (e : (listed xs).fault.number ≡ 0) where
  taken : StoredPlan (plan_of xs)
  taken = takes_plans.every (plan_of xs) (listed_within xs e).0

  written : spelled xs ≡ bytes_of (plan_of xs)
  written = ap spelled (listed_within xs e).1 ∙ taken.written

  pub spelled_bytes : all_bytes (spelled xs) ≡ true
  spelled_bytes = ap all_bytes written ∙ taken.are_bytes

  -- the reader gets the numbers written
  pub scanned_spelled : scanned (spelled xs) ≡ scan [] (length (spelled xs)) xs none_given
  scanned_spelled =
      ap scanned written ∙ taken.read
      ∙ ap (λ (z : List ℕ). scan [] (length (bytes_of (plan_of xs))) z none_given) (sym (listed_within xs e).1)
      ∙ ap (λ (z : List ℕ). scan [] (length z) xs none_given) (sym written)
