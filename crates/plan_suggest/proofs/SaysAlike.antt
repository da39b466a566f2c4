-- What the question for a wait says of a plan it says of every input that begins so. Assumes nothing.
use mathlib.Core.Path.{◌≡◌, sym}
use mathlib.Core.List.{List}
use Prim.Native.Nat.{ℕ}
use lib.ListN.{length}
use Rattle.plan_format.specs.Stored.{scanned}
use Rattle.plan_format.specs.declared.Told.{Told}
use Rattle.plan_format.proofs.Prefix.{ReadsAlike, plan_alike}
use Rattle.plan_order.proofs.FirstBytes.{judged_alike}
use Rattle.plan_suggest.specs.declared.Advice.{Advice}
use Rattle.plan_suggest.specs.Suggest.{suggest_outcome, SuggestSays}

module _ (bs cs : List ℕ) (read : ReadsAlike (scanned bs) (scanned cs)) where
  outcome_alike : (q b t l : ℕ) → suggest_outcome bs q b t l ≡ suggest_outcome cs q b t l
  unfolding suggest_outcome
  outcome_alike q b t l = rw ((judged_alike bs cs read).check t l, plan_alike bs cs read)

  pub suggest_says_alike : (q b : ℕ) (r : Told) (a : Advice) (t x l y : List ℕ) →
      SuggestSays bs q b r a t x l y → SuggestSays cs q b r a t x l y
  suggest_says_alike q b r a t x l y s =
      let o = outcome_alike q b (length t) (length l) in
      let p = plan_alike bs cs read in
      record { says = rw (sym o, sym p) s.says; advice_is = rw (sym o, sym p) s.advice_is }
