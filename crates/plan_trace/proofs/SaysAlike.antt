-- What the question says of a plan and a trace it says of all that are judged alike. Assumes nothing.
use mathlib.Core.Path.{◌≡◌, sym}
use mathlib.Core.List.{List}
use Prim.Native.Nat.{ℕ}
use lib.ListN.{length}
use Rattle.plan_format.specs.Stored.{scanned}
use Rattle.plan_format.specs.declared.Told.{Told}
use Rattle.plan_format.proofs.Prefix.{ReadsAlike, plan_alike}
use Rattle.plan_order.proofs.FirstBytes.{judged_alike}
use Rattle.plan_trace.specs.declared.Traced.{Traced}
use Rattle.plan_trace.specs.Question.{own_refusal, trace_outcome, TraceSays}
use Rattle.plan_trace.specs.Promise.{TracedAlike}

module _ (bs cs ts us : List ℕ) (read : ReadsAlike (scanned bs) (scanned cs))
    (alike : TracedAlike ts us) where
  outcome_alike : (t l s : ℕ) → trace_outcome bs ts t l s ≡ trace_outcome cs us t l s
  unfolding trace_outcome own_refusal
  outcome_alike t l s = rw ((judged_alike bs cs read).check t l, alike.refusal)

  pub trace_says_alike : (r : Told) (x : Traced) (t tx l lx s sx : List ℕ) → TraceSays bs ts r x t tx l lx s sx →
      TraceSays cs us r x t tx l lx s sx
  trace_says_alike r x t tx l lx s sx w =
      let o = outcome_alike (length t) (length l) (length s) in
      let p = plan_alike bs cs read in
      record {
        says = rw (sym o, sym p, sym alike.steps) w.says;
        traced_is = rw (sym o, sym p, sym alike.steps) w.traced_is;
        state_holds = rw (sym o, sym p, sym alike.steps) w.state_holds;
      }
