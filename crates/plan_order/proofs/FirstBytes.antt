-- Bytes that are read alike are judged alike, and what a call says of the one it says of the other; so the first bytes
-- of an input decide. Assumes nothing.
use mathlib.Core.Path.{◌≡◌, sym, ap}
use mathlib.Core.List.{List}
use Prim.Native.Nat.{ℕ, ◌+◌}
use lib.ListN.{length, take}
use Rattle.plan_format.specs.Sizes.{plan_bytes, most_input}
use Rattle.plan_format.specs.Plan.{Plan}
use Rattle.plan_format.specs.Stored.{scanned}
use Rattle.plan_format.specs.declared.Told.{Told}
use Rattle.plan_format.proofs.Prefix.{ReadsAlike, first_bytes_decide, judged_bytes_decide, plan_alike, refusal_alike}
use Rattle.plan_order.specs.Rows.{rows}
use Rattle.plan_order.specs.Runs.{run_list}
use Rattle.plan_order.specs.Check.{check_outcome, CheckSays}
use Rattle.plan_order.specs.Reuse.{verdict, reuse_outcome, ReuseSays}
use Rattle.plan_order.specs.Promise.{JudgedAlike, FirstBytes}

module _ (bs cs : List ℕ) (alike : ReadsAlike (scanned bs) (scanned cs)) where
  check_alike : (t l : ℕ) → check_outcome bs t l ≡ check_outcome cs t l
  unfolding check_outcome
  check_alike t l = rw (plan_alike bs cs alike, refusal_alike bs cs alike)

  reuse_alike : (q b t l : ℕ) → reuse_outcome bs q b t l ≡ reuse_outcome cs q b t l
  unfolding reuse_outcome
  reuse_alike q b t l = rw (check_alike t l, plan_alike bs cs alike)

  pub judged_alike : JudgedAlike bs cs
  judged_alike =
      let e = plan_alike bs cs alike in
      record {
        plan = e;
        refusal = refusal_alike bs cs alike;
        check = check_alike;
        reuse = reuse_alike;
        rows_of = ap rows e;
        run_of = ap run_list e;
        verdict_of = λ q b. ap (λ (p : Plan). verdict p q b) e;
      }

  -- ---- what a call says
  pub check_says_alike : (r : Told) (t x l y : List ℕ) → CheckSays bs r t x l y → CheckSays cs r t x l y
  unfolding CheckSays
  check_says_alike r t x l y s = rw (sym (check_alike (length t) (length l)), sym (plan_alike bs cs alike)) s

  pub reuse_says_alike : (q b : ℕ) (r : Told) (t x l y : List ℕ) → ReuseSays bs q b r t x l y →
      ReuseSays cs q b r t x l y
  unfolding ReuseSays
  reuse_says_alike q b r t x l y s = rw (sym (reuse_alike q b (length t) (length l)), sym (plan_alike bs cs alike)) s

pub first_bytes : (bs : List ℕ) → FirstBytes bs
first_bytes bs = record {
  of_all = judged_alike bs (take (plan_bytes + 1) bs) (first_bytes_decide bs);
  of_judged = λ h. judged_alike bs (take (most_input + 1) bs) (judged_bytes_decide bs h);
}
