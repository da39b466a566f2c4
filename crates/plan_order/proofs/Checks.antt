-- What a caller of the check gets with what it says. Assumes nothing.
use mathlib.Core.Path.{sym, ◌∙◌, subst₂}
use mathlib.Core.List.{List, ◌∷◌}
use Prim.Native.Nat.{ℕ}
use lib.ListN.{length}
use Rattle.plan_format.specs.RefusalNumbers.{order_numbers}
use Rattle.plan_format.specs.Stored.{plan_in}
use Rattle.plan_format.specs.declared.Told.{Told}
use Rattle.plan_format.proofs.RefusalNumbers.{one_is}
use Rattle.plan_format.proofs.Positions.{limits_above_zero}
use Rattle.plan_format.proofs.Plans.{scanned_limits}
use Rattle.plan_order.specs.Check.{CheckSays}
use Rattle.plan_order.specs.Promise.{Demand3Stored, Demand2, Checked}
use Rattle.plan_order.proofs.CheckMeaning.{answer_unrefused, check_means}
use Rattle.plan_order.proofs.OutcomeMeaning.{check_left, passed_leaves}
use Rattle.plan_order.proofs.OnlyOwners.{by_owners}
use Rattle.plan_order.proofs.RunMeaning.{ready_means}
use Rattle.plan_order.proofs.Readiness.{WaitsGood}
use Rattle.plan_order.proofs.Promises.{demand_3_stored, demand_3_of_plans}
use Rattle.plan_order.proofs.FirstBytes.{first_bytes}
use Rattle.plan_order.proofs.AsBefore.{checks_as_before}

pub checked : (bs : List ℕ) (r : Told) (t x l y : List ℕ) → CheckSays bs r t x l y → Checked bs r t x l y
unfolding CheckSays Demand2
checked bs r t x l y s =
    let left_there = check_left bs r t x l y s in
    let n = s.tells.number in
    let third = subst₂ (λ (a b : ℕ). Demand3Stored bs (length t) (length l) a b) (sym n) (sym s.tells.place)
    (demand_3_stored bs (length t) (length l)) in
    record {
      says = s;
      number = n;
      place = s.tells.place;
      means = check_means bs (length t) (length l);
      answers = λ w. answer_unrefused bs (length t) (length l) (one_is (0 ∷ order_numbers) (sym n) w);
      demand_3 = third;
      demand_2 = λ z. (left_there.rows_and_run (passed_leaves bs (length t) (length l) (sym n ∙ z))).0.entry;
      left = left_there;
      owners = λ only. by_owners bs only r t x l y s;
      readies = λ read low. ready_means (plan_in bs)
          (record { above_zero = limits_above_zero (scanned_limits bs read); low_enough = low });
      demand_3_of_plans = demand_3_of_plans bs (length t) (length l) r.number r.place third;
      first_bytes = first_bytes bs;
      as_before = checks_as_before bs r t x l y s;
    }
