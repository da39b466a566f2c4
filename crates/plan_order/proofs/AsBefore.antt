-- What is asked of bytes in the first form is answered by that form alone. Assumes nothing.
use mathlib.Core.Path.{◌≡◌}
use mathlib.Core.List.{List}
use Prim.Native.Nat.{ℕ}
use lib.ListN.{length}
use Rattle.base_lists.proofs.Tests.{by_cases}
use Rattle.plan_format.specs.Refusal.{Refusal, given, or_refusal}
use Rattle.plan_format.specs.AsBefore.{first_scan, first_plan, NotSecond}
use Rattle.plan_format.specs.Sound.{rules_refusal}
use Rattle.plan_format.specs.declared.Told.{Told}
use Rattle.plan_format.proofs.AsBefore.{as_before}
use Rattle.plan_order.specs.Check.{untouched, Outcome, outcome, or_then, order_outcome, check_outcome}
use Rattle.plan_order.specs.Check.{plan_outcome, CheckSays}
use Rattle.plan_order.specs.Reuse.{reuse_outcome}
use Rattle.plan_order.specs.AsBefore.{first_outcome, JudgedAsBefore, ChecksAsBefore}

-- of two refusals with the same left untouched the first decides, and then the rest
first_of_two : (f g : Refusal) (o : Outcome) →
    or_then (outcome (or_refusal f g) untouched) o ≡
    or_then (outcome f untouched) (or_then (outcome g untouched) o)
unfolding or_then outcome or_refusal
first_of_two f g o = by_cases (given f) (λ h. rw (h, h)) (λ h. rw h)

module _ (bs : List ℕ) (h : NotSecond bs) where
  check_as_before : (t l : ℕ) → check_outcome bs t l ≡ first_outcome bs t l
  unfolding check_outcome first_outcome plan_outcome
  check_as_before t l =
      let b = as_before.read bs h in
      rw (b.refusal, b.plan)
      (first_of_two (first_scan bs).fault (rules_refusal (first_plan bs)) (order_outcome (first_plan bs) t l))

  pub judged_as_before : JudgedAsBefore bs
  unfolding reuse_outcome
  judged_as_before =
      let e = (as_before.read bs h).plan in
      record { plan = e; check = check_as_before; reuse = λ q b t l. rw (check_as_before t l, e) }

pub checks_as_before : (bs : List ℕ) (r : Told) (t x l y : List ℕ) → CheckSays bs r t x l y →
    ChecksAsBefore bs r t x l y
unfolding CheckSays
checks_as_before bs r t x l y s h =
    let b = judged_as_before bs h in
    rw (← b.check (length t) (length l), ← b.plan) s
