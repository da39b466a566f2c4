-- The outcome of the question for a frontier: the plan first, then the operation, then the capacity; what each hands
-- back and leaves. Assumes nothing.
use mathlib.Core.Path.{◌≡◌, refl}
use mathlib.Core.Bool.{true}
use mathlib.Core.Logic.{◌⊎◌, inl, inr, ◌↔◌}
use mathlib.Core.List.{List}
use Prim.Native.Nat.{ℕ, ◌≤◌, ◌<◌}
use native.Mathlib.Omega.{arith}
use lib.Dec.{leb}
use borrow.Author.Tests.{leb-true, leb-false, le-leb, lt-leb}
use Rattle.base_lists.specs.Lists.{member, all}
use Rattle.base_lists.proofs.Tests.{by_cases}
use Rattle.plan_format.specs.Plan.{Plan, count}
use Rattle.plan_format.specs.Refusal.{Refusal, refusal, none_given, given, or_refusal}
use Rattle.plan_format.specs.RefusalNumbers.{NoneOr, sent_numbers, sent_gives}
use Rattle.plan_format.specs.Stored.{plan_in}
use Rattle.plan_format.specs.Meaning.{Refuses}
use Rattle.plan_order.specs.Check.{rows_and_run, outcome, check_outcome}
use Rattle.plan_order.specs.Meaning.{Gives, LeavesBy}
use Rattle.plan_order.specs.Promise.{Safe, unrefused}
use Rattle.plan_order.proofs.Asking as asking
use Rattle.ask_frontier.specs.Sent.{sent_refusal, sent_outcome}

-- ---- the question's own refusals
module _ (p : Plan) (j c : ℕ) where
  pub no_operation : count p ≤ j → Refuses (sent_refusal p j c) 21 j
  unfolding sent_refusal or_refusal refusal given
  no_operation h = rw (le-leb (count p) j h) (refl, refl)

  pub no_capacity : j < count p → (c < 1) ⊎ (16 < c) → Refuses (sent_refusal p j c) 15 0
  unfolding sent_refusal or_refusal refusal given none_given
  no_capacity h (inl z) = rw (lt-leb (count p) j h, lt-leb 1 c z) (refl, refl)
  no_capacity h (inr z) = rw (lt-leb (count p) j h, le-leb 1 c (omega arith), lt-leb c 16 z) (refl, refl)

  pub none_refused : j < count p → 1 ≤ c → c ≤ 16 → Refuses (sent_refusal p j c) 0 0
  unfolding sent_refusal or_refusal refusal given none_given
  none_refused h l k = rw (lt-leb (count p) j h, le-leb 1 c l, le-leb c 16 k) (refl, refl)

  data OwnCase (n : ℕ) : Type 0 where
    operation_case : n ≡ 21 → count p ≤ j → OwnCase n
    capacity_case : n ≡ 15 → j < count p → (c < 1) ⊎ (16 < c) → OwnCase n
    answer_case : n ≡ 0 → j < count p → 1 ≤ c → c ≤ 16 → OwnCase n

  own_case : OwnCase (sent_refusal p j c).number
  own_case =
      by_cases (leb (count p) j) (λ u. let h = leb-true (count p) j u in operation_case (no_operation h).0 h)
      (λ u. let h = leb-false (count p) j u in
      by_cases (leb 1 c)
      (λ v. let k = leb-true 1 c v in
      by_cases (leb c 16) (λ w. let m = leb-true c 16 w in answer_case (none_refused h k m).0 h k m)
      (λ w. let m = inr (leb-false c 16 w) in capacity_case (no_capacity h m).0 h m))
      (λ v. let m = inl (leb-false 1 c v) in capacity_case (no_capacity h m).0 h m))

  own_number : {n : ℕ} → OwnCase n → NoneOr sent_numbers n
  unfolding member
  own_number (operation_case e h) = rw e
  own_number (capacity_case e h w) = rw e
  own_number (answer_case e h k m) = rw e

  pub sent_number : NoneOr sent_numbers (sent_refusal p j c).number
  sent_number = own_number own_case

  -- ---- exactly if
  operation_by : {n : ℕ} → OwnCase n → n ≡ 21 → count p ≤ j
  operation_by (operation_case k h) e = h
  operation_by (capacity_case k h w) e = absurd (omega arith)
  operation_by (answer_case k h v w) e = absurd (omega arith)

  capacity_by : {n : ℕ} → OwnCase n → n ≡ 15 → (j < count p) × ((c < 1) ⊎ (16 < c))
  capacity_by (operation_case k h) e = absurd (omega arith)
  capacity_by (capacity_case k h w) e = (h, w)
  capacity_by (answer_case k h v w) e = absurd (omega arith)

  answer_by : {n : ℕ} → OwnCase n → n ≡ 0 → (j < count p) × (1 ≤ c) × (c ≤ 16)
  answer_by (operation_case k h) e = absurd (omega arith)
  answer_by (capacity_case k h w) e = absurd (omega arith)
  answer_by (answer_case k h v w) e = (h, v, w)

module _ (bs : List ℕ) (j c t l : ℕ) where
  abbrev own : Refusal
  own = sent_refusal (plan_in bs) j c

  pub plan_first : ((check_outcome bs t l).refusal.number ≡ 0 → ⊥) → sent_outcome bs j c t l ≡ check_outcome bs t l
  unfolding sent_outcome
  plan_first h = asking.plan_first bs t l own h

  pub then_asked : (check_outcome bs t l).refusal.number ≡ 0 → sent_outcome bs j c t l ≡ outcome own rows_and_run
  unfolding sent_outcome
  then_asked z = asking.then_asked bs t l own z

  pub gives_asked : (n i : ℕ) → (check_outcome bs t l).refusal.number ≡ 0 → Refuses own n i →
      Gives (sent_outcome bs j c t l) n i rows_and_run
  unfolding sent_outcome
  gives_asked n i z r = asking.gives_asked bs t l own n i z r

  pub operation_if : (sent_outcome bs j c t l).refusal.number ≡ 21 →
      ((check_outcome bs t l).refusal.number ≡ 0) × (count (plan_in bs) ≤ j)
  unfolding sent_outcome member
  operation_if e = let w = asking.asked_own bs t l own 21 refl e in
      (w.0, operation_by (plan_in bs) j c (own_case (plan_in bs) j c) w.1)

  pub capacity_if : (sent_outcome bs j c t l).refusal.number ≡ 15 →
      ((check_outcome bs t l).refusal.number ≡ 0) × (j < count (plan_in bs)) × ((c < 1) ⊎ (16 < c))
  unfolding sent_outcome member
  capacity_if e =
      let w = asking.asked_own bs t l own 15 refl e in
      let v = capacity_by (plan_in bs) j c (own_case (plan_in bs) j c) w.1 in
      (w.0, v.0, v.1)

  pub answer_if : (sent_outcome bs j c t l).refusal.number ≡ 0 →
      ((check_outcome bs t l).refusal.number ≡ 0) × (j < count (plan_in bs)) × (1 ≤ c) × (c ≤ 16)
  unfolding sent_outcome member
  answer_if e =
      let w = asking.asked_own bs t l own 0 refl e in
      let v = answer_by (plan_in bs) j c (own_case (plan_in bs) j c) w.1 in
      (w.0, v.0, v.1, v.2)

  pub sent_only : NoneOr sent_gives (sent_outcome bs j c t l).refusal.number
  unfolding sent_outcome
  sent_only = asking.asked_number bs t l own sent_numbers (sent_number (plan_in bs) j c)

  -- ---- what it leaves
  pub sent_leaves_by : LeavesBy sent_numbers (sent_outcome bs j c t l)
  unfolding sent_outcome member all
  sent_leaves_by = asking.asked_leaves_by bs t l own sent_numbers (sent_number (plan_in bs) j c) refl

  pub sent_passed : ((sent_outcome bs j c t l).leaves ≡ rows_and_run) ↔ ((unrefused bs t l ≡ true) × Safe (plan_in bs))
  unfolding sent_outcome
  sent_passed = asking.asked_safe bs t l own
