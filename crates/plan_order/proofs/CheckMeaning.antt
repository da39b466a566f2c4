-- The check: which number is given, at which place, and on what grounds. Assumes nothing.
use mathlib.Core.Path.{◌≡◌, refl, sym, ap, ◌∙◌, subst}
use mathlib.Core.Bool.{true, false}
use mathlib.Core.List.{List, [], ◌∷◌}
use mathlib.Core.Option.{Option, none, some}
use Prim.Native.Nat.{ℕ, ◌<◌}
use native.Mathlib.Omega.{arith}
use lib.Dec.{eqb}
use borrow.Author.Tests.{eqb-true, eqb-false}
use Rattle.base_lists.specs.Lists.{member, all}
use Rattle.base_lists.proofs.Tests.{by_cases, by_option, either}
use Rattle.base_lists.proofs.Members.{member_left}
use Rattle.plan_format.specs.Plan.{count, op, queues}
use Rattle.plan_format.specs.Refusal.{Refusal, refusal, none_given}
use Rattle.plan_format.specs.RefusalNumbers.{NoneOr, room_numbers, order_numbers, plan_gives, untouched_numbers}
use Rattle.plan_format.specs.RefusalNumbers.{check_gives}
use Rattle.plan_format.specs.Stored.{plan_in, plan_refusal}
use Rattle.plan_format.specs.Meaning.{Refuses}
use Rattle.plan_format.proofs.Judged.{zero_not_given, other_given}
use Rattle.plan_format.proofs.RefusalNumbers.{one_is, not_one, apart, none_or_zero, given_one}
use Rattle.plan_format.proofs.Numbers.{plan_number}
use Rattle.plan_format.proofs.ReadingMeaning.{plan_refusal_means}
use Rattle.plan_format.proofs.Plans.{sound_in}
use Rattle.plan_order.specs.Check.{room_refusal, Leaves, untouched, zeros, rows_and_run, Outcome, outcome}
use Rattle.plan_order.specs.Check.{check_outcome}
use Rattle.plan_order.specs.Holdings.{broken}
use Rattle.plan_order.specs.Handovers.{disordered}
use Rattle.plan_order.specs.Meaning.{Gives, Unrefused, FullRun, LowestInNoRun, AllInTurn}
use Rattle.plan_order.specs.Meaning.{LowestOutOfTurn, AllForced, LowestBroken, CheckMeans}
use Rattle.plan_order.specs.Promise.{unrefused}
use Rattle.plan_order.specs.Runs.{missing}
use Rattle.plan_order.proofs.Leaving.{LeftCase, left_untouched, left_zeros, left_rows, left_number, leaves_by}
use Rattle.plan_order.proofs.Outcomes.{plan_refused, room_refused, stuck_outcome, disordered_outcome}
use Rattle.plan_order.proofs.Outcomes.{broken_outcome, passed_outcome}
use Rattle.plan_order.proofs.RoomMeaning.{room_nine}
use Rattle.plan_order.proofs.HandoversMeaning.{ordered_means, disordered_means}
use Rattle.plan_order.proofs.KeepsMeaning.{unbroken_means, broken_means}
use Rattle.plan_order.proofs.StandardMeaning.{missing_means, none_missing_means}

-- an outcome by its fields
pub gives_of : (o : Outcome) (f : Refusal) (v : Leaves) → o ≡ outcome f v → Gives o f.number f.place v
unfolding outcome
gives_of o f v e = (
  (ap (λ (z : Outcome). z.refusal.number) e, ap (λ (z : Outcome). z.refusal.place) e),
  ap (λ (z : Outcome). z.leaves) e,
)

module _ (bs : List ℕ) (t l : ℕ) where
  abbrev room : Refusal
  room = room_refusal (count (plan_in bs)) t l

  abbrev Good : Type 0
  Good = (plan_refusal bs).number ≡ 0

  abbrev Enough : Type 0
  Enough = room.number ≡ 0

  pub data CheckCase (o : Outcome) : Type 0 where
    plan_case : (Good → ⊥) → o ≡ outcome (plan_refusal bs) untouched → CheckCase o
    room_case : Good → room.number ≡ 9 → o ≡ outcome room untouched → CheckCase o
    stuck_case : (i : ℕ) → Good → Enough → missing (plan_in bs) ≡ some i →
        o ≡ outcome (refusal 10 i) zeros → CheckCase o
    turn_case : (i : ℕ) → Good → Enough → ◌≡◌ {A = Option ℕ} (missing (plan_in bs)) none →
        disordered (plan_in bs) ≡ some i →
        o ≡ outcome (refusal 17 i) zeros → CheckCase o
    broken_case : (i : ℕ) → Good → Enough → ◌≡◌ {A = Option ℕ} (missing (plan_in bs)) none →
        ◌≡◌ {A = Option ℕ} (disordered (plan_in bs)) none → broken (plan_in bs) ≡ some i →
        o ≡ outcome (refusal 11 i) zeros → CheckCase o
    pass_case : Good → Enough → ◌≡◌ {A = Option ℕ} (missing (plan_in bs)) none →
        ◌≡◌ {A = Option ℕ} (disordered (plan_in bs)) none → ◌≡◌ {A = Option ℕ} (broken (plan_in bs)) none →
        o ≡ outcome none_given rows_and_run → CheckCase o

  pub check_case : CheckCase (check_outcome bs t l)
  check_case =
      by_cases (eqb (plan_refusal bs).number 0)
      (λ a. let good = eqb-true (plan_refusal bs).number 0 a in
      either (room_nine (count (plan_in bs)) t l)
      (λ enough. by_option (missing (plan_in bs))
      (λ m. by_option (disordered (plan_in bs))
      (λ d. by_option (broken (plan_in bs))
      (λ b. pass_case good enough m d b (passed_outcome bs t l good enough m d b))
      (λ i b. broken_case i good enough m d b (broken_outcome bs t l good enough i m d b)))
      (λ i d. turn_case i good enough m d (disordered_outcome bs t l good enough i m d)))
      (λ i m. stuck_case i good enough m (stuck_outcome bs t l good enough i m)))
      (λ nine. room_case good nine (room_refused bs t l good (other_given room (λ z. omega arith)))))
      (λ a. let bad = eqb-false (plan_refusal bs).number 0 a in
      plan_case bad (plan_refused bs t l (other_given (plan_refusal bs) bad)))

  -- ---- R55, R56: there are no other numbers, and each leaves what its class does
  -- a refusal of the plan has no other number
  not_plan : {o : Outcome} (n : ℕ) → member n (0 ∷ plan_gives) ≡ false → o ≡ outcome (plan_refusal bs) untouched →
      o.refusal.number ≡ n → ⊥
  not_plan {o} n lacks e is = not_one (0 ∷ plan_gives) (plan_refusal bs).number n lacks (plan_number bs)
      (sym (gives_of o (plan_refusal bs) untouched e).0.0 ∙ is)

  case_left : (o : Outcome) → CheckCase o → LeftCase [] o
  unfolding refusal none_given member
  case_left o (plan_case bad e) =
      let w = gives_of o (plan_refusal bs) untouched e in
      left_untouched (one_is untouched_numbers w.0.0 (member_left (plan_refusal bs).number plan_gives room_numbers
      (given_one plan_gives (plan_refusal bs).number (plan_number bs) bad))) w.1
  case_left o (room_case good nine e) =
      let w = gives_of o room untouched e in left_untouched (one_is untouched_numbers (w.0.0 ∙ nine) refl) w.1
  case_left o (stuck_case i good enough m e) =
      let w = gives_of o (refusal 10 i) zeros e in left_zeros (one_is order_numbers w.0.0 refl) w.1
  case_left o (turn_case i good enough m d e) =
      let w = gives_of o (refusal 17 i) zeros e in left_zeros (one_is order_numbers w.0.0 refl) w.1
  case_left o (broken_case i good enough m d b e) =
      let w = gives_of o (refusal 11 i) zeros e in left_zeros (one_is order_numbers w.0.0 refl) w.1
  case_left o (pass_case good enough m d b e) =
      let w = gives_of o none_given rows_and_run e in left_rows (none_or_zero [] o.refusal.number w.0.0) w.1

  pub check_left_case : LeftCase [] (check_outcome bs t l)
  check_left_case = case_left (check_outcome bs t l) check_case

  pub check_number : NoneOr check_gives (check_outcome bs t l).refusal.number
  check_number = left_number [] (check_outcome bs t l) check_left_case

  -- a number of the order, and none, is handed back only where neither the plan nor the room is refused
  case_unrefused : (o : Outcome) → CheckCase o → NoneOr order_numbers o.refusal.number → Unrefused bs t l
  unfolding all member
  case_unrefused o (plan_case bad e) w =
      let same = (gives_of o (plan_refusal bs) untouched e).0.0 in
      let own = given_one plan_gives (plan_refusal bs).number (plan_number bs) bad in
      absurd (apart plan_gives (0 ∷ order_numbers) refl (plan_refusal bs).number own
      (one_is (0 ∷ order_numbers) (sym same) w))
  case_unrefused o (room_case good nine e) w =
      let same = (gives_of o room untouched e).0.0 in
      absurd (not_one (0 ∷ order_numbers) o.refusal.number 9 refl w (same ∙ nine))
  case_unrefused o (stuck_case i good enough m e) w = (good, enough)
  case_unrefused o (turn_case i good enough m d e) w = (good, enough)
  case_unrefused o (broken_case i good enough m d b e) w = (good, enough)
  case_unrefused o (pass_case good enough m d b e) w = (good, enough)

  unrefused_by : Unrefused bs t l → unrefused bs t l ≡ true
  unfolding unrefused
  unrefused_by u = rw (zero_not_given (plan_refusal bs) u.0, zero_not_given room u.1)

  pub answer_unrefused : NoneOr order_numbers (check_outcome bs t l).refusal.number → unrefused bs t l ≡ true
  answer_unrefused w = unrefused_by (case_unrefused (check_outcome bs t l) check_case w)

  pub passed_unrefused : (check_outcome bs t l).refusal.number ≡ 0 → unrefused bs t l ≡ true
  passed_unrefused z = answer_unrefused (none_or_zero order_numbers (check_outcome bs t l).refusal.number z)

  -- ---- exactly if
  known : Good → (j : ℕ) → j < count (plan_in bs) → (op (plan_in bs) j).queue < queues (plan_in bs)
  known good j a = ((sound_in bs good).in_range j a).queue

  nine_why : (o : Outcome) → CheckCase o → (i : ℕ) → Gives o 9 i untouched → Good × Refuses room 9 i
  unfolding refusal none_given member
  nine_why o (plan_case bad e) i g = absurd (not_plan 9 refl e g.0.0)
  nine_why o (room_case good nine e) i g = (good, (nine, sym (gives_of o room untouched e).0.1 ∙ g.0.1))
  nine_why o (stuck_case j good enough m e) i g =
      absurd (omega (arith, g.0.0, (gives_of o (refusal 10 j) zeros e).0.0))
  nine_why o (turn_case j good enough m d e) i g =
      absurd (omega (arith, g.0.0, (gives_of o (refusal 17 j) zeros e).0.0))
  nine_why o (broken_case j good enough m d b e) i g =
      absurd (omega (arith, g.0.0, (gives_of o (refusal 11 j) zeros e).0.0))
  nine_why o (pass_case good enough m d b e) i g =
      absurd (omega (arith, g.0.0, (gives_of o none_given rows_and_run e).0.0))

  ten_why : (o : Outcome) → CheckCase o → (i : ℕ) → Gives o 10 i zeros →
      Unrefused bs t l × LowestInNoRun (plan_in bs) i
  unfolding refusal none_given member
  ten_why o (plan_case bad e) i g = absurd (not_plan 10 refl e g.0.0)
  ten_why o (room_case good nine e) i g = absurd (omega (arith, g.0.0, (gives_of o room untouched e).0.0))
  ten_why o (stuck_case j good enough m e) i g = (
    (good, enough),
    subst (LowestInNoRun (plan_in bs)) (sym (gives_of o (refusal 10 j) zeros e).0.1 ∙ g.0.1)
        ((missing_means (plan_in bs) (known good) j).0 m),
  )
  ten_why o (turn_case j good enough m d e) i g =
      absurd (omega (arith, g.0.0, (gives_of o (refusal 17 j) zeros e).0.0))
  ten_why o (broken_case j good enough m d b e) i g =
      absurd (omega (arith, g.0.0, (gives_of o (refusal 11 j) zeros e).0.0))
  ten_why o (pass_case good enough m d b e) i g =
      absurd (omega (arith, g.0.0, (gives_of o none_given rows_and_run e).0.0))

  seventeen_why : (o : Outcome) → CheckCase o → (i : ℕ) → Gives o 17 i zeros →
      Unrefused bs t l × FullRun (plan_in bs) × LowestOutOfTurn (plan_in bs) i
  unfolding refusal none_given member
  seventeen_why o (plan_case bad e) i g = absurd (not_plan 17 refl e g.0.0)
  seventeen_why o (room_case good nine e) i g = absurd (omega (arith, g.0.0, (gives_of o room untouched e).0.0))
  seventeen_why o (stuck_case j good enough m e) i g =
      absurd (omega (arith, g.0.0, (gives_of o (refusal 10 j) zeros e).0.0))
  seventeen_why o (turn_case j good enough m d e) i g = (
    (good, enough),
    (none_missing_means (plan_in bs) (known good)).0 m,
    subst (LowestOutOfTurn (plan_in bs)) (sym (gives_of o (refusal 17 j) zeros e).0.1 ∙ g.0.1)
        ((disordered_means (plan_in bs) j).0 d),
  )
  seventeen_why o (broken_case j good enough m d b e) i g =
      absurd (omega (arith, g.0.0, (gives_of o (refusal 11 j) zeros e).0.0))
  seventeen_why o (pass_case good enough m d b e) i g =
      absurd (omega (arith, g.0.0, (gives_of o none_given rows_and_run e).0.0))

  eleven_why : (o : Outcome) → CheckCase o → (i : ℕ) → Gives o 11 i zeros →
      Unrefused bs t l × FullRun (plan_in bs) × AllInTurn (plan_in bs) × LowestBroken (plan_in bs) i
  unfolding refusal none_given member
  eleven_why o (plan_case bad e) i g = absurd (not_plan 11 refl e g.0.0)
  eleven_why o (room_case good nine e) i g = absurd (omega (arith, g.0.0, (gives_of o room untouched e).0.0))
  eleven_why o (stuck_case j good enough m e) i g =
      absurd (omega (arith, g.0.0, (gives_of o (refusal 10 j) zeros e).0.0))
  eleven_why o (turn_case j good enough m d e) i g =
      absurd (omega (arith, g.0.0, (gives_of o (refusal 17 j) zeros e).0.0))
  eleven_why o (broken_case j good enough m d b e) i g = (
    (good, enough),
    (none_missing_means (plan_in bs) (known good)).0 m,
    (ordered_means (plan_in bs)).0 d,
    subst (LowestBroken (plan_in bs)) (sym (gives_of o (refusal 11 j) zeros e).0.1 ∙ g.0.1)
        ((broken_means (plan_in bs) j).0 b),
  )
  eleven_why o (pass_case good enough m d b e) i g =
      absurd (omega (arith, g.0.0, (gives_of o none_given rows_and_run e).0.0))

  passed_why : (o : Outcome) → CheckCase o → Gives o 0 0 rows_and_run →
      Unrefused bs t l × FullRun (plan_in bs) × AllInTurn (plan_in bs) × AllForced (plan_in bs)
  unfolding refusal none_given
  passed_why o (plan_case bad e) g = absurd (bad (sym (gives_of o (plan_refusal bs) untouched e).0.0 ∙ g.0.0))
  passed_why o (room_case good nine e) g = absurd (omega (arith, g.0.0, (gives_of o room untouched e).0.0))
  passed_why o (stuck_case j good enough m e) g =
      absurd (omega (arith, g.0.0, (gives_of o (refusal 10 j) zeros e).0.0))
  passed_why o (turn_case j good enough m d e) g =
      absurd (omega (arith, g.0.0, (gives_of o (refusal 17 j) zeros e).0.0))
  passed_why o (broken_case j good enough m d b e) g =
      absurd (omega (arith, g.0.0, (gives_of o (refusal 11 j) zeros e).0.0))
  passed_why o (pass_case good enough m d b e) g = (
    (good, enough),
    (none_missing_means (plan_in bs) (known good)).0 m,
    (ordered_means (plan_in bs)).0 d,
    (unbroken_means (plan_in bs)).0 b,
  )

  pub check_means : CheckMeans bs t l (check_outcome bs t l)
  unfolding refusal none_given outcome all member
  check_means =
      let o = check_outcome bs t l in
      let p = plan_in bs in
      record {
        plan = plan_refusal_means bs;
        plan_first = λ bad. let e = plan_refused bs t l (other_given (plan_refusal bs) bad) in
            (ap (λ (z : Outcome). z.refusal) e, ap (λ (z : Outcome). z.leaves) e);
        nine = λ i. (
          nine_why o check_case i,
          (λ w.
              let g = gives_of o room untouched
              (room_refused bs t l w.0 (other_given room (λ z. omega (arith, w.1.0)))) in
              ((g.0.0 ∙ w.1.0, g.0.1 ∙ w.1.1), g.1)),
        );
        ten = λ i. (
          ten_why o check_case i,
          (λ w. gives_of o (refusal 10 i) zeros
              (stuck_outcome bs t l w.0.0 w.0.1 i ((missing_means p (known w.0.0) i).1 w.1))),
        );
        seventeen = λ i. (
          seventeen_why o check_case i,
          (λ w. gives_of o (refusal 17 i) zeros
              (disordered_outcome bs t l w.0.0 w.0.1 i ((none_missing_means p (known w.0.0)).1 w.1)
              ((disordered_means p i).1 w.2))),
        );
        eleven = λ i. (
          eleven_why o check_case i,
          (λ w. gives_of o (refusal 11 i) zeros
              (broken_outcome bs t l w.0.0 w.0.1 i ((none_missing_means p (known w.0.0)).1 w.1)
              ((ordered_means p).1 w.2) ((broken_means p i).1 w.3))),
        );
        passed = (
          passed_why o check_case,
          (λ w. gives_of o none_given rows_and_run
              (passed_outcome bs t l w.0.0 w.0.1 ((none_missing_means p (known w.0.0)).1 w.1)
              ((ordered_means p).1 w.2) ((unbroken_means p).1 w.3))),
        );
        only = check_number;
        leaves = leaves_by [] refl o check_left_case;
      }
