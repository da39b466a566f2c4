-- A question on a plan that passes: the check's refusals come first, then the question's own, and what is left goes by
-- the check.
-- Assumes nothing.
use mathlib.Core.Path.{◌≡◌, refl, sym, ap, ◌∙◌, subst}
use mathlib.Core.Bool.{true, false}
use mathlib.Core.Logic.{◌↔◌}
use mathlib.Core.List.{List, [], ◌∷◌, ◌++◌}
use Prim.Native.Nat.{ℕ}
use lib.Dec.{eqb}
use lib.ListN.{length}
use borrow.Author.Tests.{eqb-true, eqb-false}
use Rattle.base_lists.specs.Lists.{member}
use Rattle.base_lists.proofs.Tests.{by_cases}
use Rattle.plan_format.specs.Refusal.{Refusal}
use Rattle.plan_format.specs.RefusalNumbers.{NoneOr, check_gives}
use Rattle.plan_format.specs.Stored.{plan_in}
use Rattle.plan_format.specs.Meaning.{Refuses}
use Rattle.plan_format.specs.declared.Told.{Told}
use Rattle.plan_format.proofs.Judged.{zero_not_given, other_given}
use Rattle.plan_format.proofs.RefusalNumbers.{Apart, not_one, given_one}
use Rattle.plan_order.specs.Check.{rows_and_run, Outcome, outcome, or_then, check_outcome, Says}
use Rattle.plan_order.specs.Meaning.{Gives, LeavesBy, LeftMeans}
use Rattle.plan_order.specs.Promise.{Safe, unrefused}
use Rattle.plan_order.proofs.Leaving.{LeftCase, left_untouched, left_zeros, left_rows, left_number, leaves_by}
use Rattle.plan_order.proofs.CheckMeaning.{check_left_case, check_number}
use Rattle.plan_order.proofs.OutcomeMeaning.{left_by, passed_leaves, leaves_passed, whole_run, passed_safe}

module _ (bs : List ℕ) (t l : ℕ) (f : Refusal) where
  abbrev checked : Outcome
  checked = check_outcome bs t l

  -- the check, then a question that refuses by f
  abbrev pub asking : Outcome
  asking = or_then checked (outcome f rows_and_run)

  pub plan_first : (checked.refusal.number ≡ 0 → ⊥) → asking ≡ checked
  unfolding or_then
  plan_first h = rw (other_given checked.refusal h)

  pub then_asked : checked.refusal.number ≡ 0 → asking ≡ outcome f rows_and_run
  unfolding or_then
  then_asked z = rw (zero_not_given checked.refusal z)

  pub gives_asked : (n i : ℕ) → checked.refusal.number ≡ 0 → Refuses f n i → Gives asking n i rows_and_run
  unfolding outcome
  gives_asked n i z r = rw (then_asked z) (r, refl)

  pub asked_leaves : asking.leaves ≡ checked.leaves
  unfolding outcome
  asked_leaves =
      by_cases (eqb checked.refusal.number 0)
      (λ a. let z = eqb-true checked.refusal.number 0 a in
      ap (λ (o : Outcome). o.leaves) (then_asked z) ∙ sym (passed_leaves bs t l z))
      (λ a. ap (λ (o : Outcome). o.leaves) (plan_first (eqb-false checked.refusal.number 0 a)))

  -- rows and run are left exactly where the plan passes
  pub asked_passed : (asking.leaves ≡ rows_and_run) ↔ (checked.refusal.number ≡ 0)
  asked_passed = ((λ e. leaves_passed bs t l (sym asked_leaves ∙ e)), (λ z. asked_leaves ∙ passed_leaves bs t l z))

  pub asked_safe : (asking.leaves ≡ rows_and_run) ↔ ((unrefused bs t l ≡ true) × Safe (plan_in bs))
  asked_safe = ((λ e. (passed_safe bs t l).0 (sym asked_leaves ∙ e)), (λ w. asked_leaves ∙ (passed_safe bs t l).1 w))

  -- a number that the check does not give is the question's, and so is none
  pub asked_own : (n : ℕ) → member n check_gives ≡ false → asking.refusal.number ≡ n →
      (checked.refusal.number ≡ 0) × (f.number ≡ n)
  unfolding outcome
  asked_own n lacks is =
      let m = checked.refusal.number in
      by_cases (eqb m 0)
      (λ a. let z = eqb-true m 0 a in (z, sym (ap (λ (o : Outcome). o.refusal.number) (then_asked z)) ∙ is))
      (λ a. let bad = eqb-false m 0 a in
      absurd (not_one check_gives m n lacks (given_one check_gives m (check_number bs t l) bad)
      (sym (ap (λ (o : Outcome). o.refusal.number) (plan_first bad)) ∙ is)))

  -- ---- a question with numbers of its own
  module _ (own : List ℕ) (from_own : NoneOr own f.number) where
    plan_left : LeftCase [] checked → asking ≡ checked → (checked.refusal.number ≡ 0 → ⊥) → LeftCase own asking
    plan_left (left_untouched c e) same bad = subst (LeftCase own) (sym same) (left_untouched c e)
    plan_left (left_zeros c e) same bad = subst (LeftCase own) (sym same) (left_zeros c e)
    plan_left (left_rows c e) same bad = absurd (bad (leaves_passed bs t l e))

    asked_case : LeftCase own asking
    unfolding outcome
    asked_case =
        by_cases (eqb checked.refusal.number 0)
        (λ a. subst (LeftCase own) (sym (then_asked (eqb-true checked.refusal.number 0 a)))
        (left_rows from_own refl))
        (λ a. let bad = eqb-false checked.refusal.number 0 a in
        plan_left (check_left_case bs t l) (plan_first bad) bad)

    pub asked_number : NoneOr (check_gives ++ own) asking.refusal.number
    asked_number = left_number own asking asked_case

    pub asked_leaves_by : Apart check_gives (0 ∷ own) → LeavesBy own asking
    asked_leaves_by new = leaves_by own new asking asked_case

-- what a question says it leaves
pub asked_left : (bs : List ℕ) (f : Refusal) (answer : ℕ) (r : Told) (t x l y : List ℕ) →
    Says (asking bs (length t) (length l) f) answer (plan_in bs) r t x l y →
    LeftMeans (plan_in bs) (asking bs (length t) (length l) f).leaves t x l y
asked_left bs f answer r t x l y s =
    left_by (plan_in bs) (asking bs (length t) (length l) f) answer r t x l y s
    (λ e. whole_run bs (length t) (length l) (sym (asked_leaves bs (length t) (length l) f) ∙ e))
