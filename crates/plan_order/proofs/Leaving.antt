-- Number and leaves of an outcome go together: three cases, and each class of numbers exactly with what it leaves.
-- Assumes nothing.
use mathlib.Core.Path.{◌≡◌, refl}
use mathlib.Core.List.{List, ◌∷◌, ◌++◌}
use Prim.Native.Nat.{ℕ}
use native.Mathlib.Omega.{arith}
use Rattle.base_lists.specs.Lists.{member, all}
use Rattle.base_lists.proofs.Members.{member_left, member_right}
use Rattle.plan_format.specs.RefusalNumbers.{OneOf, NoneOr, order_numbers, untouched_numbers, check_gives}
use Rattle.plan_format.proofs.RefusalNumbers.{Apart, apart, none_or_one, none_or_right}
use Rattle.plan_order.specs.Check.{Leaves, untouched, zeros, rows_and_run, Outcome}
use Rattle.plan_order.specs.Meaning.{LeavesBy}

-- `own` are the numbers of a question on a plan that passes
pub data LeftCase (own : List ℕ) (o : Outcome) : Type 0 where
  left_untouched : OneOf untouched_numbers o.refusal.number → o.leaves ≡ untouched → LeftCase own o
  left_zeros : OneOf order_numbers o.refusal.number → o.leaves ≡ zeros → LeftCase own o
  left_rows : NoneOr own o.refusal.number → o.leaves ≡ rows_and_run → LeftCase own o

-- R55: there are no other reasons for a refusal
pub left_number : (own : List ℕ) (o : Outcome) → LeftCase own o → NoneOr (check_gives ++ own) o.refusal.number
left_number own o (left_untouched c e) =
    let n = o.refusal.number in
    none_or_one (check_gives ++ own) n (member_left n check_gives own (member_left n untouched_numbers order_numbers c))
left_number own o (left_zeros c e) =
    let n = o.refusal.number in
    none_or_one (check_gives ++ own) n (member_left n check_gives own
    (member_right n untouched_numbers order_numbers c))
left_number own o (left_rows c e) = none_or_right check_gives own o.refusal.number c

-- ---- what is left is one of three
not_zeros : {v : Leaves} → v ≡ untouched → v ≡ zeros → ⊥
not_zeros a b = let z : ◌≡◌ {A = ℕ} 0 1 = cc in omega arith

not_rows : {v : Leaves} → v ≡ untouched → v ≡ rows_and_run → ⊥
not_rows a b = let z : ◌≡◌ {A = ℕ} 0 1 = cc in omega arith

zeros_not_rows : {v : Leaves} → v ≡ zeros → v ≡ rows_and_run → ⊥
zeros_not_rows a b = let z : ◌≡◌ {A = ℕ} 0 1 = cc in omega arith

module _ (own : List ℕ) (new : Apart check_gives (0 ∷ own)) (o : Outcome) where
  abbrev number : ℕ
  number = o.refusal.number

  classes_apart : OneOf untouched_numbers number → OneOf order_numbers number → ⊥
  unfolding all member
  classes_apart a b = apart untouched_numbers order_numbers refl number a b

  untouched_not_own : OneOf untouched_numbers number → NoneOr own number → ⊥
  untouched_not_own a b = apart check_gives (0 ∷ own) new number
      (member_left number untouched_numbers order_numbers a) b

  zeros_not_own : OneOf order_numbers number → NoneOr own number → ⊥
  zeros_not_own a b = apart check_gives (0 ∷ own) new number (member_right number untouched_numbers order_numbers a) b

  pub leaves_by : LeftCase own o → LeavesBy own o
  leaves_by (left_untouched c e) = record {
    untouched = ((λ _. c), (λ _. e));
    zeros = ((λ z. absurd (not_zeros e z)), (λ d. absurd (classes_apart c d)));
    rows_and_run = ((λ z. absurd (not_rows e z)), (λ d. absurd (untouched_not_own c d)));
  }
  leaves_by (left_zeros c e) = record {
    untouched = ((λ z. absurd (not_zeros z e)), (λ d. absurd (classes_apart d c)));
    zeros = ((λ _. c), (λ _. e));
    rows_and_run = ((λ z. absurd (zeros_not_rows e z)), (λ d. absurd (zeros_not_own c d)));
  }
  leaves_by (left_rows c e) = record {
    untouched = ((λ z. absurd (not_rows z e)), (λ d. absurd (untouched_not_own d c)));
    zeros = ((λ z. absurd (zeros_not_rows z e)), (λ d. absurd (zeros_not_own d c)));
    rows_and_run = ((λ _. c), (λ _. e));
  }
