-- What a stored form has room for, and what tells the two from each other. Assumes nothing.
use mathlib.Core.Path.{◌≡◌, refl, ap}
use mathlib.Core.Bool.{Bool, true, false}
use mathlib.Core.List.{List, [], ◌∷◌}
use Prim.Native.Nat.{ℕ, zero, suc, ◌%◌, ◌^◌, ◌≤◌, ◌<◌}
use native.Mathlib.Nat.{not-suc-le-zero}
use native.Mathlib.Omega.{arith}
use lib.Dec.{leb, eqb, lit≤, lit<}
use lib.ListN.{length, get_or, take}
use borrow.Author.Tests.{leb-true, leb-false, le-ltb, lt-ltb, eqb-true, ne_eqb}
use Rattle.base_lists.specs.Lists.{all}
use Rattle.base_lists.proofs.Tests.{by_cases}
use Rattle.plan_format.specs.Sizes.{most_semaphores, first_semaphores, second_lead}
use Rattle.plan_format.specs.Grammar.{digits}
use Rattle.plan_format.specs.Form.{Form, first_form, second_form, list_form, form_by, is_second, form_in}
use Rattle.plan_format.specs.Form.{form_with}
use Rattle.plan_format.specs.Plan.{Plan}
use Rattle.plan_format.specs.Limits.{Within, counted_bytes, sections_bytes, stored_by}
use Rattle.plan_format.specs.Stored.{all_bytes}
use Rattle.plan_format.proofs.ParsedForms.{Led}

-- ---- what a form has room for
-- the bytes of a semaphore count hold every count that the form allows, and it allows none over the limit of a plan
pub record Proper (F : Form) : Type 0 where
  pub few : F.semaphores_most ≤ most_semaphores
  pub roomy : F.semaphores_most < 256 ^ F.semaphore_width

-- a form allows so many semaphores
pub record Admits (F : Form) (s : ℕ) : Type 0 where
  pub least : F.semaphores_least ≤ s
  pub most : s ≤ F.semaphores_most

first_proper : Proper first_form
unfolding first_form
first_proper = record { few = lit≤ tt; roomy = lit< tt }

second_proper : Proper second_form
unfolding second_form
second_proper = record { few = lit≤ tt; roomy = lit< tt }

pub list_proper : Proper list_form
unfolding list_form
list_proper = record { few = lit≤ tt; roomy = lit< tt }

pub list_admits : (s : ℕ) → s ≤ most_semaphores → Admits list_form s
unfolding list_form
list_admits s l = record { least = omega arith; most = l }

-- ---- the form that the first byte tells
pub form_cases : (P : Form → Type 0) → P first_form → P second_form → (bs : List ℕ) → P (form_in bs)
unfolding form_by
form_cases P x y bs = by_cases (is_second bs) (λ t. rw t y) (λ f. rw f x)

pub first_told : (bs : List ℕ) → (get_or bs 0 0 ≡ second_lead → ⊥) → form_in bs ≡ first_form
unfolding form_by is_second
first_told bs h = rw (ne_eqb (get_or bs 0 0) second_lead h)

pub proper_by : (wide : Bool) → Proper (form_by wide)
unfolding form_by
proper_by true = second_proper
proper_by false = first_proper

pub proper_in : (bs : List ℕ) → Proper (form_in bs)
proper_in bs = proper_by (is_second bs)

-- the first byte alone
pub form_front : (n : ℕ) (bs : List ℕ) → 0 < n → form_in (take n bs) ≡ form_in bs
unfolding is_second
form_front zero bs l = absurd (not-suc-le-zero l)
form_front (suc n) [] l = refl
form_front (suc n) (b ∷ bs) l = refl

pub led_in : (bs : List ℕ) → length (form_in bs).lead ≤ length bs
unfolding form_by is_second first_form second_form
led_in [] = omega arith
led_in (b ∷ bs) = by_cases (eqb b second_lead) (λ t. rw t (omega arith)) (λ f. rw f (omega arith))

pub led_as : (bs : List ℕ) → Led (form_in bs) bs
unfolding form_by is_second first_form second_form
led_as [] = refl
led_as (b ∷ bs) =
    by_cases (eqb b second_lead) (λ t. rw t (ap (λ (z : ℕ). z ∷ []) (eqb-true b second_lead t))) (λ f. rw f refl)

-- ---- the form that a plan is stored in
pub record StoredForm (F : Form) : Type 0 where
  pub proper : Proper F
  -- the bytes of a plan in this form tell it
  pub told : (p : Plan) → Within p → form_in (stored_by F p) ≡ F
  -- a plan with so many semaphores is stored in this form
  pub own : (s : ℕ) → Admits F s → form_with s ≡ F
  pub lead_bytes : all_bytes F.lead ≡ true

first_byte : (w : ℕ) (p : Plan) → get_or (sections_bytes w p) 0 0 ≡ length p.axes % 256
unfolding sections_bytes counted_bytes digits
first_byte w p = refl

pub first_stored : StoredForm first_form
unfolding first_form form_by is_second all_bytes all stored_by
first_stored = record {
  proper = first_proper;
  told = λ p w. rw (ne_eqb (get_or (sections_bytes 1 p) 0 0) second_lead
      (λ e. omega (arith, first_byte 1 p, w.few_queues)));
  own = λ s a. rw (le-ltb first_semaphores s a.most);
  lead_bytes = refl;
}

pub second_stored : StoredForm second_form
unfolding second_form form_by is_second all_bytes all stored_by
second_stored = record {
  proper = second_proper;
  told = λ p w. refl;
  own = λ s a. rw (lt-ltb first_semaphores s a.least);
  lead_bytes = refl;
}

-- so many semaphores are few enough for the first form, or enough for the second
pub by_semaphores : {A : Type 0} (s : ℕ) → s ≤ most_semaphores →
    ((F : Form) → StoredForm F → Admits F s → A) → A
unfolding first_form second_form
by_semaphores s l f =
    by_cases (leb s first_semaphores)
    (λ t. f first_form first_stored (record { least = omega arith; most = leb-true s first_semaphores t }))
    (λ u. f second_form second_stored
    (record { least = omega (arith, leb-false s first_semaphores u); most = l }))

-- some bytes are of the first form or of the second
pub by_first_byte : {A : Type 0} (bs : List ℕ) → ((F : Form) → StoredForm F → form_in bs ≡ F → A) → A
by_first_byte {A} bs f =
    form_cases (λ F. form_in bs ≡ F → A) (f first_form first_stored) (f second_form second_stored) bs refl
