-- What the checks of fields answer, and the number of a field: 1, 2, 4, 5 and 16 by what is asked. Assumes nothing.
use mathlib.Core.Path.{◌≡◌, refl}
use mathlib.Core.Bool.{Bool, true, ◌||◌, cond}
use mathlib.Core.Logic.{◌⊎◌, inl, inr}
use mathlib.Core.List.{List, [], ◌∷◌}
use Prim.Native.Nat.{ℕ, zero, suc, ◌≤◌, ◌<◌}
use native.Mathlib.Nat.{not-suc-le-zero}
use native.Mathlib.Omega.{arith}
use lib.Dec.{ltb}
use lib.ListN.{length, drop}
use borrow.Author.Tests.{ltb-true, ltb-false, lt-ltb, le-ltb, eq-eqb, ne_eqb}
use Rattle.base_lists.specs.Lists.{member}
use Rattle.base_lists.proofs.Tests.{by_cases, either, or_cases, or_left, or_right, is_false}
use Rattle.base_lists.proofs.Places.{member_place, place_member}
use Rattle.plan_format.specs.Grammar.{Source, field_number, count_check}
use Rattle.plan_format.specs.Sizes.{least_wait, least_signal}
use Rattle.plan_format.specs.Form.{any_number, below, at_least, new_axis, a_queue, a_semaphore, a_buffer, a_kind}
use Rattle.plan_format.specs.Form.{queue_count, semaphore_count, buffer_count}
use Rattle.plan_format.specs.Meaning.{GivenWhen, EarlierAxis, ChecksMean, FieldMeans}

-- a test that is true exactly if P holds
given_by : (b : Bool) (n : ℕ) (P : Type 0) → (P → b ≡ true) → (b ≡ true → P) → GivenWhen (cond b n 0) n P
given_by b n P f g = record { yes = λ h. rw (f h); otherwise = λ h. rw (is_false b (λ t. h (g t))) }

below_means : (limit v : ℕ) → GivenWhen (below limit v) 4 (limit ≤ v)
unfolding below
below_means l v = record {
  yes = λ h. rw (le-ltb v l h);
  otherwise = λ h. by_cases (ltb v l) (λ t. rw t) (λ f. absurd (h (ltb-false v l f)));
}

count_means : (l m v : ℕ) → GivenWhen (count_check l m v) 2 ((v < l) ⊎ (m < v))
unfolding count_check
count_means l m v =
    given_by (ltb v l || ltb m v) 2 ((v < l) ⊎ (m < v))
    (λ h. either h (λ a. or_left (ltb v l) (ltb m v) (lt-ltb v l a)) (λ a. or_right (ltb v l) (ltb m v) (lt-ltb m v a)))
    (λ t. either (or_cases (ltb v l) (ltb m v) t) (λ a. inl (ltb-true v l a)) (λ a. inr (ltb-true m v a)))

axis_means : (g : List ℕ) (v : ℕ) → GivenWhen (new_axis g v) 5 (EarlierAxis g v)
unfolding new_axis
axis_means g v = given_by (member v (drop 1 g)) 5 (EarlierAxis g v) (among g) (found g)
  where
    among : (g : List ℕ) → EarlierAxis g v → member v (drop 1 g) ≡ true
    among [] (zero, a, b, e) = absurd (not-suc-le-zero b)
    among [] (suc k, a, b, e) = absurd (not-suc-le-zero b)
    among (x ∷ xs) (zero, a, b, e) = absurd (not-suc-le-zero a)
    among (x ∷ xs) (suc k, a, b, e) = place_member xs v (k, omega (arith, b), e)

    found : (g : List ℕ) → member v (drop 1 g) ≡ true → EarlierAxis g v
    found [] t = absurd (let w = member_place [] v t in not-suc-le-zero w.1)
    found (x ∷ xs) t = let w = member_place xs v t in (suc w.0, omega arith, omega (arith, w.1), w.2)

pub value_means : (l : ℕ) (g : List ℕ) (v : ℕ) → GivenWhen (at_least l g v) 16 (v < l)
unfolding at_least
value_means l g v = given_by (ltb v l) 16 (v < l) (λ h. lt-ltb v l h) (λ t. ltb-true v l t)

wait_means : (g : List ℕ) (v : ℕ) → GivenWhen (at_least least_wait g v) 16 (v ≡ 0)
wait_means g v =
    let w = value_means least_wait g v in
    record { yes = λ e. w.yes (omega arith); otherwise = λ h. w.otherwise (λ l. h (omega arith)) }

signal_means : (g : List ℕ) (v : ℕ) → at_least least_signal g v ≡ 0
signal_means g v = (value_means least_signal g v).otherwise (λ l. omega arith)

pub checks_mean : (g : List ℕ) (v : ℕ) → ChecksMean g v
unfolding a_queue a_semaphore a_buffer a_kind any_number
checks_mean g v = record {
  count = λ l m. count_means l m v;
  queue = below_means (queue_count g) v;
  semaphore = below_means (semaphore_count g) v;
  buffer = below_means (buffer_count g) v;
  kind = below_means 2 v;
  axis = axis_means g v;
  wait_value = wait_means g v;
  signal_value = signal_means g v;
  any = refl;
}

pub field_means : (S : Source) (w : ℕ) (c : ℕ → ℕ) (r : List ℕ) → FieldMeans S w c r (field_number S w c r)
unfolding field_number
field_means S w c r =
    let v = S.front w r in
    record {
      cut_short = λ l. rw (lt-ltb (length r) (S.wide w) l);
      judged = λ l h. rw (le-ltb (length r) (S.wide w) l, ne_eqb (c v) 0 h);
      too_wide = λ l h f. rw (le-ltb (length r) (S.wide w) l, eq-eqb (c v) 0 h, f);
      passed = λ l h t. rw (le-ltb (length r) (S.wide w) l, eq-eqb (c v) 0 h, t);
    }
