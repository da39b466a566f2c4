-- The list of the pass: the run so far, the numbers ready, and the steps that are left. Assumes nothing.
use mathlib.Core.Path.{◌≡◌, refl, sym, ap, ◌∙◌}
use mathlib.Core.List.{List, [], ◌∷◌, ◌++◌}
use mathlib.Core.Option.{Option, none, some}
use Prim.Native.Nat.{ℕ, zero, suc, ◌+◌, ◌-◌, ◌*◌, ◌≤◌, ◌<◌}
use native.Mathlib.Omega.{arith}
use lib.Dec.{eqb}
use lib.ListN.{length, get_or, set, drop, length-append, length-set, get_or-append}
use lib.Seq.{get_or-set_same, get_or-set_other, get_or_at, take_at, take-append-le, drop-set-lt}
use borrow.Author.Tests.{eqb-true, eqb-false}
use Rattle.base_lists.proofs.Tests.{by_cases}
use Rattle.order.specs.Greedy.{with_next, greedy}
use Rattle.plan_format.specs.Sizes.{no_operation}
use Rattle.plan_format.specs.Plan.{Plan}
use Rattle.plan_order.specs.Runs.{number_ready}
use Rattle.check_run.specs.Run.{RunListed}

-- ---- the steps that are left of a greedy run
module _ (next : List ℕ → Option ℕ) where
  greedy_step : (k : ℕ) (r : List ℕ) (j : ℕ) → next r ≡ some j → greedy next (suc k) r ≡ greedy next k (r ++ (j ∷ []))
  unfolding greedy with_next
  greedy_step k r j e = rw e

  pub greedy_stays : (k : ℕ) (r : List ℕ) → ◌≡◌ {A = Option ℕ} (next r) none → greedy next k r ≡ r
  unfolding greedy with_next
  greedy_stays zero r e = refl
  greedy_stays (suc k) r e = rw e (greedy_stays k r e)

  pub greedy_left :
      (n i : ℕ) (r : List ℕ) (j : ℕ) (whole : List ℕ) → i < n → next r ≡ some j → greedy next (n - i) r ≡ whole →
      greedy next (n - (i + 1)) (r ++ (j ∷ [])) ≡ whole
  greedy_left n i r j whole l e h =
      sym (ap (λ (x : ℕ). greedy next x r) (let z : n - i ≡ suc (n - (i + 1)) = omega arith in z)
      ∙ greedy_step (n - (i + 1)) r j e) ∙ h

-- ---- the list after a step: the number ready and the operation, each where the list has the place
module _ (n : ℕ) (list list₁ list₂ : List ℕ) (i j ready : ℕ) (inside : i < n) (few : j < no_operation)
    (small : ready < 65536)
    (first_is : list₁ ≡ set list (i + n) ready) (then_is : list₂ ≡ set list₁ i j) where
  first_long : length list₁ ≡ length list
  first_long = ap length first_is ∙ length-set list (i + n) ready

  pub step_long : length list₂ ≡ length list
  step_long = ap length then_is ∙ length-set list₁ i j ∙ first_long

  pub step_at : i < length list → get_or list₂ i 0 ≡ j
  step_at l =
      ap (λ (x : List ℕ). get_or x i 0) then_is
      ∙ get_or-set_same list₁ i j 0 (let h : i < length list₁ = omega (arith, first_long) in h)

  then_other : (k : ℕ) → (k ≡ i → ⊥) → get_or list₂ k 0 ≡ get_or list₁ k 0
  then_other k ne = ap (λ (x : List ℕ). get_or x k 0) then_is ∙ get_or-set_other list₁ i k j 0 ne

  pub number_at : n + i < length list → get_or list₂ (n + i) 0 ≡ ready
  number_at l =
      then_other (n + i) (λ z. absurd (omega arith))
      ∙ ap (λ (x : List ℕ). get_or x (n + i) 0) first_is
      ∙ ap (λ (x : ℕ). get_or (set list (i + n) ready) x 0) (let e : n + i ≡ i + n = omega arith in e)
      ∙ get_or-set_same list (i + n) ready 0 (let h : i + n < length list = omega arith in h)

  pub step_other : (k : ℕ) → (k ≡ i → ⊥) → (k ≡ n + i → ⊥) → get_or list₂ k 0 ≡ get_or list k 0
  step_other k ne far =
      then_other k ne
      ∙ ap (λ (x : List ℕ). get_or x k 0) first_is
      ∙ get_or-set_other list (i + n) k ready 0 (λ z. far (let e : k ≡ n + i = omega arith in e))

  pub step_past : (m : ℕ) → n + i < m → drop m list₂ ≡ drop m list
  step_past m l =
      ap (λ (x : List ℕ). drop m x) then_is ∙ drop-set-lt m list₁ i j (let h : i < m = omega arith in h)
      ∙ ap (λ (x : List ℕ). drop m x) first_is ∙ drop-set-lt m list (i + n) ready
      (let h : i + n < m = omega arith in h)

-- ---- one step more
module _ (p : Plan) (n : ℕ) (first r list list₁ list₂ : List ℕ) (i j ready : ℕ) (room : 2 * n ≤ length first)
    (listed : RunListed p n r first list)
    (many : length r ≡ i) (inside : i < n) (few : j < no_operation) (small : ready < 65536)
    (counted : ready ≡ number_ready p r)
    (first_is : list₁ ≡ set list (i + n) ready) (then_is : list₂ ≡ set list₁ i j) where
  length_more : length (r ++ (j ∷ [])) ≡ i + 1
  length_more = length-append r (j ∷ []) ∙ omega (arith, many)

  other : (k : ℕ) → (k ≡ i → ⊥) → (k ≡ n + i → ⊥) → get_or list₂ k 0 ≡ get_or list k 0
  other = step_other n list list₁ list₂ i j ready inside few small first_is then_is

  pub listed_more : RunListed p n (r ++ (j ∷ [])) first list₂
  listed_more = record {
    steps = λ k l. by_cases (eqb k i)
        (λ t. let e = eqb-true k i t in
        ap (λ (x : ℕ). get_or list₂ x 0) e
        ∙ step_at n list list₁ list₂ i j ready inside few small first_is then_is
        (let h : i < length list = omega (arith, listed.long) in h)
        ∙ sym (get_or_at r j [] 0 k (many ∙ sym e)))
        (λ f. let ne = eqb-false k i f in
        let b : k < length r = omega (arith, length_more) in
        other k ne (λ z. absurd (omega arith)) ∙ listed.steps k b ∙ sym (get_or-append r (j ∷ []) 0 k b));
    readies = λ k l. by_cases (eqb k i)
        (λ t. let e = eqb-true k i t in
        ap (λ (x : ℕ). get_or list₂ (n + x) 0) e
        ∙ number_at n list list₁ list₂ i j ready inside few small first_is then_is
        (let h : n + i < length list = omega (arith, listed.long) in h)
        ∙ counted ∙ ap (λ (x : List ℕ). number_ready p x) (sym (take_at r (j ∷ []) k (many ∙ sym e))))
        (λ f. let ne = eqb-false k i f in
        let b : k < length r = omega (arith, length_more) in
        other (n + k) (λ z. absurd (omega arith)) (λ z. ne (let e : k ≡ i = omega arith in e)) ∙ listed.readies k b
        ∙ ap (λ (x : List ℕ). number_ready p x)
        (sym (take-append-le k r (j ∷ []) (let h : k ≤ length r = omega arith in h))));
    past = step_past n list list₁ list₂ i j ready inside few small first_is then_is (2 * n) (omega arith)
        ∙ listed.past;
    long = step_long n list list₁ list₂ i j ready inside few small first_is then_is ∙ listed.long;
  }
