-- Two readinesses that agree after every common run have the same runs, and two choices that agree after every run give
-- the same greedy run. Assumes nothing.
use mathlib.Core.Path.{◌≡◌, refl, sym, ◌∙◌}
use mathlib.Core.Bool.{Bool, true, false}
use mathlib.Core.List.{List, [], ◌∷◌, ◌++◌}
use mathlib.Core.Option.{Option, none, some}
use Prim.Native.Nat.{ℕ, zero, suc, ◌<◌}
use Rattle.base_lists.proofs.Tests.{by_cases, by_option, clash, is_false}
use Rattle.order.specs.Runs.{can, runs}
use Rattle.order.specs.Greedy.{with_next, greedy}
use Rattle.order.proofs.Runs.{can_below, can_fresh, can_enabled, can_by, runs_snoc}

module _ (n : ℕ) (e f : List ℕ → ℕ → Bool)
    (same : (r : List ℕ) (j : ℕ) → runs n e [] r ≡ true → runs n f [] r ≡ true → j < n → e r j ≡ f r j) where
  pub same_can : (r : List ℕ) (j : ℕ) → runs n e [] r ≡ true → runs n f [] r ≡ true → can n e r j ≡ can n f r j
  same_can r j a b =
      by_cases (can n e r j)
      (λ t. let l = can_below n e r j t in
      t ∙ sym (can_by n f r j l (can_fresh n e r j t) (sym (same r j a b l) ∙ can_enabled n e r j t)))
      (λ u. u ∙ sym (is_false (can n f r j) (λ t. let l = can_below n f r j t in
      clash (can n e r j) (can_by n e r j l (can_fresh n f r j t) (same r j a b l ∙ can_enabled n f r j t)) u)))

  pub same_runs : (r js : List ℕ) → runs n e [] r ≡ true → runs n f [] r ≡ true → runs n e r js ≡ runs n f r js
  unfolding runs
  same_runs r [] a b = refl
  same_runs r (j ∷ js) a b =
      let s = same_can r j a b in
      by_cases (can n e r j)
      (λ t. let t' : can n f r j ≡ true = sym s ∙ t in
      rw (t, t') (same_runs (r ++ (j ∷ [])) js (runs_snoc n e r j a t) (runs_snoc n f r j b t')))
      (λ u. let u' : can n f r j ≡ false = sym s ∙ u in rw (u, u'))

module _ (n : ℕ) (e : List ℕ → ℕ → Bool) (next other : List ℕ → Option ℕ)
    (picks : (r : List ℕ) (j : ℕ) → next r ≡ some j → can n e r j ≡ true)
    (same : (r : List ℕ) → runs n e [] r ≡ true → next r ≡ other r) where
  pub same_greedy : (k : ℕ) (r : List ℕ) → runs n e [] r ≡ true → greedy next k r ≡ greedy other k r
  unfolding greedy with_next
  same_greedy zero r h = refl
  same_greedy (suc k) r h =
      by_option (next r)
      (λ t. let t' : ◌≡◌ {A = Option ℕ} (other r) none = sym (same r h) ∙ t in rw (t, t') (same_greedy k r h))
      (λ j t. let t' : other r ≡ some j = sym (same r h) ∙ t in
      rw (t, t') (same_greedy k (r ++ (j ∷ [])) (runs_snoc n e r j h (picks r j t))))
