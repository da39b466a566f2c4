-- The greedy run is a run that nothing can follow, and each step is what the choice gave. Assumes nothing.
use mathlib.Core.Path.{◌≡◌, refl, sym, ◌∙◌}
use mathlib.Core.Bool.{Bool, true, false}
use mathlib.Core.List.{List, [], ◌∷◌, ◌++◌, append_assoc, append-nil}
use mathlib.Core.Option.{Option, none, some}
use Prim.Native.Nat.{ℕ, zero, suc, ◌+◌, ◌≤◌, ◌<◌, zero-le}
use native.Mathlib.Omega.{arith}
use lib.Dec.{eqb}
use lib.ListN.{length, get_or, take, length-append}
use lib.Seq.{take_at, get_or_at}
use borrow.Author.Tests.{eqb-true, eqb-false}
use Rattle.base_lists.specs.Lists.{member}
use Rattle.base_lists.proofs.Tests.{by_cases, by_option, clash, is_false}
use Rattle.order.specs.Runs.{can, runs}
use Rattle.order.specs.Greedy.{with_next, greedy}
use Rattle.order.proofs.Runs.{can_below, can_fresh, runs_nil, runs_snoc, full_all}

module _ (n : ℕ) (enabled : List ℕ → ℕ → Bool) (next : List ℕ → Option ℕ)
    (picks : (r : List ℕ) (j : ℕ) → next r ≡ some j → can n enabled r j ≡ true)
    (stops : (r : List ℕ) → next r ≡ none → (j : ℕ) → can n enabled r j ≡ false) where
  Ends : List ℕ → Type 0
  Ends g = (runs n enabled [] g ≡ true) × ((j : ℕ) → can n enabled g j ≡ false)

  stays : (k : ℕ) (r : List ℕ) → next r ≡ none → greedy next k r ≡ r
  unfolding greedy with_next
  stays zero r e = refl
  stays (suc k) r e = rw e (stays k r e)

  ends_from : (k : ℕ) (r : List ℕ) → runs n enabled [] r ≡ true → n ≤ k + length r → Ends (greedy next k r)
  unfolding Ends greedy with_next
  ends_from zero r h l = (
    h,
    λ j. is_false (can n enabled r j) (λ c.
        clash (member j r) (full_all n enabled r h (omega arith) j (can_below n enabled r j c))
        (can_fresh n enabled r j c)),
  )
  ends_from (suc k) r h l =
      by_option (next r) (λ e. rw (e, stays k r e) (h, stops r e))
      (λ j e.
      rw e (ends_from k (r ++ (j ∷ [])) (runs_snoc n enabled r j h (picks r j e)) (rw length-append (omega arith))))

  pub greedy_runs : runs n enabled [] (greedy next n []) ≡ true
  unfolding Ends
  greedy_runs = (ends_from n [] (runs_nil n enabled []) (omega arith)).0

  pub greedy_stuck : (j : ℕ) → can n enabled (greedy next n []) j ≡ false
  unfolding Ends
  greedy_stuck = (ends_from n [] (runs_nil n enabled []) (omega arith)).1

-- ---- what the choice gave at each step
module _ (next : List ℕ → Option ℕ) where
  greedy_extends : (k : ℕ) (r : List ℕ) → (rest : List ℕ) × (greedy next k r ≡ r ++ rest)
  unfolding greedy with_next
  greedy_extends zero r = ([], sym (append-nil r))
  greedy_extends (suc k) r =
      by_option (next r) (λ e. rw e (greedy_extends k r))
      (λ j e.
      rw e (let w = greedy_extends k (r ++ (j ∷ [])) in ((j ∷ []) ++ w.0, w.1 ∙ append_assoc r (j ∷ []) w.0)))

  greedy_steps_from : (k : ℕ) (r : List ℕ) (m : ℕ) → length r ≤ m → m < length (greedy next k r) →
      next (take m (greedy next k r)) ≡ some (get_or (greedy next k r) m 0)
  unfolding greedy with_next
  greedy_steps_from zero r m a b = absurd (omega arith)
  greedy_steps_from (suc k) r m a b =
      by_option (next r)
      (λ e. rw e (greedy_steps_from k r m a (rw e at b)))
      (λ j e. let b' : m < length (greedy next k (r ++ (j ∷ []))) = rw e at b in
      rw e (by_cases (eqb m (length r))
      (λ t. let q = eqb-true m (length r) t in
      let w = greedy_extends k (r ++ (j ∷ [])) in
      let whole : greedy next k (r ++ (j ∷ [])) ≡ r ++ j ∷ w.0 = w.1 ∙ append_assoc r (j ∷ []) w.0 in
      rw (whole, take_at r (j ∷ w.0) m (sym q), get_or_at r j w.0 0 m (sym q)) e)
      (λ f. greedy_steps_from k (r ++ (j ∷ [])) m (rw length-append (omega (arith, eqb-false m (length r) f))) b')))

  pub greedy_steps : (n m : ℕ) → m < length (greedy next n []) →
      next (take m (greedy next n [])) ≡ some (get_or (greedy next n []) m 0)
  greedy_steps n m l = greedy_steps_from n [] m zero-le l
