-- A run by its places: each number may come next after those that are before it; a number's step is its first place.
-- Assumes nothing.
use mathlib.Core.Path.{◌≡◌, refl, sym, ◌∙◌, subst}
use mathlib.Core.Bool.{Bool, true}
use mathlib.Core.List.{List, [], ◌∷◌, ◌++◌, append_assoc, append-nil}
use Prim.Native.Nat.{ℕ, zero, suc, ◌+◌, ◌≤◌, ◌<◌}
use native.Mathlib.Nat.{not-suc-le-zero, le_of_suc-le-suc, zero-add}
use native.Mathlib.Omega.{arith}
use lib.ListN.{length, get_or, take, length-append}
use lib.Seq.{length-take-le, take-take, get_or-take, take_at, get_or_at}
use borrow.Author.Tests.{eq-eqb, ne_eqb}
use Rattle.base_lists.specs.Places.{Among}
use Rattle.order.specs.Runs.{can, runs, step_of}
use Rattle.order.proofs.Runs.{runs_head, runs_tail, runs_cons, runs_nil}

module _ (n : ℕ) (enabled : List ℕ → ℕ → Bool) where
  turns_from : (r js : List ℕ) → runs n enabled r js ≡ true → (k : ℕ) → k < length js →
      can n enabled (r ++ take k js) (get_or js k 0) ≡ true
  turns_from r [] h k l = absurd (not-suc-le-zero l)
  turns_from r (j ∷ js) h zero l = rw append-nil (runs_head n enabled r j js h)
  turns_from r (j ∷ js) h (suc k) l =
      subst (λ (z : List ℕ). can n enabled z (get_or js k 0) ≡ true) (append_assoc r (j ∷ []) (take k js))
      (turns_from (r ++ (j ∷ [])) js (runs_tail n enabled r j js h) k (le_of_suc-le-suc l))

  from_turns : (r js : List ℕ) → ((k : ℕ) → k < length js → can n enabled (r ++ take k js) (get_or js k 0) ≡ true) →
      runs n enabled r js ≡ true
  from_turns r [] h = runs_nil n enabled r
  from_turns r (j ∷ js) h =
      runs_cons n enabled r j js (rw append-nil at (h 0 (omega arith)))
      (from_turns (r ++ (j ∷ [])) js (λ k l.
      subst (λ (z : List ℕ). can n enabled z (get_or js k 0) ≡ true) (sym (append_assoc r (j ∷ []) (take k js)))
      (h (suc k) (omega arith))))

  pub run_turns : (r : List ℕ) → runs n enabled [] r ≡ true → (k : ℕ) → k < length r →
      can n enabled (take k r) (get_or r k 0) ≡ true
  run_turns r h = turns_from [] r h

  pub turns_run : (r : List ℕ) → ((k : ℕ) → k < length r → can n enabled (take k r) (get_or r k 0) ≡ true) →
      runs n enabled [] r ≡ true
  turns_run r h = from_turns [] r h

  -- the last of a run may come next after the others
  pub run_last : (r : List ℕ) (j : ℕ) → runs n enabled [] (r ++ (j ∷ [])) ≡ true → can n enabled r j ≡ true
  run_last r j h =
      let t = run_turns (r ++ (j ∷ [])) h (length r) (rw length-append (omega arith)) in
      rw (take_at r (j ∷ []) (length r) refl, get_or_at r j [] 0 (length r) refl) at t

  -- the front of a run is a run
  pub run_take : (r : List ℕ) → runs n enabled [] r ≡ true → (k : ℕ) → k ≤ length r →
      runs n enabled [] (take k r) ≡ true
  run_take r h k b =
      turns_run (take k r) (λ m l.
      let a : m < k = omega (arith, length-take-le k r b) in
      rw (take-take m k r (omega arith), get_or-take k r m 0 a) (run_turns r h m (omega arith)))

-- ---- steps
step_shift : (xs : List ℕ) (a j k : ℕ) → k < length xs → get_or xs k 0 ≡ j → (Among xs k j → ⊥) → step_of a xs j ≡ a + k
unfolding step_of
step_shift [] a j k l e h = absurd (not-suc-le-zero l)
step_shift (x ∷ xs) a j zero l e h = rw (eq-eqb x j e) (omega arith)
step_shift (x ∷ xs) a j (suc k) l e h =
    rw (ne_eqb x j (λ q. h (0, omega arith, q)))
    (step_shift xs (suc a) j k (le_of_suc-le-suc l) e (λ w. h (suc w.0, omega (arith, w.1), w.2)) ∙ omega arith)

pub step_is : (r : List ℕ) (j k : ℕ) → k < length r → get_or r k 0 ≡ j → (Among r k j → ⊥) → step_of 0 r j ≡ k
step_is r j k l e h = step_shift r 0 j k l e h ∙ zero-add k
