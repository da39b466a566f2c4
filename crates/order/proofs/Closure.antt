-- Chains, and the closure worked out in rounds: the same relation. Assumes nothing.
use mathlib.Core.Path.{◌≡◌, refl, sym, subst}
use mathlib.Core.Bool.{Bool, true, false, not, false≢true}
use mathlib.Core.List.{List, [], ◌∷◌}
use Prim.Native.Nat.{ℕ, zero, suc, ◌+◌, ◌≤◌, ◌<◌, zero-le}
use native.Mathlib.Nat.{le_refl}
use native.Mathlib.Omega.{arith}
use lib.Dec.{eqb}
use lib.ListN.{length}
use borrow.Author.Tests.{eqb-true, eqb-false, not-true}
use Rattle.base_lists.specs.Lists.{member}
use Rattle.base_lists.proofs.Tests.{by_cases, clash, is_true, and_left, and_right, and_both, or_cases, or_left}
use Rattle.base_lists.proofs.Tests.{or_right, not_of_false, either}
use Rattle.base_lists.proofs.Members.{member_nil, member_here, member_there, member_cons}
use Rattle.base_lists.proofs.Tallies.{find_below}
use Rattle.base_lists.proofs.Distinct.{Sized, sized_nil, sized_cons, sized_all}
use Rattle.order.specs.Closure.{Chain, once, more, any_of, fresh, round, rounds, predecessors}

pub chain_from : (d : ℕ → ℕ → Bool) (i k j : ℕ) → d i k ≡ true → Chain d k j → Chain d i j
chain_from d i k j e (once _ _ f) = more i k j (once i k e) f
chain_from d i k j e (more _ m _ c f) = more i m j (chain_from d i k m e c) f

module _ (d : ℕ → ℕ → Bool) where
  pub any_has : (i k : ℕ) (xs : List ℕ) → member k xs ≡ true → d i k ≡ true → any_of d i xs ≡ true
  unfolding any_of
  any_has i k [] m e = member_nil k m
  any_has i k (x ∷ xs) m e =
      either (member_cons k x xs m) (λ q. or_left (d i x) (any_of d i xs) (subst (λ (z : ℕ). d i z ≡ true) (sym q) e))
      (λ m'. or_right (d i x) (any_of d i xs) (any_has i k xs m' e))

  pub any_gives : (i : ℕ) (xs : List ℕ) → any_of d i xs ≡ true → (k : ℕ) × (member k xs ≡ true) × (d i k ≡ true)
  unfolding any_of
  any_gives i [] e = absurd (false≢true e)
  any_gives i (x ∷ xs) e =
      either (or_cases (d i x) (any_of d i xs) e) (λ t. (x, member_here x xs, t))
      (λ t. let w = any_gives i xs t in (w.0, member_there w.0 x xs w.1, w.2))

  module _ (j : ℕ) where
    -- what is worked out is before j by a chain
    Good : List ℕ → Type 0
    Good xs = (i : ℕ) → member i xs ≡ true → Chain d i j

    add_good : (xs : List ℕ) (i : ℕ) → Good xs → fresh d j xs i ≡ true → Good (i ∷ xs)
    unfolding Good fresh
    add_good xs i g f k m =
        either (member_cons k i xs m)
        (λ q. let w = any_gives i (j ∷ xs) (and_right (not (member i xs)) (any_of d i (j ∷ xs)) f) in
        subst (λ (z : ℕ). Chain d z j) q
        (either (member_cons w.0 j xs w.1) (λ e. once i j (subst (λ (z : ℕ). d i z ≡ true) (sym e) w.2))
        (λ u. chain_from d i w.0 j w.2 (g w.0 u))))
        (λ m'. g k m')

    round_good : (left i : ℕ) (xs : List ℕ) → Good xs → Good (round left i d j xs)
    unfolding round
    round_good zero i xs g = g
    round_good (suc k) i xs g =
        by_cases (fresh d j xs i) (λ t. rw t (round_good k (suc i) (i ∷ xs) (add_good xs i g t)))
        (λ f. rw f (round_good k (suc i) xs g))

    rounds_good : (fuel n : ℕ) (xs : List ℕ) → Good xs → Good (rounds fuel n d j xs)
    unfolding rounds
    rounds_good zero n xs g = g
    rounds_good (suc k) n xs g = rounds_good k n (round n 0 d j xs) (round_good n 0 xs g)

    pub worked_chain : (n i : ℕ) → member i (predecessors n d j) ≡ true → Chain d i j
    unfolding Good predecessors
    worked_chain n = rounds_good n n [] (λ i m. member_nil i m)

    -- a round keeps a list below n without repeats, and makes it longer wherever something is fresh
    round_sized : (n left i : ℕ) (xs : List ℕ) → left + i ≤ n → Sized n xs → Sized n (round left i d j xs)
    unfolding round fresh
    round_sized n zero i xs l s = s
    round_sized n (suc k) i xs l s =
        by_cases (fresh d j xs i)
        (λ t. rw t (round_sized n k (suc i) (i ∷ xs) (omega arith)
        (sized_cons n i xs (omega arith)
        (not-true (member i xs) (and_left (not (member i xs)) (any_of d i (j ∷ xs)) t)) s)))
        (λ f. rw f (round_sized n k (suc i) xs (omega arith) s))

    round_longer : (left i : ℕ) (xs : List ℕ) → length xs ≤ length (round left i d j xs)
    unfolding round
    round_longer zero i xs = le_refl (length xs)
    round_longer (suc k) i xs =
        by_cases (fresh d j xs i) (λ t. rw t (omega (arith, round_longer k (suc i) (i ∷ xs))))
        (λ f. rw f (round_longer k (suc i) xs))

    round_grows : (left i : ℕ) (xs : List ℕ) (k : ℕ) → i ≤ k → k < left + i → fresh d j xs k ≡ true →
        length xs < length (round left i d j xs)
    unfolding round
    round_grows zero i xs k a b t = absurd (omega arith)
    round_grows (suc left) i xs k a b t =
        by_cases (fresh d j xs i) (λ u. rw u (omega (arith, round_longer left (suc i) (i ∷ xs))))
        (λ f. rw f (round_grows left (suc i) xs k
        (by_cases (eqb i k)
        (λ q. clash (fresh d j xs k) t (subst (λ (z : ℕ). fresh d j xs z ≡ false) (eqb-true i k q) f))
        (λ q. omega (arith, eqb-false i k q)))
        (omega arith) t))

    round_stays : (left i : ℕ) (xs : List ℕ) → ((k : ℕ) → k < left + i → fresh d j xs k ≡ false) →
        round left i d j xs ≡ xs
    unfolding round
    round_stays zero i xs h = refl
    round_stays (suc k) i xs h = rw (h i (omega arith)) (round_stays k (suc i) xs (λ m l. h m (omega arith)))

    rounds_stay : (fuel n : ℕ) (xs : List ℕ) → round n 0 d j xs ≡ xs → rounds fuel n d j xs ≡ xs
    unfolding rounds
    rounds_stay zero n xs e = refl
    rounds_stay (suc k) n xs e = rw e (rounds_stay k n xs e)

    -- nothing is fresh after n rounds
    rounds_end : (fuel n : ℕ) (xs : List ℕ) → Sized n xs → n ≤ fuel + length xs → (i : ℕ) → i < n →
        fresh d j (rounds fuel n d j xs) i ≡ false
    unfolding rounds fresh
    rounds_end zero n xs s l i b = rw (sized_all n xs s (omega arith) i b)
    rounds_end (suc k) n xs s l i b =
        either (find_below n (λ m. fresh d j xs m))
        (λ w. rounds_end k n (round n 0 d j xs) (round_sized n n 0 xs (omega arith) s)
        (omega (arith, round_grows n 0 xs w.0 zero-le (omega (arith, w.1)) w.2)) i b)
        (λ h. let same : round n 0 d j xs ≡ xs = round_stays n 0 xs (λ m q. h m (omega arith)) in
        rw (same, rounds_stay k n xs same) (h i b))

    module _ (n : ℕ) (below : (i k : ℕ) → d i k ≡ true → i < n) where
      closed_down : (i k : ℕ) → d i k ≡ true → member k (j ∷ rounds n n d j []) ≡ true →
          member i (rounds n n d j []) ≡ true
      unfolding fresh
      closed_down i k e m =
          let xs = rounds n n d j [] in
          is_true (member i xs)
          (λ f. clash (fresh d j xs i) (and_both (not (member i xs)) (any_of d i (j ∷ xs))
          (not_of_false (member i xs) f) (any_has i k (j ∷ xs) m e))
          (rounds_end n n [] (sized_nil n) (omega arith) i (below i k e)))

      chain_in : (i k : ℕ) → Chain d i k → member k (j ∷ rounds n n d j []) ≡ true → member i (rounds n n d j []) ≡ true
      chain_in i k (once _ _ e) m = closed_down i k e m
      chain_in i k (more _ h _ c e) m = chain_in i h c (member_there h j (rounds n n d j []) (closed_down h k e m))

      pub chain_worked : (i : ℕ) → Chain d i j → member i (predecessors n d j) ≡ true
      unfolding predecessors
      chain_worked i c = chain_in i j c (member_here j (rounds n n d j []))
