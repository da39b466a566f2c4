-- Linear extensions: chains order the steps of every run, and of two numbers that no chain orders either may come
-- first. Assumes nothing.
use mathlib.Core.Path.{◌≡◌, refl, sym, ap, ◌∙◌, subst}
use mathlib.Core.Bool.{Bool, true, false, ◌||◌, not}
use mathlib.Core.Logic.{◌⊎◌, inl, inr}
use mathlib.Core.List.{List, [], ◌∷◌, ◌++◌, append_assoc}
use Prim.Native.Nat.{ℕ, ◌≤◌, ◌<◌}
use native.Mathlib.Nat.{lt_irrefl}
use native.Mathlib.Omega.{arith}
use lib.ListN.{length, length-append}
use lib.Dec.{eqb}
use borrow.Author.Tests.{eqb-true, eq-eqb, ne_eqb, not-true}
use Rattle.base_lists.specs.Lists.{member, filter}
use Rattle.base_lists.proofs.Tests.{by_cases, clash, is_false, not_of_false, or_cases, or_left, or_right, either}
use Rattle.base_lists.proofs.Members.{Sub, member_nil, member_cons, member_left, member_snoc, member_last}
use Rattle.base_lists.proofs.Filters.{filter_yes, filter_no, filter_has, filter_passes, filter_lengths}
use Rattle.order.specs.Runs.{runs, step_of}
use Rattle.order.specs.Closure.{Chain, once, more, predecessors}
use Rattle.order.proofs.Runs.{can_below, can_fresh, can_enabled, can_by, runs_head, runs_tail, runs_cons}
use Rattle.order.proofs.Runs.{runs_nil, runs_append, runs_snoc, full_all}
use Rattle.order.proofs.Steps.{step_order}
use Rattle.order.proofs.Closure.{chain_from, worked_chain, chain_worked}

-- ---- runs in which a number is enabled exactly when all that is directly before it has run
module _ (n : ℕ) (enabled : List ℕ → ℕ → Bool) (direct : ℕ → ℕ → Bool)
    (asks : (r : List ℕ) (i j : ℕ) → runs n enabled [] r ≡ true → enabled r j ≡ true → direct i j ≡ true →
    member i r ≡ true) where
  -- what is directly before is at an earlier step
  direct_steps : (done rest : List ℕ) (i j : ℕ) → runs n enabled [] done ≡ true → runs n enabled done rest ≡ true →
      member j rest ≡ true → direct i j ≡ true →
      (member i (done ++ rest) ≡ true) × (step_of 0 (done ++ rest) i < step_of 0 (done ++ rest) j)
  direct_steps done [] i j hd h m e = member_nil j m
  direct_steps done (k ∷ ks) i j hd h m e =
      let c = runs_head n enabled done k ks h in
      either (member_cons j k ks m)
      (λ q.
      let before : member i done ≡ true =
      asks done i k hd (can_enabled n enabled done k c) (subst (λ (z : ℕ). direct i z ≡ true) (sym q) e) in (
        member_left i done (k ∷ ks) before,
        step_order done (k ∷ ks) i j before (subst (λ (z : ℕ). member z done ≡ false) q (can_fresh n enabled done k c)),
      ))
      (λ m'. rw append_assoc
      at (direct_steps (done ++ (k ∷ [])) ks i j (runs_snoc n enabled done k hd c)
      (runs_tail n enabled done k ks h) m' e))

  pub chain_steps : (r : List ℕ) (i j : ℕ) → runs n enabled [] r ≡ true → member j r ≡ true → Chain direct i j →
      (member i r ≡ true) × (step_of 0 r i < step_of 0 r j)
  chain_steps r i j h m (once _ _ e) = direct_steps [] r i j (runs_nil n enabled []) h m e
  chain_steps r i j h m (more _ k _ c e) =
      let b = direct_steps [] r k j (runs_nil n enabled []) h m e in
      let a = chain_steps r i k h b.0 c in
      (a.0, omega arith)

  -- where a full run exists, nothing is before itself
  pub none_itself : (f : List ℕ) → runs n enabled [] f ≡ true → n ≤ length f → (j : ℕ) → j < n → Chain direct j j → ⊥
  none_itself f h l j b c = lt_irrefl (step_of 0 f j) (chain_steps f j j h (full_all n enabled f h l j b) c).1

  module _
      (suffices : (r : List ℕ) (j : ℕ) → j < n → ((i : ℕ) → direct i j ≡ true → member i r ≡ true) → enabled r j ≡ true)
      (below : (i j : ℕ) → direct i j ≡ true → i < n) where
    -- the part of a run that passes a test runs after a list that has what the part needs besides
    pub select : (keep : ℕ → Bool) (base : List ℕ)
        (needs : (i j : ℕ) → keep j ≡ true → direct i j ≡ true → (keep i ≡ true) ⊎ (member i base ≡ true))
        (done done' rest : List ℕ) → runs n enabled [] done ≡ true → runs n enabled done rest ≡ true → Sub base done' →
        ((i : ℕ) → member i done ≡ true → keep i ≡ true → member i done' ≡ true) →
        ((i : ℕ) → member i done' ≡ true → keep i ≡ true → member i done ≡ true) →
        runs n enabled done' (filter keep rest) ≡ true
    unfolding filter
    select keep base needs done done' [] hd h b to from = runs_nil n enabled done'
    select keep base needs done done' (j ∷ js) hd h b to from =
        let c = runs_head n enabled done j js h in
        let hd' = runs_snoc n enabled done j hd c in
        let rest = runs_tail n enabled done j js h in
        by_cases (keep j)
        (λ t.
        let fresh : member j done' ≡ false =
        is_false (member j done') (λ u. clash (member j done) (from j u t) (can_fresh n enabled done j c)) in
        let ready : enabled done' j ≡ true =
        suffices done' j (can_below n enabled done j c) (λ i e. either (needs i j t e)
        (λ k. to i (asks done i j hd (can_enabled n enabled done j c) e) k) (λ k. b i k)) in
        rw (filter_yes keep j js t)
        (runs_cons n enabled done' j (filter keep js)
        (can_by n enabled done' j (can_below n enabled done j c) fresh ready)
        (select keep base needs (done ++ (j ∷ [])) (done' ++ (j ∷ [])) js hd' rest
        (λ i m. member_left i done' (j ∷ []) (b i m))
        (λ i m k. either (member_snoc i done j m) (λ u. member_left i done' (j ∷ []) (to i u k))
        (λ q. subst (λ (z : ℕ). member z (done' ++ (j ∷ [])) ≡ true) q (member_last j done')))
        (λ i m k. either (member_snoc i done' j m) (λ u. member_left i done (j ∷ []) (from i u k))
        (λ q. subst (λ (z : ℕ). member z (done ++ (j ∷ [])) ≡ true) q (member_last j done))))))
        (λ f. rw (filter_no keep j js f)
        (select keep base needs (done ++ (j ∷ [])) done' js hd' rest b
        (λ i m k. either (member_snoc i done j m) (λ u. to i u k) (λ q. clash (keep j) (ap keep q ∙ k) f))
        (λ i m k. member_left i done (j ∷ []) (from i m k))))

    -- a full run may take first what passes a test that is closed downwards
    pub down_first : (f : List ℕ) → runs n enabled [] f ≡ true → n ≤ length f → (down : ℕ → Bool) →
        ((i j : ℕ) → down j ≡ true → direct i j ≡ true → down i ≡ true) →
        runs n enabled [] (filter down f ++ filter (λ i. not (down i)) f) ≡ true
    down_first f h l down closed =
        runs_append n enabled [] (filter down f) (filter (λ i. not (down i)) f)
        (select down [] (λ i j t e. inl (closed i j t e)) [] [] f (runs_nil n enabled []) h (λ i m. m)
        (λ i m k. m) (λ i m k. m))
        (select (λ i. not (down i)) (filter down f)
        (λ i j t e. by_cases (down i) (λ u. inr (filter_has down f i (full_all n enabled f h l i (below i j e)) u))
        (λ u. inl (not_of_false (down i) u)))
        [] (filter down f) f (runs_nil n enabled []) h (λ i m. m) (λ i m k. member_nil i m)
        (λ i m k. clash (down i) (filter_passes down f i m) (not-true (down i) k)))

    -- so what is in such a part may come before what is not
    other_way : (f : List ℕ) → runs n enabled [] f ≡ true → n ≤ length f → (down : ℕ → Bool) →
        ((i j : ℕ) → down j ≡ true → direct i j ≡ true → down i ≡ true) → (i j : ℕ) → j < n → down j ≡ true →
        down i ≡ false →
        (g : List ℕ) × (runs n enabled [] g ≡ true) × (length g ≡ length f) × (step_of 0 g j < step_of 0 g i)
    other_way f h l down closed i j b dj di = (
      filter down f ++ filter (λ k. not (down k)) f,
      down_first f h l down closed,
      (rw length-append (filter_lengths down f)),
      step_order (filter down f) (filter (λ k. not (down k)) f) j i
          (filter_has down f j (full_all n enabled f h l j b) dj)
          (is_false (member i (filter down f)) (λ t. clash (down i) (filter_passes down f i t) di)),
    )

    -- of two numbers that no chain orders, either may come first
    pub either_first : (f : List ℕ) → runs n enabled [] f ≡ true → n ≤ length f → (i j : ℕ) → j < n → (i ≡ j → ⊥) →
        (Chain direct i j → ⊥) →
        (g : List ℕ) × (runs n enabled [] g ≡ true) × (length g ≡ length f) × (step_of 0 g j < step_of 0 g i)
    either_first f h l i j b ne unchained =
        other_way f h l at_or closed i j b (or_left (eqb j j) (member j (predecessors n direct j)) (eq-eqb j j refl))
        (rw (ne_eqb i j ne)
        (is_false (member i (predecessors n direct j)) (λ t. unchained (worked_chain direct j n i t))))
      where
        at_or : ℕ → Bool
        at_or k = eqb k j || member k (predecessors n direct j)

        closed : (k m : ℕ) → at_or m ≡ true → direct k m ≡ true → at_or k ≡ true
        closed k m t e =
            or_right (eqb k j) (member k (predecessors n direct j))
            (chain_worked direct j n (λ a c d. below a c d) k
            (either (or_cases (eqb m j) (member m (predecessors n direct j)) t)
            (λ q. once k j (subst (λ (z : ℕ). direct k z ≡ true) (eqb-true m j q) e))
            (λ u. chain_from direct k m j e (worked_chain direct j n m u))))
