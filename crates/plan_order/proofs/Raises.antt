-- Where operations that signal one semaphore run in plan order, every run of a plan without refusal 7 raises every
-- semaphore in order. Assumes nothing.
use mathlib.Core.Path.{◌≡◌, refl, subst}
use mathlib.Core.Bool.{Bool, true, false}
use mathlib.Core.List.{List, [], ◌∷◌, ◌++◌}
use Prim.Native.Nat.{ℕ, ◌≤◌, ◌<◌, zero-le, max}
use native.Mathlib.Omega.{arith}
use lib.Dec.{ltb, leb, eqb}
use lib.ListN.{take}
use borrow.Author.Tests.{ltb-true, ltb-false, leb-false, eqb-true, eqb-false, lt-ltb}
use Rattle.base_lists.specs.Lists.{member}
use Rattle.base_lists.proofs.Tests.{by_cases, clash, and_both}
use Rattle.base_lists.proofs.Members.{member_left, member_last}
use Rattle.order.specs.Runs.{runs}
use Rattle.order.proofs.Runs.{can_below, can_fresh, runs_head, runs_tail, runs_nil, runs_snoc}
use Rattle.plan_format.specs.Plan.{Point, Operation, Plan, count, op}
use Rattle.plan_format.specs.Sound.{highest_in, highest, signals_number, signals_refusal}
use Rattle.plan_order.specs.Runs.{reached, points_rise, run_points, raises_in_order}
use Rattle.plan_order.proofs.Signals.{signals_value, value_here, value_there, refusal_none, signal_above}
use Rattle.plan_order.proofs.Signals.{rises}
use Rattle.plan_order.proofs.Readiness.{reached_has, reached_grows, reached_gives}

number_head : (bs : List Operation) (own : List Point) (x : Point) (xs : List Point) →
    signals_number bs own (x ∷ xs) ≡ 0 →
    (highest_in x.semaphore own < x.value) × (signals_number bs (x ∷ own) xs ≡ 0)
unfolding signals_number
number_head bs own x xs e =
    let top = max (highest x.semaphore bs) (highest_in x.semaphore own) in
    by_cases (leb x.value top)
    (λ u. absurd (let z : 7 ≡ 0 = rw u at e in omega arith))
    (λ u. (omega (arith, leb-false x.value top u), rw u at e))

-- an operation's signals rise above what came before them, then the rest does
rise_own : (bs : List Operation) (so_far : ℕ → ℕ) (xs ys own got : List Point) → signals_number bs own xs ≡ 0 →
    ((s : ℕ) → highest_in s got ≤ max (highest_in s own) (so_far s)) →
    ((s v : ℕ) → signals_value s v xs ≡ true → so_far s < v) →
    ((got' : List Point) → ((s : ℕ) → highest_in s got' ≤ max (max (highest_in s own) (highest_in s xs)) (so_far s)) →
    points_rise got' ys ≡ true) →
    points_rise got (xs ++ ys) ≡ true
unfolding points_rise highest_in
rise_own bs f [] ys own got e b above rest = rest got (λ s. omega (arith, b s))
rise_own bs f (x ∷ xs) ys own got e b above rest =
    let h = number_head bs own x xs e in
    and_both (ltb (highest_in x.semaphore got) x.value) (points_rise (x ∷ got) (xs ++ ys))
    (lt-ltb (highest_in x.semaphore got) x.value
    (omega (
      arith,
      b x.semaphore,
      above x.semaphore x.value (value_here x.semaphore x.value x xs refl refl),
    )))
    (rise_own bs f xs ys (x ∷ own) (x ∷ got) h.1 (λ s. omega (arith, b s))
    (λ s v t. above s v (value_there s v x xs t))
    (λ got' c. rest got' (λ s. omega (arith, c s))))

-- runs in which operations that signal one semaphore come in plan order
abbrev pub InPlanOrder : Plan → (List ℕ → ℕ → Bool) → Type 0
InPlanOrder p e =
    (r : List ℕ) → runs (count p) e [] r ≡ true → (i k s v w : ℕ) → i < k → i < count p →
    signals_value s v (op p i).signals ≡ true → signals_value s w (op p k).signals ≡ true →
    member k r ≡ true → member i r ≡ true

module _ (p : Plan) (signals_good : (signals_refusal 0 [] p.operations).number ≡ 0) (en : List ℕ → ℕ → Bool)
    (ordered : InPlanOrder p en) where
  -- what runs next signals above all that the run has reached
  above_run : (r : List ℕ) (j s v : ℕ) → runs (count p) en [] r ≡ true → j < count p → member j r ≡ false →
      signals_value s v (op p j).signals ≡ true → reached p s r < v
  above_run r j s v h b fresh e =
      let pos : 0 < v = omega (arith, signal_above p signals_good j s v b e) in
      by_cases (ltb (reached p s r) v) (λ t. ltb-true (reached p s r) v t)
      (λ f. absurd (
      let g = reached_gives p s v r pos (ltb-false (reached p s r) v f) in
      by_cases (ltb g.0 j)
      (λ t. let up = rises p signals_good g.0 j s g.1 v (ltb-true g.0 j t) b g.4 e in omega (arith, g.3))
      (λ n. by_cases (eqb g.0 j)
      (λ t. clash (member j r) (subst (λ (z : ℕ). member z r ≡ true) (eqb-true g.0 j t) g.2) fresh)
      (λ m. clash (member j r) (ordered r h j g.0 s v g.1
      (omega (arith, ltb-false g.0 j n, eqb-false g.0 j m)) b e g.4 g.2) fresh))))

  rise_from : (r js : List ℕ) (got : List Point) → runs (count p) en [] r ≡ true → runs (count p) en r js ≡ true →
      ((s : ℕ) → highest_in s got ≤ reached p s r) → points_rise got (run_points p js) ≡ true
  unfolding run_points points_rise
  rise_from r [] got h g b = refl
  rise_from r (j ∷ js) got h g b =
      let c = runs_head (count p) en r j js g in
      let l = can_below (count p) en r j c in
      rise_own (take j p.operations) (λ s. reached p s r) (op p j).signals (run_points p js) [] got
      (unfold op count in (refusal_none 0 [] p.operations signals_good j l)) (λ s. omega (arith, b s))
      (λ s v e. above_run r j s v h l (can_fresh (count p) en r j c) e)
      (λ got' d. rise_from (r ++ (j ∷ [])) js got' (runs_snoc (count p) en r j h c) (runs_tail (count p) en r j js g)
      (λ s. unfold highest_in in
      (omega (
        arith,
        d s,
        reached_has p s (r ++ (j ∷ [])) j (member_last j r),
        reached_grows p s r (r ++ (j ∷ [])) (λ i m. member_left i r (j ∷ []) m),
      ))))

  pub runs_raise : (r : List ℕ) → runs (count p) en [] r ≡ true → raises_in_order p r ≡ true
  unfolding raises_in_order
  runs_raise r h = rise_from [] r [] (runs_nil (count p) en []) h (λ s. unfold highest_in in zero-le)
