-- Raising in order: every signal of the run is above 0 and above each earlier one of its semaphore. Assumes nothing.
use mathlib.Core.Path.{◌≡◌, refl, sym, ◌∙◌, subst}
use mathlib.Core.Bool.{true}
use mathlib.Core.Logic.{◌↔◌}
use mathlib.Core.List.Memᴰ
use mathlib.Core.List.{List, [], ◌∷◌, Memᴰ}
use Prim.Native.Nat.{ℕ, zero, suc, ◌<◌, max}
use native.Mathlib.Nat.{not-suc-le-zero, le_of_suc-le-suc}
use native.Mathlib.Omega.{arith}
use lib.Dec.{ltb, eqb}
use lib.ListN.{length, get_or}
use borrow.Author.Tests.{ltb-true, lt-ltb, eqb-true, eq-eqb}
use Rattle.base_lists.proofs.Tests.{by_cases, and_left, and_right, and_both, either}
use Rattle.base_lists.proofs.Pairwise.{Pairwise, pairwise_nil, pairwise_cons, pairwise_head, pairwise_tail}
use Rattle.base_lists.proofs.Pairwise.{pairwise_append, pairwise_left, pairwise_right, pairwise_cross}
use Rattle.plan_format.specs.Plan.{Point, Plan, op}
use Rattle.plan_format.specs.Sound.{highest_in}
use Rattle.plan_order.specs.Runs.{points_rise, run_points, raises_in_order}
use Rattle.plan_order.specs.Meaning.{RaisesMeans}

-- the later of two points is higher if the semaphore is the same
abbrev Higher : (x y : Point) → Type 0
Higher x y = x.semaphore ≡ y.semaphore → x.value < y.value

abbrev no_point : Point
no_point = record { semaphore = 0; value = 0 }

-- each point is above what was got before
abbrev Above : (got xs : List Point) → Type 0
Above got xs = (x : Point) → Memᴰ x xs → highest_in x.semaphore got < x.value

-- ---- above a point and what was got before it
above_gives : (s v : ℕ) (x : Point) (got : List Point) → highest_in s (x ∷ got) < v →
    (highest_in s got < v) × (x.semaphore ≡ s → x.value < v)
unfolding highest_in
above_gives s v x got h = (
  omega arith,
  (λ e. let h' : max x.value (highest_in s got) < v = rw (eq-eqb x.semaphore s e) at h in omega arith),
)

above_by : (s v : ℕ) (x : Point) (got : List Point) → highest_in s got < v → (x.semaphore ≡ s → x.value < v) →
    highest_in s (x ∷ got) < v
unfolding highest_in
above_by s v x got h g =
    by_cases (eqb x.semaphore s) (λ t. let g' = g (eqb-true x.semaphore s t) in rw t (omega arith))
    (λ f. rw f (omega arith))

-- ---- a list of points rises
rise_gives : (got xs : List Point) → points_rise got xs ≡ true → Above got xs × Pairwise Higher no_point xs
unfolding points_rise
rise_gives got [] h = ((λ x t. absurd (Memᴰ.not-nil t)), pairwise_nil Higher no_point)
rise_gives got (x ∷ xs) h =
    let first = and_left (ltb (highest_in x.semaphore got) x.value) (points_rise (x ∷ got) xs) h in
    let w = rise_gives (x ∷ got) xs
    (and_right (ltb (highest_in x.semaphore got) x.value) (points_rise (x ∷ got) xs) h) in (
      (λ y t. either (Memᴰ.cases_cons t)
          (λ e. subst (λ (z : Point). highest_in z.semaphore got < z.value) (sym e)
          (ltb-true (highest_in x.semaphore got) x.value first))
          (λ u. (above_gives y.semaphore y.value x got (w.0 y u)).0)),
      pairwise_cons Higher no_point x xs (λ y t. (above_gives y.semaphore y.value x got (w.0 y t)).1) w.1,
    )

rise_by : (got xs : List Point) → Above got xs → Pairwise Higher no_point xs → points_rise got xs ≡ true
unfolding points_rise
rise_by got [] a w = refl
rise_by got (x ∷ xs) a w =
    and_both (ltb (highest_in x.semaphore got) x.value) (points_rise (x ∷ got) xs)
    (lt-ltb (highest_in x.semaphore got) x.value (a x (Memᴰ.head refl)))
    (rise_by (x ∷ got) xs
    (λ y t. above_by y.semaphore y.value x got (a y (Memᴰ.tail t))
    (pairwise_head Higher no_point x xs w y t))
    (pairwise_tail Higher no_point x xs w))

-- ---- the signals of a run are those of its steps
module _ (p : Plan) where
  points_only : (r : List ℕ) (x : Point) → Memᴰ x (run_points p r) →
      (k : ℕ) × (k < length r) × Memᴰ x (op p (get_or r k 0)).signals
  unfolding run_points
  points_only [] x t = absurd (Memᴰ.not-nil t)
  points_only (j ∷ js) x t =
      either (Memᴰ.append_cases (op p j).signals t) (λ u. (0, omega arith, u))
      (λ u. let w = points_only js x u in (suc w.0, omega (arith, w.1), w.2))

  points_every : (r : List ℕ) (k : ℕ) (x : Point) → k < length r → Memᴰ x (op p (get_or r k 0)).signals →
      Memᴰ x (run_points p r)
  unfolding run_points
  points_every [] k x l t = absurd (not-suc-le-zero l)
  points_every (j ∷ js) zero x l t = Memᴰ.append_left (run_points p js) t
  points_every (j ∷ js) (suc k) x l t = Memᴰ.append_right (op p j).signals (points_every js k x (le_of_suc-le-suc l) t)

  -- by steps, then in list order
  abbrev StepsRise : List ℕ → Type 0
  StepsRise r = (k l : ℕ) → k < l → l < length r → (x y : Point) → Memᴰ x (op p (get_or r k 0)).signals →
      Memᴰ y (op p (get_or r l 0)).signals → Higher x y

  abbrev ListsRise : List ℕ → Type 0
  ListsRise r = (k : ℕ) → k < length r → Pairwise Higher no_point (op p (get_or r k 0)).signals

  steps_rise : (r : List ℕ) → Pairwise Higher no_point (run_points p r) → StepsRise r
  unfolding run_points
  steps_rise [] w k l a b x y t u = absurd (not-suc-le-zero b)
  steps_rise (j ∷ js) w k zero a b x y t u = absurd (not-suc-le-zero a)
  steps_rise (j ∷ js) w zero (suc l) a b x y t u =
      pairwise_cross Higher no_point (op p j).signals (run_points p js) w x y t
      (points_every js l y (le_of_suc-le-suc b) u)
  steps_rise (j ∷ js) w (suc k) (suc l) a b x y t u =
      steps_rise js (pairwise_right Higher no_point (op p j).signals (run_points p js) w) k l (le_of_suc-le-suc a)
      (le_of_suc-le-suc b) x y t u

  lists_rise : (r : List ℕ) → Pairwise Higher no_point (run_points p r) → ListsRise r
  unfolding run_points
  lists_rise [] w k b = absurd (not-suc-le-zero b)
  lists_rise (j ∷ js) w zero b = pairwise_left Higher no_point (op p j).signals (run_points p js) w
  lists_rise (j ∷ js) w (suc k) b =
      lists_rise js (pairwise_right Higher no_point (op p j).signals (run_points p js) w) k (le_of_suc-le-suc b)

  points_pairwise : (r : List ℕ) → StepsRise r → ListsRise r → Pairwise Higher no_point (run_points p r)
  unfolding run_points
  points_pairwise [] a b = pairwise_nil Higher no_point
  points_pairwise (j ∷ js) a b =
      pairwise_append Higher no_point (op p j).signals (run_points p js)
      (λ x y t u. let w = points_only js y u in a 0 (suc w.0) (omega arith) (omega (arith, w.1)) x y t w.2)
      (b 0 (omega arith))
      (points_pairwise js (λ k l c d. a (suc k) (suc l) (omega arith) (omega arith)) (λ k l. b (suc k) (omega arith)))

  pub raises_means : (r : List ℕ) → (raises_in_order p r ≡ true) ↔ RaisesMeans p r
  unfolding raises_in_order highest_in
  raises_means r = (
    (λ h. let w = rise_gives [] (run_points p r) h in record {
      above_zero = λ k s v l x. subst (λ (z : ℕ). 0 < z) x.3 (w.0 x.0 (points_every r k x.0 l x.1));
      above_earlier_step = λ k l s u v a b x y.
          let t = steps_rise r w.1 k l a b x.0 y.0 x.1 y.1 (x.2 ∙ sym y.2) in
          omega (arith, x.3, y.3);
      above_earlier_in_list = λ k m n l a b. lists_rise r w.1 k l m n a b;
    }),
    (λ h. rise_by [] (run_points p r)
        (λ x t. let w = points_only r x t in
        h.above_zero w.0 x.semaphore x.value w.1 (x, w.2, refl, refl))
        (points_pairwise r
        (λ k l a b x y t u e. h.above_earlier_step k l y.semaphore x.value y.value a b (x, t, e, refl)
        (y, u, refl, refl))
        (λ k l m n a b. h.above_earlier_in_list k m n l a b))),
  )
