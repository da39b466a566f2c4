-- The standard run is the one that takes the lowest ready queue at each step until nothing is ready; what it lacks is
-- in no run. Assumes nothing.
use mathlib.Core.Path.{◌≡◌, refl, sym, ◌∙◌, subst}
use mathlib.Core.Bool.{true}
use mathlib.Core.Logic.{◌↔◌}
use mathlib.Core.List.{List, [], ◌∷◌, ◌++◌}
use mathlib.Core.Option.{Option, none, some}
use Prim.Native.Nat.{ℕ, zero, suc, ◌≤◌, ◌<◌, zero-le}
use native.Mathlib.Nat.{le_refl}
use native.Mathlib.Omega.{arith}
use lib.Dec.{ltb}
use lib.ListN.{length, get_or, take}
use lib.Seq.{take_all, take-length, take-suc}
use borrow.Author.Tests.{ltb-true, ltb-false}
use Rattle.base_lists.specs.Lists.{member}
use Rattle.base_lists.proofs.Tests.{by_cases, by_option, clash}
use Rattle.base_lists.proofs.Places.{member_place, place_member}
use Rattle.order.proofs.Turns.{run_take}
use Rattle.plan_format.specs.Plan.{Plan, count, op, queues}
use Rattle.plan_order.specs.Runs.{enabled, ready, is_run, standard, missing}
use Rattle.plan_order.specs.Meaning.{RunMeans, FullMeans, Takes, StandardMeans, LowestInNoRun}
use Rattle.plan_order.proofs.Standard.{next_ready, next_lowest, standard_steps, standard_runs, standard_stuck}
use Rattle.plan_order.proofs.Standard.{standard_lacks, standard_full, missing_some, missing_none}
use Rattle.plan_order.proofs.RunMeaning.{run_means, full_means}
use Rattle.plan_order.proofs.ReadyMeaning.{one_ready, ready_runs}

module _ (p : Plan) where
  -- ---- at most one such run: two agree on the first k places
  takes_same : (r : List ℕ) (i j : ℕ) → is_run p r ≡ true → Takes p r i → Takes p r j → i ≡ j
  takes_same r i j h a b =
      let x = a.lowest j b.ready in
      let y = b.lowest i a.ready in
      one_ready p r i j ((ready_runs p r h i).1 a.ready) ((ready_runs p r h j).1 b.ready) (omega arith)

  agree : (r s : List ℕ) → is_run p r ≡ true → StandardMeans p r → StandardMeans p s → (k : ℕ) → k ≤ length r →
      (k ≤ length s) × (take k r ≡ take k s)
  unfolding is_run
  agree r s h a b zero l = (zero-le, refl)
  agree r s h a b (suc k) l =
      let w = agree r s h a b k (omega arith) in
      let t = a.takes k l in
      let run = run_take (count p) (enabled p) r h k (omega arith) in
      by_cases (ltb k (length s))
      (λ u. let short = ltb-true k (length s) u in (
        short,
        take-suc r k 0 l
            ∙ same r s k w.1 (takes_same (take k r) (get_or r k 0) (get_or s k 0) run t
            (subst (λ (z : List ℕ). Takes p z (get_or s k 0)) (sym w.1) (b.takes k short)))
            ∙ sym (take-suc s k 0 short),
      ))
      (λ f.
      absurd (b.ends (get_or r k 0) (subst (λ (z : List ℕ). RunMeans p (z ++ (get_or r k 0 ∷ [])))
      (w.1 ∙ take_all k s (ltb-false k (length s) f)) t.ready)))
    where
      same : (r s : List ℕ) (k : ℕ) → take k r ≡ take k s → get_or r k 0 ≡ get_or s k 0 →
          take k r ++ (get_or r k 0 ∷ []) ≡ take k s ++ (get_or s k 0 ∷ [])
      same r s k e q = rw (e, q)

  module _ (in_range : (j : ℕ) → j < count p → (op p j).queue < queues p) where
    is_standard : StandardMeans p (standard p)
    unfolding is_run
    is_standard = record {
      takes = λ k l.
          let t = take k (standard p) in
          let run : is_run p t ≡ true = run_take (count p) (enabled p) (standard p) (standard_runs p in_range) k
          (omega arith) in
          let j = get_or (standard p) k 0 in
          let e = standard_steps p k l in
          record {
            ready = (ready_runs p t run j).0 (next_ready p t j e);
            lowest = λ i h. next_lowest p t j e i ((ready_runs p t run i).1 h);
          };
      ends = λ j h. clash (ready p (standard p) j) ((ready_runs p (standard p) (standard_runs p in_range) j).1 h)
          (standard_stuck p in_range j);
    }

    standard_only : (r : List ℕ) → StandardMeans p r → standard p ≡ r
    standard_only r h =
        let w = agree (standard p) r (standard_runs p in_range) is_standard h (length (standard p))
        (le_refl (length (standard p))) in
        let front : standard p ≡ take (length (standard p)) r = sym (take-length (standard p)) ∙ w.1 in
        by_cases (ltb (length (standard p)) (length r))
        (λ t. let x = h.takes (length (standard p)) (ltb-true (length (standard p)) (length r) t) in
        absurd (is_standard.ends (get_or r (length (standard p)) 0)
        (subst (λ (z : List ℕ). RunMeans p (z ++ (get_or r (length (standard p)) 0 ∷ []))) (sym front) x.ready)))
        (λ f. front ∙ take_all (length (standard p)) r (ltb-false (length (standard p)) (length r) f))

    pub standard_means : (r : List ℕ) → (standard p ≡ r) ↔ StandardMeans p r
    standard_means r = ((λ e. subst (λ (z : List ℕ). StandardMeans p z) e is_standard), standard_only r)

    -- ---- stuck
    missing_lowest : (j : ℕ) → missing p ≡ some j → LowestInNoRun p j
    missing_lowest j e =
        let w = missing_some p in_range j e in
        record {
          operation = w.0;
          in_no_run = λ r h a. clash (member j r) (place_member r j a)
              (standard_lacks p in_range j w.1 r ((run_means p r).1 h));
          lowest = λ i l. (
            standard p,
            (run_means p (standard p)).0 (standard_runs p in_range),
            member_place (standard p) i (w.2 i l),
          );
        }

    none_full : ◌≡◌ {A = Option ℕ} (missing p) none → FullMeans p (standard p)
    none_full e = (full_means p (standard p)).0 (standard_full p in_range (missing_none p in_range e))

    not_lower : (i j : ℕ) → LowestInNoRun p i → LowestInNoRun p j → i ≤ j
    not_lower i j a b =
        by_cases (ltb j i) (λ t. let w = a.lowest j (ltb-true j i t) in absurd (b.in_no_run w.0 w.1 w.2))
        (λ f. ltb-false j i f)

    pub missing_means : (j : ℕ) → (missing p ≡ some j) ↔ LowestInNoRun p j
    missing_means j = (
      missing_lowest j,
      (λ h. by_option (missing p)
          (λ e. let f = none_full e in absurd (h.in_no_run (standard p) f.run (f.every j h.operation)))
          (λ i e. let g = missing_lowest i e in
          let same : i ≡ j = let x = not_lower i j g h in let y = not_lower j i h g in omega arith in cc)),
    )

    pub none_missing_means : ◌≡◌ {A = Option ℕ} (missing p) none ↔ ((r : List ℕ) × FullMeans p r)
    none_missing_means = (
      (λ e. (standard p, none_full e)),
      (λ w. by_option (missing p) (λ e. e)
          (λ j e. let h = missing_lowest j e in
          absurd (h.in_no_run w.0 w.1.run (w.1.every j h.operation)))),
    )
