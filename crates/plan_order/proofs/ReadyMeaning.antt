-- A queue has at most one ready operation; the number ready is the number of ready queues; what the run list holds.
-- Assumes nothing.
use mathlib.Core.Path.{◌≡◌, refl, sym, ap, ◌∙◌}
use mathlib.Core.Bool.{true}
use mathlib.Core.Logic.{◌↔◌}
use mathlib.Core.List.{List, [], ◌∷◌, ◌++◌, append_assoc, append-nil}
use Prim.Native.Nat.{ℕ, zero, suc, ◌+◌, ◌<◌}
use native.Mathlib.Nat.{not-suc-le-zero, le_of_suc-le-suc}
use native.Mathlib.Omega.{arith}
use lib.Dec.{ltb}
use lib.ListN.{length, get_or, take, length-append, get_or-append}
use lib.Seq.{get_or-append-add}
use borrow.Author.Tests.{ltb-true, ltb-false}
use Rattle.base_lists.specs.Lists.{member, is_some}
use Rattle.base_lists.specs.Places.{Counts}
use Rattle.base_lists.proofs.Tests.{by_cases, by_option, clash}
use Rattle.base_lists.proofs.Searches.{some_is, none_is}
use Rattle.base_lists.proofs.Places.{tally_counts}
use Rattle.order.proofs.Runs.{can_fresh, can_enabled}
use Rattle.plan_format.specs.Plan.{Plan, count, op, queues}
use Rattle.plan_order.specs.Runs.{enabled, ready, is_run, ready_on, standard, number_ready, ready_numbers}
use Rattle.plan_order.specs.Runs.{run_list}
use Rattle.plan_order.specs.Meaning.{RunMeans, ReadyQueue}
use Rattle.plan_order.proofs.Readiness.{enabled_gives}
use Rattle.plan_order.proofs.Standard.{ready_on_gives, ready_on_none}
use Rattle.plan_order.proofs.RunMeaning.{run_means, ready_adds}

module _ (p : Plan) (r : List ℕ) where
  -- ---- one of a queue
  not_earlier : (i j : ℕ) → ready p r i ≡ true → ready p r j ≡ true → (op p i).queue ≡ (op p j).queue → i < j → ⊥
  unfolding ready
  not_earlier i j a b q l =
      clash (member i r) ((enabled_gives p r j (can_enabled (count p) (enabled p) r j b)).earlier i l q)
      (can_fresh (count p) (enabled p) r i a)

  pub one_ready : (i j : ℕ) → ready p r i ≡ true → ready p r j ≡ true → (op p i).queue ≡ (op p j).queue → i ≡ j
  one_ready i j a b q =
      by_cases (ltb i j) (λ t. absurd (not_earlier i j a b q (ltb-true i j t)))
      (λ f. by_cases (ltb j i) (λ t. absurd (not_earlier j i b a (sym q) (ltb-true j i t)))
      (λ g. omega (arith, ltb-false i j f, ltb-false j i g)))

  -- ---- ready queues
  module _ (run : is_run p r ≡ true) where
    pub ready_runs : (j : ℕ) → (ready p r j ≡ true) ↔ RunMeans p (r ++ (j ∷ []))
    ready_runs j = (
      (λ h. (run_means p (r ++ (j ∷ []))).0 (sym (ready_adds p r j run) ∙ h)),
      (λ h. ready_adds p r j run ∙ (run_means p (r ++ (j ∷ []))).1 h),
    )

    queue_works : (q : ℕ) → ReadyQueue p r q ↔ ((q < queues p) × (is_some (ready_on p r q) ≡ true))
    queue_works q = (
      (λ w. let x = w.1 in (
        w.0,
        by_option (ready_on p r q)
            (λ e. clash (ready p r x.0) ((ready_runs x.0).1 x.2) (ready_on_none p r q e x.0 x.1))
            (λ j e. some_is (ready_on p r q) j e),
      )),
      (λ w. (
        w.0,
        by_option (ready_on p r q)
            (λ e. clash (is_some (ready_on p r q)) w.1 (none_is (ready_on p r q) e))
            (λ j e. let g = ready_on_gives p r q j e in (j, g.0, (ready_runs j).0 g.1)),
      )),
    )

    pub number_ready_means : (many : ℕ) → (number_ready p r ≡ many) ↔ Counts (ReadyQueue p r) many
    unfolding number_ready
    number_ready_means many = tally_counts (queues p) (λ q. is_some (ready_on p r q)) (ReadyQueue p r) queue_works many

-- ---- the run list: the run, then the number ready before each step
module _ (p : Plan) where
  numbers_length : (r js : List ℕ) → length (ready_numbers p r js) ≡ length js
  unfolding ready_numbers
  numbers_length r [] = refl
  numbers_length r (j ∷ js) = ap suc (numbers_length (r ++ (j ∷ [])) js)

  numbers_at : (r js : List ℕ) (k : ℕ) → k < length js →
      get_or (ready_numbers p r js) k 0 ≡ number_ready p (r ++ take k js)
  unfolding ready_numbers
  numbers_at r [] k l = absurd (not-suc-le-zero l)
  numbers_at r (j ∷ js) zero l = rw append-nil
  numbers_at r (j ∷ js) (suc k) l = numbers_at (r ++ (j ∷ [])) js k (le_of_suc-le-suc l) ∙ rw append_assoc

  pub list_length : length (run_list p) ≡ length (standard p) + length (standard p)
  unfolding run_list
  list_length = rw (length-append, numbers_length)

  pub list_run : (k : ℕ) → k < length (standard p) → get_or (run_list p) k 0 ≡ get_or (standard p) k 0
  unfolding run_list
  list_run k l = get_or-append (standard p) (ready_numbers p [] (standard p)) 0 k l

  pub list_ready : (k : ℕ) → k < length (standard p) →
      get_or (run_list p) (length (standard p) + k) 0 ≡ number_ready p (take k (standard p))
  unfolding run_list
  list_ready k l = get_or-append-add (standard p) (ready_numbers p [] (standard p)) k 0 ∙ numbers_at [] (standard p) k l
