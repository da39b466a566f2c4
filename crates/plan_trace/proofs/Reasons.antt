-- Why a step departs: the rule that is named holds and none before it, and a step that breaks none is ready. Assumes
-- nothing.
use mathlib.Core.Path.{◌≡◌, refl, sym, ap, subst}
use mathlib.Core.Bool.{Bool, true, false, not, false≢true}
use mathlib.Core.Logic.{◌↔◌}
use mathlib.Core.List.{List, [], ◌∷◌}
use mathlib.Core.Option.{Option, none, some}
use Prim.Native.Nat.{ℕ, ◌≤◌, ◌<◌}
use native.Mathlib.Omega.{arith}
use lib.Dec.{leb}
use lib.ListN.{length}
use borrow.Author.Tests.{leb-true, leb-false, le-leb, lt-leb, not-true, not-false}
use Rattle.base_lists.specs.Lists.{member, all}
use Rattle.base_lists.proofs.Tests.{by_cases, by_option, clash, is_false, and_left, and_right, and_both, not_of_false}
use Rattle.base_lists.proofs.Searches.{Lowest, all_gives, all_by, lowest_some, lowest_none, lowest_is}
use Rattle.base_lists.proofs.Places.{member_place, place_member, mem_place, mem_at}
use Rattle.order.proofs.Runs.{can_below, can_fresh, can_enabled, can_by}
use Rattle.plan_format.specs.Plan.{Point, Plan, count, op}
use Rattle.plan_format.specs.Meaning.{wait_at}
use Rattle.plan_order.specs.Runs.{wait_met, earlier_run, enabled, ready}
use Rattle.plan_order.specs.Meaning.{Met}
use Rattle.plan_order.proofs.Readiness.{earlier_gives, earlier_by}
use Rattle.plan_order.proofs.RunMeaning.{wait_met_means}
use Rattle.plan_trace.specs.declared.Followed.{Followed}
use Rattle.plan_trace.specs.declared.Followed.TheVariants.{
  Full,
  Unfinished,
  Unknown,
  Repeated,
  NotFirst,
  WaitNotMet,
}
use Rattle.plan_trace.specs.Trace.{unmet_wait, of_wait, judged, departs}
use Rattle.plan_trace.specs.Meaning.{HasRun, FirstInQueue, Breaks}
use Rattle.plan_trace.proofs.Cases.{chain}

-- an operation that the plan does not have is unknown, also where it is among the steps
unknown_first : judged chain (9 ∷ []) 9 ≡ Unknown 9
unfolding chain judged count
unknown_first = refl

module _ (p : Plan) (r : List ℕ) where
  -- ---- each test by quantifiers
  pub met_means : (w : Point) → (wait_met p r w ≡ true) ↔ Met p (HasRun r) w
  met_means w = wait_met_means p (HasRun r) r (λ i. (member_place r i, place_member r i)) w

  first_means : (j : ℕ) → (earlier_run p r j ≡ true) ↔ FirstInQueue p r j
  first_means j = (
    (λ t i l q. member_place r i (earlier_gives p r j t i l q)),
    (λ h. earlier_by p r j (λ i l q. place_member r i (h i l q))),
  )

  -- ---- the first wait that is not met
  abbrev unmet : (j k : ℕ) → Bool
  unmet j k = not (wait_met p r (wait_at p j k))

  none_unmet : (j : ℕ) → ◌≡◌ {A = Option ℕ} (unmet_wait p r j) none → all (λ w. wait_met p r w) (op p j).waits ≡ true
  unfolding unmet_wait
  none_unmet j e =
      all_by (λ w. wait_met p r w) (op p j).waits
      (λ w m. let at = mem_place (op p j).waits (record { semaphore = 0; value = 0 }) w m in
      subst (λ (z : Point). wait_met p r z ≡ true) at.2
      (not-false (wait_met p r (wait_at p j at.0))
      (lowest_none (length (op p j).waits) (unmet j) e at.0 at.1)))

  first_unmet : (j k : ℕ) → unmet_wait p r j ≡ some k → Lowest (length (op p j).waits) (unmet j) k
  unfolding unmet_wait
  first_unmet j k e = lowest_some (length (op p j).waits) (unmet j) k e

  all_met : (j : ℕ) → all (λ w. wait_met p r w) (op p j).waits ≡ true → (k : ℕ) → k < length (op p j).waits →
      wait_met p r (wait_at p j k) ≡ true
  all_met j h k l = all_gives (λ w. wait_met p r w) (op p j).waits h (wait_at p j k)
      (mem_at (op p j).waits (record { semaphore = 0; value = 0 }) k l)

  -- ---- a step departs exactly if it is not ready
  pub data JudgedCase (j : ℕ) : Followed → Type 0 where
    unknown : count p ≤ j → JudgedCase j (Unknown j)
    repeated : j < count p → member j r ≡ true → JudgedCase j (Repeated j)
    not_first : j < count p → member j r ≡ false → earlier_run p r j ≡ false → JudgedCase j (NotFirst j)
    unmet_at : (k : ℕ) → j < count p → member j r ≡ false → earlier_run p r j ≡ true → unmet_wait p r j ≡ some k →
        JudgedCase j (WaitNotMet (record { operation = j; wait = k }))
    follows : j < count p → member j r ≡ false → earlier_run p r j ≡ true → ◌≡◌ {A = Option ℕ} (unmet_wait p r j) none →
        JudgedCase j Unfinished

  pub judged_case : (j : ℕ) → JudgedCase j (judged p r j)
  unfolding judged of_wait
  judged_case j =
      by_cases (leb (count p) j) (λ t. rw t (unknown (leb-true (count p) j t)))
      (λ f. let l = leb-false (count p) j f in
      by_cases (member j r) (λ t. rw (f, t) (repeated l t))
      (λ m. by_cases (earlier_run p r j)
      (λ e. by_option (unmet_wait p r j) (λ n. rw (f, m, e, n) (follows l m e n))
      (λ k s. rw (f, m, e, s) (unmet_at k l m e s)))
      (λ e. rw (f, m, e) (not_first l m e))))

  not_ready : (j : ℕ) → (ready p r j ≡ true → ⊥) → true ≡ not (ready p r j)
  not_ready j h = sym (not_of_false (ready p r j) (is_false (ready p r j) h))

  ready_gives : (j : ℕ) → ready p r j ≡ true →
      (earlier_run p r j ≡ true) × (all (λ w. wait_met p r w) (op p j).waits ≡ true)
  unfolding ready enabled
  ready_gives j t =
      let e = can_enabled (count p) (λ r j. enabled p r j) r j t in (
        and_left (earlier_run p r j) (all (λ w. wait_met p r w) (op p j).waits) e,
        and_right (earlier_run p r j) (all (λ w. wait_met p r w) (op p j).waits) e,
      )

  ready_by : (j : ℕ) → j < count p → member j r ≡ false → earlier_run p r j ≡ true →
      all (λ w. wait_met p r w) (op p j).waits ≡ true → ready p r j ≡ true
  unfolding ready enabled
  ready_by j l m e a = can_by (count p) (λ r j. enabled p r j) r j l m
      (and_both (earlier_run p r j) (all (λ w. wait_met p r w) (op p j).waits) e a)

  case_ready : (j : ℕ) (f : Followed) → JudgedCase j f → departs f ≡ not (ready p r j)
  unfolding departs ready
  case_ready j _ (unknown l) = not_ready j (λ t. absurd (omega (arith, can_below (count p) (enabled p) r j t)))
  case_ready j _ (repeated l m) = not_ready j (λ t. clash (member j r) m (can_fresh (count p) (enabled p) r j t))
  case_ready j _ (not_first l m e) = not_ready j (λ t. clash (earlier_run p r j) (ready_gives j t).0 e)
  case_ready j _ (unmet_at k l m e s) =
      let low = first_unmet j k s in
      not_ready j (λ t. clash (wait_met p r (wait_at p j k)) (all_met j (ready_gives j t).1 k low.inside)
      (not-true (wait_met p r (wait_at p j k)) low.passes))
  case_ready j _ (follows l m e n) = sym (ap not (ready_by j l m e (none_unmet j n)))

  pub departs_ready : (j : ℕ) → departs (judged p r j) ≡ not (ready p r j)
  departs_ready j = case_ready j (judged p r j) (judged_case j)

  -- ---- the reason, both ways
  case_breaks : (j : ℕ) (f : Followed) → JudgedCase j f → departs f ≡ true → Breaks p r j f
  unfolding departs Breaks
  case_breaks j _ (unknown l) d = (refl, l)
  case_breaks j _ (repeated l m) d = (refl, l, member_place r j m)
  case_breaks j _ (not_first l m e) d = (
    refl,
    l,
    (λ w. clash (member j r) (place_member r j w) m),
    (λ h. clash (earlier_run p r j) ((first_means j).1 h) e),
  )
  case_breaks j _ (unmet_at k l m e s) d =
      let low = first_unmet j k s in (
        refl,
        l,
        (λ w. clash (member j r) (place_member r j w) m),
        (first_means j).0 e,
        low.inside,
        (λ w. clash (wait_met p r (wait_at p j k)) ((met_means (wait_at p j k)).1 w)
            (not-true (wait_met p r (wait_at p j k)) low.passes)),
        (λ i b. (met_means (wait_at p j i)).0 (not-false (wait_met p r (wait_at p j i)) (low.lower i b))),
      )
  case_breaks j _ (follows l m e n) d = absurd (false≢true d)

  pub breaks_has : (j : ℕ) → departs (judged p r j) ≡ true → Breaks p r j (judged p r j)
  breaks_has j d = case_breaks j (judged p r j) (judged_case j) d

  pub breaks_is : (j : ℕ) (f : Followed) → Breaks p r j f → judged p r j ≡ f
  unfolding judged Breaks
  breaks_is j Full h = absurd h
  breaks_is j Unfinished h = absurd h
  breaks_is j (Unknown i) h = rw (le-leb (count p) j h.1) (ap Unknown (sym h.0))
  breaks_is j (Repeated i) h = rw (lt-leb (count p) j h.1, place_member r j h.2) (ap Repeated (sym h.0))
  breaks_is j (NotFirst i) h =
      rw (
        lt-leb (count p) j h.1,
        is_false (member j r) (λ t. h.2 (member_place r j t)),
        is_false (earlier_run p r j) (λ t. h.3 ((first_means j).0 t)),
      )
      (ap NotFirst (sym h.0))
  breaks_is j (WaitNotMet u) h =
      let at : unmet_wait p r j ≡ some u.wait = unfold unmet_wait in
      (lowest_is (length (op p j).waits) (λ k. not (wait_met p r (wait_at p j k))) u.wait (record {
        inside = h.4;
        passes = not_of_false (wait_met p r (wait_at p j u.wait))
            (is_false (wait_met p r (wait_at p j u.wait)) (λ t. h.5 ((met_means (wait_at p j u.wait)).0 t)));
        lower = λ k l. ap not ((met_means (wait_at p j k)).1 (h.6 k l));
      })) in
      rw (
        lt-leb (count p) j h.1,
        is_false (member j r) (λ t. h.2 (member_place r j t)),
        (first_means j).1 h.3,
        at,
      )
      (unfold of_wait in (ap (λ (i : ℕ). WaitNotMet (record { operation = i; wait = u.wait })) (sym h.0)))
