-- What was followed: a full run, an unfinished one, or the first step that departs and why, each exactly if. Assumes
-- nothing.
use mathlib.Core.Path.{◌≡◌, refl, sym, ap, ◌∙◌, subst, subst₂}
use mathlib.Core.Bool.{true, false, not, false≢true}
use mathlib.Core.Logic.{◌⊎◌, ◌↔◌}
use mathlib.Core.List.{List, []}
use Prim.Native.Nat.{ℕ, zero, suc, ◌+◌, ◌≤◌, ◌<◌}
use native.Mathlib.Omega.{arith}
use lib.Dec.{ltb, eqb}
use lib.ListN.{length, get_or, take, drop}
use lib.Seq.{drop-cons, take-suc, length-take-le, take-length, drop-length, take-take}
use borrow.Author.Tests.{ltb-true, ltb-false, eqb-true, eqb-false, eq-eqb, ne_eqb, not-true, not-false}
use Rattle.base_lists.proofs.Tests.{by_cases, clash, is_false, either}
use Rattle.base_lists.proofs.Distinct.{sized_le}
use Rattle.order.proofs.Runs.{runs_nil, run_sized}
use Rattle.order.proofs.Turns.{run_take}
use Rattle.plan_format.specs.Plan.{Plan, count}
use Rattle.plan_order.specs.Runs.{enabled, is_run, is_full}
use Rattle.plan_order.proofs.RunMeaning.{run_means, full_means, ready_adds}
use Rattle.plan_order.proofs.Standard.{full_run, run_full}
use Rattle.plan_trace.specs.declared.Followed.{Followed}
use Rattle.plan_trace.specs.declared.Followed.TheVariants.{Full, Unfinished}
use Rattle.plan_trace.specs.Trace.{judged, departs, Found, found, at_end, follow, followed}
use Rattle.plan_trace.specs.Meaning.{Breaks, Departs, FollowedMeans}
use Rattle.plan_order.specs.Meaning.{RunMeans}
use Rattle.plan_trace.proofs.Alike.{same_front, same_at, same_long, same_short}
use Rattle.plan_trace.proofs.Reasons.{departs_ready, breaks_has, breaks_is}

module _ (p : Plan) (xs : List ℕ) where
  -- ---- how a trace ends
  pub data Ends : Found → Type 0 where
    at_last : is_run p xs ≡ true → Ends (found (length xs) (at_end (count p) (length xs)))
    at_step : (k : ℕ) → k < length xs → is_run p (take k xs) ≡ true →
        departs (judged p (take k xs) (get_or xs k 0)) ≡ true → Ends (found k (judged p (take k xs) (get_or xs k 0)))

  -- one step further is a run exactly if it does not depart
  step_run : (k : ℕ) → k < length xs → is_run p (take k xs) ≡ true →
      departs (judged p (take k xs) (get_or xs k 0)) ≡ not (is_run p (take (suc k) xs))
  step_run k l h =
      departs_ready p (take k xs) (get_or xs k 0) ∙ ap not (ready_adds p (take k xs) (get_or xs k 0) h)
      ∙ ap (λ (z : List ℕ). not (is_run p z)) (sym (take-suc xs k 0 l))

  ends_from : (left k : ℕ) → left + k ≡ length xs → is_run p (take k xs) ≡ true →
      Ends (follow p (take k xs) (drop k xs))
  unfolding follow
  ends_from zero k e h =
      let same : k ≡ length xs = omega arith in
      rw (same, drop-length xs, take-length xs) (at_last (rw (same, take-length xs) at h))
  ends_from (suc left) k e h =
      let l : k < length xs = omega arith in
      rw (drop-cons xs k 0 l)
      (by_cases (departs (judged p (take k xs) (get_or xs k 0)))
      (λ t. rw (t, length-take-le k xs (omega arith)) (at_step k l h t))
      (λ f. rw (f, ← take-suc xs k 0 l) (ends_from left (suc k) (omega arith)
      (not-false (is_run p (take (suc k) xs)) (sym (step_run k l h) ∙ f)))))

  pub ends : Ends (followed p xs)
  unfolding followed is_run
  ends = ends_from (length xs) 0 (omega arith) (runs_nil (count p) (λ r j. enabled p r j) [])

  -- ---- full and unfinished
  end_full : (k : ℕ) → (at_end (count p) k ≡ Full) ↔ (k ≡ count p)
  unfolding at_end
  end_full k = (
    (λ e. by_cases (eqb k (count p)) (λ t. eqb-true k (count p) t)
        (λ f. absurd (let u : Unfinished ≡ Full = rw f at e in let z : ◌≡◌ {A = ℕ} 0 1 = cc in omega arith))),
    (λ e. rw (eq-eqb k (count p) e)),
  )

  end_unfinished : (k : ℕ) → (at_end (count p) k ≡ Unfinished) ↔ (k ≡ count p → ⊥)
  unfolding at_end
  end_unfinished k = (
    (λ e q. let u : Full ≡ Unfinished = rw (eq-eqb k (count p) q) at e in let z : ◌≡◌ {A = ℕ} 0 1 = cc in omega arith),
    (λ h. rw (ne_eqb k (count p) h)),
  )

  end_stays : (k : ℕ) → departs (at_end (count p) k) ≡ false
  unfolding at_end departs
  end_stays k = by_cases (eqb k (count p)) (λ t. rw t) (λ f. rw f)

  -- a departing step leaves no run
  no_run_at : (k : ℕ) → k < length xs → is_run p (take k xs) ≡ true →
      departs (judged p (take k xs) (get_or xs k 0)) ≡ true → is_run p (take (suc k) xs) ≡ false
  no_run_at k l h d = not-true (is_run p (take (suc k) xs)) (sym (step_run k l h) ∙ d)

  run_prefix : (k : ℕ) → k ≤ length xs → is_run p xs ≡ true → is_run p (take k xs) ≡ true
  unfolding is_run
  run_prefix k l h = run_take (count p) (λ r j. enabled p r j) xs h k l

  not_a_run : (k : ℕ) → k < length xs → is_run p (take k xs) ≡ true →
      departs (judged p (take k xs) (get_or xs k 0)) ≡ true → is_run p xs ≡ false
  not_a_run k l h d = is_false (is_run p xs)
      (λ t. clash (is_run p (take (suc k) xs)) (run_prefix (suc k) l t) (no_run_at k l h d))

  stays : {f : Followed} → departs f ≡ true → (f ≡ Full → ⊥) × (f ≡ Unfinished → ⊥)
  unfolding departs
  stays {f} d = (
    (λ e. false≢true (rw e at d)),
    (λ e. false≢true (rw e at d)),
  )

  full_of : (x : Found) → Ends x → (x.followed ≡ Full) ↔ (is_full p xs ≡ true)
  unfolding found
  full_of _ (at_last h) = (
    (λ e. run_full p xs h ((end_full (length xs)).0 e)),
    (λ t. (end_full (length xs)).1 (full_run p xs t).1),
  )
  full_of _ (at_step k l h d) = (
    (λ e. absurd ((stays d).0 e)),
    (λ t. clash (is_run p xs) (full_run p xs t).0 (not_a_run k l h d)),
  )

  unfinished_of : (x : Found) → Ends x → (x.followed ≡ Unfinished) ↔ ((is_run p xs ≡ true) × (is_full p xs ≡ true → ⊥))
  unfolding found
  unfinished_of _ (at_last h) = (
    (λ e. (h, (λ t. (end_unfinished (length xs)).0 e (full_run p xs t).1))),
    (λ w. (end_unfinished (length xs)).1 (λ q. w.1 (run_full p xs h q))),
  )
  unfinished_of _ (at_step k l h d) = (
    (λ e. absurd ((stays d).1 e)),
    (λ w. clash (is_run p xs) w.0 (not_a_run k l h d)),
  )

  end_of : (x : Found) → Ends x → (x.followed ≡ Full) ⊎ (x.followed ≡ Unfinished) → x.step ≡ length xs
  unfolding found
  end_of _ (at_last h) w = refl
  end_of _ (at_step k l h d) w = absurd (either w (λ e. (stays d).0 e) (λ e. (stays d).1 e))

  -- ---- the first step that departs
  departs_of : (x : Found) → Ends x → (k : ℕ) (f : Followed) → departs f ≡ true → x ≡ found k f → Departs p xs k f
  unfolding found
  departs_of _ (at_last h) k f d e = absurd
      (false≢true (sym (end_stays (length xs)) ∙ ap (λ (x : Found). departs x.followed) e ∙ d))
  departs_of _ (at_step m l h d) k f _ e =
      let at : m ≡ k = ap (λ (x : Found). x.step) e in
      let why : judged p (take m xs) (get_or xs m 0) ≡ f = ap (λ (x : Found). x.followed) e in
      subst₂ (λ (i : ℕ) (g : Followed). Departs p xs i g) at why (record {
        inside = l;
        a_run = (run_means p (take m xs)).0 h;
        no_run = λ t. clash (is_run p (take (suc m) xs)) ((run_means p (take (suc m) xs)).1 t) (no_run_at m l h d);
        reason = breaks_has p (take m xs) (get_or xs m 0) d;
      })

  -- a run of k steps is one of fewer
  run_less : (m k : ℕ) → m ≤ k → k ≤ length xs → is_run p (take k xs) ≡ true → is_run p (take m xs) ≡ true
  unfolding is_run
  run_less m k a b h =
      subst (λ (z : List ℕ). is_run p z ≡ true) (take-take m k xs a)
      (run_take (count p) (λ r j. enabled p r j) (take k xs) h m (omega (arith, length-take-le k xs b)))

  of_departs : (x : Found) → Ends x → (k : ℕ) (f : Followed) → Departs p xs k f → x ≡ found k f
  of_departs _ (at_last h) k f w = clash (is_run p (take (suc k) xs)) (run_prefix (suc k) w.inside h)
      (is_false (is_run p (take (suc k) xs)) (λ t. w.no_run ((run_means p (take (suc k) xs)).0 t)))
  of_departs _ (at_step m l h d) k f w =
      by_cases (ltb m k)
      (λ t. clash (is_run p (take (suc m) xs))
      (run_less (suc m) k (ltb-true m k t) (omega (arith, w.inside)) ((run_means p (take k xs)).1 w.a_run))
      (no_run_at m l h d))
      (λ g. by_cases (eqb m k)
      (λ t. ap (λ (i : ℕ). found i (judged p (take i xs) (get_or xs i 0))) (eqb-true m k t) ∙
      ap (found k) (breaks_is p (take k xs) (get_or xs k 0) f w.reason))
      (λ ne. absurd (w.no_run ((run_means p (take (suc k) xs)).0
      (run_less (suc k) m (omega (arith, ltb-false m k g, eqb-false m k ne)) (omega arith) h)))))

  -- ---- at most one step more than the plan has operations is looked at
  run_short : (r : List ℕ) → is_run p r ≡ true → length r ≤ count p
  unfolding is_run
  run_short r h = sized_le (count p) r (run_sized (count p) (λ r j. enabled p r j) r h)

  few_of : (x : Found) → Ends x → x.step ≤ count p
  unfolding found
  few_of _ (at_last h) = run_short xs h
  few_of _ (at_step k l h d) = omega (arith, run_short (take k xs) h, length-take-le k xs (omega arith))

  -- the steps before the one that departs, or all, are a run
  run_of : (x : Found) → Ends x → is_run p (take x.step xs) ≡ true
  unfolding found
  run_of _ (at_last h) = rw (take-length xs) h
  run_of _ (at_step k l h d) = h

  pub followed_run : is_run p (take (followed p xs).step xs) ≡ true
  followed_run = run_of (followed p xs) ends

module _ (p : Plan) (xs ys : List ℕ) (same : take (suc (count p)) xs ≡ take (suc (count p)) ys) where
  abbrev front : ℕ
  front = suc (count p)

  departs_alike : (k : ℕ) (f : Followed) → k ≤ count p → Departs p xs k f → Departs p ys k f
  departs_alike k f few w =
      let before = same_front front xs ys same k (omega arith) in
      let after = same_front front xs ys same (suc k) (omega arith) in
      record {
        inside = same_long front xs ys same (suc k) (omega arith) w.inside;
        a_run = subst (RunMeans p) before w.a_run;
        no_run = λ t. w.no_run (subst (RunMeans p) (sym after) t);
        reason = subst₂ (λ (r : List ℕ) (j : ℕ). Breaks p r j f) before (same_at front xs ys same k (omega arith))
            w.reason;
      }

  decided_of : (x : Found) → Ends p xs x → x ≡ followed p xs → x ≡ followed p ys
  unfolding found
  decided_of _ (at_last h) e = e ∙ ap (followed p) (same_short front xs ys same (omega (arith, run_short p xs xs h)))
  decided_of _ (at_step k l h d) e =
      let f = judged p (take k xs) (get_or xs k 0) in
      let w = departs_of p xs (found k f) (at_step k l h d) k f d refl in
      sym (of_departs p ys (followed p ys) (ends p ys) k f
      (departs_alike k f (few_of p xs (found k f) (at_step k l h d)) w))

module _ (p : Plan) (xs : List ℕ) where
  pub followed_means : FollowedMeans p xs (followed p xs)
  followed_means =
      let x = followed p xs in
      let full_law = full_of p xs x (ends p xs) in
      let unfinished_law = unfinished_of p xs x (ends p xs) in
      record {
        full = ((λ e. (full_means p xs).0 (full_law.0 e)), (λ h. full_law.1 ((full_means p xs).1 h)));
        unfinished = (
          (λ e. let w = unfinished_law.0 e in ((run_means p xs).0 w.0, (λ h. w.1 ((full_means p xs).1 h)))),
          (λ w. unfinished_law.1 ((run_means p xs).1 w.0, (λ t. w.1 ((full_means p xs).0 t)))),
        );
        departed = λ k f d. ((λ e. departs_of p xs x (ends p xs) k f d e), (λ w. of_departs p xs x (ends p xs) k f w));
        to_the_end = end_of p xs x (ends p xs);
        few = few_of p xs x (ends p xs);
        decided = λ ys same. decided_of p xs ys same x (ends p xs) refl;
      }
