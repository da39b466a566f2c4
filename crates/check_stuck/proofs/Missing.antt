-- The lowest operation that did not run, by the rows: zero at its own queue. Assumes nothing.
use mathlib.Core.Path.{◌≡◌, refl, sym, ap, ◌∙◌}
use mathlib.Core.Bool.{true, false, not}
use mathlib.Core.Logic.{inl}
use mathlib.Core.List.{List}
use mathlib.Core.Option.{Option, none, some}
use Prim.Native.Nat.{ℕ, ◌+◌, ◌*◌, ◌%◌, ◌<◌}
use native.Mathlib.Nat.{mod-eq_of_lt}
use native.Mathlib.Omega.{arith}
use lib.ListN.{get_or}
use borrow.Author.Tests.{not-true, eqb-true}
use Rattle.base_lists.specs.Lists.{member, lowest_below, place_or}
use Rattle.base_lists.proofs.Tests.{by_option, clash, is_true, is_false, not_of_false}
use Rattle.base_lists.proofs.Searches.{lowest_some, lowest_none, lowest_is}
use Rattle.plan_format.specs.Plan.{Plan, count, op}
use Rattle.plan_format.specs.Sound.{Sound}
use Rattle.plan_order.specs.Promise.{RowEpoch}
use Rattle.plan_order.specs.Runs.{standard, missing}
use Rattle.plan_order.proofs.Demand2.{row_epoch}
use Rattle.check_columns.specs.Columns.{QueueColumn, RowColumns}
use Rattle.check_run.specs.Run.{RowsOf}
use Rattle.check_run.proofs.Fills.{epoch_first}
use Rattle.check_stuck.specs.Zeros.{own_zero, first_zero}

-- the row of operation i is zero at its own queue
abbrev pub Zero : (queue rows : List ℕ) → (i : ℕ) → Type 0
Zero queue rows i = get_or rows (16 * i + get_or queue i 0 % 16) 0 ≡ 0

-- ---- for all columns
module _ (n : ℕ) (queue rows : List ℕ) where
  zero_test : (i : ℕ) → Zero queue rows i → own_zero queue rows i ≡ true
  unfolding own_zero
  zero_test i z = rw z

  zero_of : (i : ℕ) → own_zero queue rows i ≡ true → Zero queue rows i
  unfolding own_zero
  zero_of i t = eqb-true (get_or rows (16 * i + get_or queue i 0 % 16) 0) 0 t

  not_zero : (i : ℕ) → (Zero queue rows i → ⊥) → own_zero queue rows i ≡ false
  not_zero i h = is_false (own_zero queue rows i) (λ t. h (zero_of i t))

  pub zero_at : (i : ℕ) → i < n → Zero queue rows i → ((k : ℕ) → k < i → Zero queue rows k → ⊥) →
      i ≡ first_zero n queue rows
  unfolding place_or
  zero_at i l z h =
      let e : lowest_below n (own_zero queue rows) ≡ some i = lowest_is n (own_zero queue rows) i (record {
        inside = l;
        passes = zero_test i z;
        lower = λ k b. not_zero k (h k b);
      }) in
      rw e

  pub no_zero : ((k : ℕ) → k < n → Zero queue rows k → ⊥) → n ≡ first_zero n queue rows
  unfolding place_or
  no_zero h =
      by_option (lowest_below n (own_zero queue rows)) (λ e. rw e)
      (λ j e. let w = lowest_some n (own_zero queue rows) j e in absurd (h j w.inside (zero_of j w.passes)))

-- ---- for the columns of a plan
module _ (p : Plan) (n : ℕ) (queue rows : List ℕ) (sound : Sound p) (many : count p ≡ n) (shows : QueueColumn p queue)
    (filled : RowsOf p (standard p) rows) where
  queue_small : (i : ℕ) → i < count p → (op p i).queue < 16
  queue_small i l = omega (arith, (sound.in_range i l).queue, sound.few_queues)

  own_queue : (i : ℕ) → i < count p → get_or queue i 0 % 16 ≡ (op p i).queue
  unfolding QueueColumn
  own_queue i l = ap (λ (x : ℕ). x % 16) (shows i l) ∙ mod-eq_of_lt (queue_small i l)

  ran_above : (i : ℕ) → i < count p → member i (standard p) ≡ true → Zero queue rows i → ⊥
  unfolding RowColumns RowEpoch
  ran_above i l m z =
      let same = ap (λ (x : ℕ). get_or rows (16 * i + x) 0) (sym (own_queue i l)) ∙ z in
      omega (
        arith,
        (row_epoch p i i l (queue_small i l)).0 (inl refl),
        epoch_first p i,
        filled.ran i (op p i).queue m (queue_small i l),
      )

  others_zero : (i : ℕ) → i < count p → member i (standard p) ≡ false → Zero queue rows i
  others_zero i l f =
      ap (λ (x : ℕ). get_or rows (16 * i + x) 0) (own_queue i l)
      ∙ filled.others i (op p i).queue (omega (arith, sound.few_operations)) f (queue_small i l)

  stuck_at : (i : ℕ) → i < n → Zero queue rows i → ((k : ℕ) → k < i → Zero queue rows k → ⊥) →
      i ≡ place_or n (missing p)
  unfolding missing place_or
  stuck_at i l z h =
      let e : missing p ≡ some i = lowest_is (count p) (λ j. not (member j (standard p))) i (record {
        inside = omega (arith, many);
        passes = not_of_false (member i (standard p))
            (is_false (member i (standard p)) (λ t. ran_above i (omega (arith, many)) t z));
        lower = λ k b. ap not (is_true (member k (standard p)) (λ f. h k b (others_zero k (omega (arith, many)) f)));
      }) in
      rw e

  stuck_nowhere : ((k : ℕ) → k < n → Zero queue rows k → ⊥) → n ≡ place_or n (missing p)
  unfolding missing place_or
  stuck_nowhere h =
      by_option (missing p) (λ e. rw e)
      (λ j e. let w = lowest_some (count p) (λ j. not (member j (standard p))) j e in
      absurd (h j (omega (arith, many, w.inside))
      (others_zero j w.inside (not-true (member j (standard p)) w.passes))))

  -- what the columns show of the plan
  pub first_missing : first_zero n queue rows ≡ place_or n (missing p)
  first_missing =
      by_option (lowest_below n (own_zero queue rows))
      (λ e. sym (no_zero n queue rows (none_zero e)) ∙ stuck_nowhere (none_zero e))
      (λ i e. let w = lowest_some n (own_zero queue rows) i e in
      let z = zero_of n queue rows i w.passes in
      let h : (k : ℕ) → k < i → Zero queue rows k → ⊥ =
      λ k b y. clash (own_zero queue rows k) (zero_test n queue rows k y) (w.lower k b) in
      sym (zero_at n queue rows i w.inside z h) ∙ stuck_at i w.inside z h)
    where
      none_zero : ◌≡◌ {A = Option ℕ} (lowest_below n (own_zero queue rows)) none → (k : ℕ) → k < n →
          Zero queue rows k → ⊥
      none_zero e k l z =
          clash (own_zero queue rows k) (zero_test n queue rows k z) (lowest_none n (own_zero queue rows) e k l)

  pub missed : {r : ℕ} → r ≡ first_zero n queue rows → r ≡ place_or n (missing p)
  missed e = e ∙ first_missing
