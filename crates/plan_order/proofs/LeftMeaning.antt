-- What is left in table and list, place by place: the old numbers, zeros, or the rows and the run. Assumes nothing.
use mathlib.Core.Path.{◌≡◌, refl, sym, ap, ◌∙◌, subst}
use mathlib.Core.Bool.{true}
use mathlib.Core.List.{List, []}
use Prim.Native.Nat.{ℕ, ◌+◌, ◌*◌, ◌≤◌, ◌<◌}
use native.Mathlib.Nat.{le_refl}
use native.Mathlib.Omega.{arith}
use lib.ListN.{length, get_or, take, drop, replicate, length-replicate, get_or-replicate}
use lib.Seq.{take-length, take-append-le}
use Rattle.base_lists.specs.Lists.{in_front}
use Rattle.base_lists.proofs.Fronts.{front_length, front_at, front_past}
use Rattle.order.proofs.Turns.{run_take}
use Rattle.plan_format.specs.Plan.{Plan, count, op, queues}
use Rattle.plan_order.specs.Check.{untouched, zeros, rows_and_run, left_in, table_left, list_left}
use Rattle.plan_order.specs.Rows.{rows}
use Rattle.plan_order.specs.Runs.{enabled, is_run, standard, number_ready, ready_numbers, run_list}
use Rattle.plan_order.specs.Meaning.{FullMeans, PastKept, ZerosLeft, RowsLeft, RunLeft}
use Rattle.plan_order.proofs.Rows.{rows_length}
use Rattle.plan_order.proofs.Standard.{standard_runs, run_full}
use Rattle.plan_order.proofs.RunMeaning.{full_means}
use Rattle.plan_order.proofs.RowsMeaning.{rows_means}
use Rattle.plan_order.proofs.ReadyMeaning.{number_ready_means, list_length, list_ready}
use Rattle.plan_order.proofs.StandardMeaning.{standard_means}

-- ---- past what is written
front_kept : (k : ℕ) (new old : List ℕ) → length new ≡ k → PastKept k old (in_front new old)
front_kept k new old e = record {
  long = λ l. front_length new old (omega arith);
  past = λ i l. front_past new old i 0 (omega arith);
}

-- the first k places are those of what is written
front_take : (new old : List ℕ) (k : ℕ) → k ≤ length new → take k (in_front new old) ≡ take k new
unfolding in_front
front_take new old k l = take-append-le k new (drop (length new) old) l

-- ---- zeros
zeros_in : (k : ℕ) (old : List ℕ) → ZerosLeft k old (in_front (replicate k 0) old)
zeros_in k old = record {
  kept = front_kept k (replicate k 0) old (length-replicate k 0);
  zero_at = λ i l. front_at (replicate k 0) old i 0 (omega (arith, length-replicate {A = ℕ} k 0))
      ∙ get_or-replicate k i 0 0 l;
}

module _ (p : Plan) (old : List ℕ) where
  pub table_untouched : table_left untouched p old ≡ old
  unfolding table_left left_in
  table_untouched = refl

  pub list_untouched : list_left untouched p old ≡ old
  unfolding list_left left_in
  list_untouched = refl

  pub table_zeros : ZerosLeft (16 * count p) old (table_left zeros p old)
  unfolding table_left left_in
  table_zeros = zeros_in (16 * count p) old

  pub list_zeros : ZerosLeft (2 * count p) old (list_left zeros p old)
  unfolding list_left left_in
  list_zeros = zeros_in (2 * count p) old

  -- ---- the rows
  pub table_rows : RowsLeft p old (table_left rows_and_run p old)
  unfolding table_left left_in
  table_rows = record {
    kept = front_kept (16 * count p) (rows p) old (rows_length p);
    entry = λ j q l b. (rows_means p j q (get_or (in_front (rows p) old) (16 * j + q) 0) l b).0
        (sym (front_at (rows p) old (16 * j + q) 0 (omega (arith, rows_length p))));
  }

  -- ---- the run
  module _ (in_range : (j : ℕ) → j < count p → (op p j).queue < queues p) (full : length (standard p) ≡ count p) where
    list_double : length (run_list p) ≡ 2 * count p
    list_double = omega (arith, list_length p)

    run_front : (k : ℕ) → k ≤ count p → take k (in_front (run_list p) old) ≡ take k (standard p)
    unfolding run_list
    run_front k l =
        front_take (run_list p) old k (omega (arith, list_double))
        ∙ take-append-le k (standard p) (ready_numbers p [] (standard p)) (omega arith)

    whole : take (count p) (in_front (run_list p) old) ≡ standard p
    whole = run_front (count p) (le_refl (count p)) ∙ ap (λ (z : ℕ). take z (standard p)) (sym full)
        ∙ take-length (standard p)

    ready_here : (k : ℕ) → k < count p →
        get_or (in_front (run_list p) old) (count p + k) 0 ≡ number_ready p (take k (in_front (run_list p) old))
    ready_here k l =
        front_at (run_list p) old (count p + k) 0 (omega (arith, list_double))
        ∙ ap (λ (z : ℕ). get_or (run_list p) (z + k) 0) (sym full) ∙ list_ready p k (omega arith)
        ∙ ap (λ (z : List ℕ). number_ready p z) (sym (run_front k (omega arith)))

    front_runs : (k : ℕ) → k < count p → is_run p (take k (in_front (run_list p) old)) ≡ true
    unfolding is_run
    front_runs k l =
        subst (λ (z : List ℕ). is_run p z ≡ true) (sym (run_front k (omega arith)))
        (run_take (count p) (enabled p) (standard p) (standard_runs p in_range) k (omega arith))

    pub list_run_left : RunLeft p old (list_left rows_and_run p old)
    unfolding list_left left_in
    list_run_left =
        let now = in_front (run_list p) old in
        record {
          kept = front_kept (2 * count p) (run_list p) old list_double;
          run = (standard_means p in_range (take (count p) now)).0 (sym whole);
          full = subst (FullMeans p) (sym whole)
              ((full_means p (standard p)).0 (run_full p (standard p) (standard_runs p in_range) full));
          ready = λ k l. (number_ready_means p (take k now) (front_runs k l) (get_or now (count p + k) 0)).0
              (sym (ready_here k l));
        }
