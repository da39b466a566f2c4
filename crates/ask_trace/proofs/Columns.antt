-- The walk over the columns of a plan follows the trace as the definitions say. Assumes nothing.
use mathlib.Core.Path.{◌≡◌, refl, sym, ap, ◌∙◌}
use mathlib.Core.Bool.{Bool, true, false, ◌&&◌, not, and-false, true≢false}
use mathlib.Core.List.{List, [], ◌∷◌, ◌++◌, append_assoc, append-nil}
use Prim.Native.Nat.{ℕ, suc, ◌%◌, ◌≤◌, ◌<◌}
use native.Mathlib.Nat.{mod-eq_of_lt}
use native.Mathlib.Omega.{arith}
use lib.Dec.{ltb, leb, eqb}
use lib.ListN.{length, get_or, take, length-append}
use lib.Seq.{ext_get_or, take_at, take-length}
use borrow.Author.Tests.{leb-false, lt-ltb, not-false}
use Rattle.base_lists.specs.Lists.{member, tally, lowest_below}
use Rattle.base_lists.proofs.Elements.{replicate_at}
use Rattle.base_lists.proofs.Tests.{by_cases}
use Rattle.base_lists.proofs.Places.{mem_at}
use Rattle.base_lists.proofs.Searches.{lowest_cut}
use Rattle.base_lists.proofs.Tallies.{tally_ends}
use Rattle.order.proofs.Runs.{runs_nil}
use Rattle.plan_format.specs.Sizes.{most_queues, most_operations, most_waits, no_operation}
use Rattle.plan_format.specs.Plan.{Plan, count, op}
use Rattle.plan_format.specs.Meaning.{wait_at}
use Rattle.plan_format.specs.Sound.{Sound}
use Rattle.plan_order.specs.Rows.{epoch}
use Rattle.plan_order.specs.Runs.{rested, earlier_run, enabled, ready, is_run, is_full, wait_met}
use Rattle.plan_order.proofs.Demand3.{waits_good}
use Rattle.plan_order.proofs.Readiness.{own_rests}
use Rattle.plan_order.proofs.Rows.{row_at}
use Rattle.plan_order.proofs.RunMeaning.{ready_adds}
use Rattle.check_columns.specs.Columns.{QueueColumn, SourceColumn, RowColumns, no_point}
use Rattle.check_columns.specs.Columns as columns
use Rattle.plan_trace.specs.declared.Followed.{Followed}
use Rattle.plan_trace.specs.declared.Traced.{Traced}
use Rattle.plan_trace.specs.Trace.{unmet_wait, judged, departs, Found, found, follow, followed}
use Rattle.plan_trace.specs.State.{queue_count, queue_counts, no_counts, traced, traced_of}
use Rattle.plan_trace.proofs.Reasons.{
  JudgedCase,
  unknown,
  repeated,
  not_first,
  unmet_at,
  follows,
  judged_case,
  departs_ready,
}
use Rattle.plan_trace.proofs.StateMeaning.{counts_at, counts_long}
use Rattle.plan_trace.proofs.Progress.{own_entry as entry_own, run_is, first_is, counts_more}
use Rattle.ask_trace.specs.Walk.{
  place_of,
  own_entry,
  count_of,
  ran_at,
  wait_unmet_at,
  wait_unmet,
  judged_shown,
  counts_after,
  walk_from,
}

-- a sound plan with a full run, shown by its columns, what its waits rest on, and its rows
pub record TraceGiven (p : Plan) (n : ℕ) (queue source rows : List ℕ) : Type 0 where
  pub sound : Sound p
  pub many : count p ≡ n
  pub few_waits : (i : ℕ) → i < count p → length (op p i).waits ≤ most_waits
  pub queues_shown : QueueColumn p queue
  pub sources_shown : SourceColumn p source
  pub rows_shown : RowColumns p (λ j. j < count p) rows
  pub run : List ℕ
  pub full : is_full p run ≡ true

module _ (p : Plan) (n : ℕ) (queue source rows : List ℕ) (shown : TraceGiven p n queue source rows) where
  queue_low : (i : ℕ) → i < count p → (op p i).queue < most_queues
  queue_low i l = omega (arith, (shown.sound.in_range i l).queue, shown.sound.few_queues)

  uncut : (i : ℕ) → i < count p → i % most_operations ≡ i
  uncut i l = mod-eq_of_lt (omega (arith, shown.sound.few_operations))

  place_right : (i : ℕ) → i < count p → place_of queue i ≡ (op p i).queue
  unfolding place_of QueueColumn
  place_right i l =
      ap (λ (z : ℕ). get_or queue z 0 % most_queues) (uncut i l)
      ∙ ap (λ (z : ℕ). z % most_queues) (shown.queues_shown i l) ∙ mod-eq_of_lt (queue_low i l)

  -- ---- the own entry is the epoch
  entry_right : (i : ℕ) → i < count p → own_entry queue rows i ≡ epoch p i
  unfolding own_entry RowColumns
  entry_right i l =
      rw (uncut i l, place_right i l) (shown.rows_shown i (op p i).queue l (queue_low i l)
      ∙ row_at p i (op p i).queue (queue_low i l)
      ∙ entry_own p shown.run shown.full i l)

  module _ (r : List ℕ) (a_run : is_run p r ≡ true) where
    count_right : (i : ℕ) → i < count p → count_of queue (queue_counts p r) i ≡ queue_count p r (op p i).queue
    unfolding count_of
    count_right i l =
        ap (λ (z : ℕ). get_or (queue_counts p r) z 0) (place_right i l) ∙ counts_at p r (op p i).queue (queue_low i l)

    pub ran_right : (i : ℕ) → i < count p → ran_at queue rows (queue_counts p r) i ≡ member i r
    unfolding ran_at
    ran_right i l = rw (entry_right i l, count_right i l) (sym (run_is p r a_run i l))

    late_right : (i : ℕ) → i < count p →
        ltb (suc (count_of queue (queue_counts p r) i)) (own_entry queue rows i) ≡ not (earlier_run p r i)
    late_right i l = rw (entry_right i l, count_right i l) (sym (first_is p r a_run i l))

    -- ---- waits
    -- a wait rests on an operation
    unmet_by_run : (j k : ℕ) → j < count p → k < length (op p j).waits →
        wait_unmet queue source rows (queue_counts p r) j k ≡ not (wait_met p r (wait_at p j k))
    unfolding wait_unmet wait_unmet_at wait_met rested columns.wait_at
    unmet_by_run j k l b =
        let (x, t, e) = own_rests p (waits_good p shown.sound) j l (wait_at p j k)
        (mem_at (op p j).waits no_point k b) in
        rw (
          uncut j l,
          shown.sources_shown.rests j k x l b e,
          lt-ltb x.operation no_operation (omega (arith, t.inside, shown.sound.few_operations)),
          e,
        )
        (ap not (ran_right x.operation t.inside))

    -- past the waits of an operation nothing is waited for
    unmet_past : (j k : ℕ) → j < count p → length (op p j).waits ≤ k → k < most_waits →
        wait_unmet queue source rows (queue_counts p r) j k ≡ false
    unfolding wait_unmet wait_unmet_at
    unmet_past j k l a b = rw (uncut j l, shown.sources_shown.absent j k l a b)

    unmet_right : (j : ℕ) → j < count p →
        lowest_below most_waits (λ k. wait_unmet queue source rows (queue_counts p r) j k) ≡ unmet_wait p r j
    unfolding unmet_wait
    unmet_right j l =
        lowest_cut (length (op p j).waits) most_waits (λ k. wait_unmet queue source rows (queue_counts p r) j k)
        (λ k. not (wait_met p r (wait_at p j k))) (shown.few_waits j l) (λ k b. unmet_by_run j k l b)
        (λ k a b. unmet_past j k l a b)

    -- ---- one step
    judged_right : (j : ℕ) → judged_shown n queue source rows (queue_counts p r) j ≡ judged p r j
    unfolding judged_shown judged
    judged_right j =
        rw (← shown.many)
        (by_cases (leb (count p) j) (λ t. rw t)
        (λ f. let l = leb-false (count p) j f in rw (f, ran_right j l, late_right j l, unmet_right j l)))

    case_stays : (j : ℕ) (f : Followed) → JudgedCase p r j f → departs f ≡ false →
        (j < count p) × (member j r ≡ false) × (earlier_run p r j ≡ true)
    unfolding departs
    case_stays j _ (unknown l) d = absurd (true≢false d)
    case_stays j _ (repeated l m) d = absurd (true≢false d)
    case_stays j _ (not_first l m e) d = absurd (true≢false d)
    case_stays j _ (unmet_at k l m e s) d = absurd (true≢false d)
    case_stays j _ (follows l m e z) d = (l, m, e)

    counts_right : (j : ℕ) → departs (judged p r j) ≡ false →
        counts_after queue rows (queue_counts p r) j ≡ queue_counts p (r ++ (j ∷ []))
    unfolding counts_after
    counts_right j d =
        let w = case_stays j (judged p r j) (judged_case p r j) d in
        rw (place_right j w.0, entry_right j w.0)
        (sym (counts_more p r a_run j w.0 w.1 w.2 (queue_low j w.0)))

    run_more : (j : ℕ) → departs (judged p r j) ≡ false → is_run p (r ++ (j ∷ [])) ≡ true
    run_more j d = sym (ready_adds p r j a_run) ∙ not-false (ready p r j) (sym (departs_ready p r j) ∙ d)

  -- ---- the walk
  after : (x : Found) → List ℕ → Traced
  after x all = traced x.step (queue_counts p (take x.step all)) x.followed

  walk_right : (js r : List ℕ) → is_run p r ≡ true →
      walk_from n queue source rows (queue_counts p r) (length r) js ≡ after (follow p r js) (r ++ js)
  unfolding walk_from follow after found
  walk_right [] r a_run = rw (← shown.many, append-nil r, take-length r)
  walk_right (j ∷ js) r a_run =
      rw (judged_right r a_run j)
      (by_cases (departs (judged p r j))
      (λ t. rw (t, take_at r (j ∷ js) (length r) refl))
      (λ f. let long : suc (length r) ≡ length (r ++ (j ∷ [])) = rw length-append (omega arith) in
      rw (f, counts_right r a_run j f, long) (walk_right js (r ++ (j ∷ [])) (run_more r a_run j f)
      ∙ ap (λ (z : List ℕ). after (follow p (r ++ (j ∷ [])) js) z) (append_assoc r (j ∷ []) js))))

  -- nothing has run
  none_run : (q : ℕ) → queue_count p [] q ≡ 0
  unfolding queue_count member tally
  none_run q =
      let f : ℕ → Bool = λ k. eqb (op p k).queue q && member k [] in
      let most : tally (count p) f ≤ 0 = tally_ends 0 (count p) f (λ k a b. and-false (eqb (op p k).queue q)) in
      omega arith

  counts_none : queue_counts p [] ≡ no_counts
  counts_none =
      ext_get_or 0 (queue_counts p []) no_counts (counts_long p []) (λ i l.
      counts_at p [] i (omega (arith, counts_long p [])) ∙ none_run i ∙ sym (replicate_at most_queues 0 i))

  pub walked_right : (steps : List ℕ) → walk_from n queue source rows no_counts 0 steps ≡ traced_of p steps
  unfolding traced_of followed after
  walked_right steps =
      rw (← counts_none) (walk_right steps [] (unfold is_run in (runs_nil (count p) (λ r j. enabled p r j) [])))
