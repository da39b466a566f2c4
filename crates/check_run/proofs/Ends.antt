-- The pass begins with the empty run and ends with the standard run. Assumes nothing.
use mathlib.Core.Path.{◌≡◌, refl, sym, ap, ◌∙◌, subst}
use mathlib.Core.List.{List, [], ◌∷◌, ◌++◌, append_assoc, append-nil}
use Prim.Native.Nat.{ℕ, zero, suc, ◌+◌, ◌-◌, ◌*◌, ◌≤◌, ◌<◌, zero-le}
use native.Mathlib.Nat.{not-suc-le-zero, le_of_suc-le-suc}
use native.Mathlib.Omega.{arith}
use lib.Dec.{ltb}
use lib.ListN.{length, get_or, set, take, drop, replicate, length-append, length-set, length-replicate}
use lib.ListN.{take-append-drop}
use lib.ListN.{get_or-replicate, get_or-append}
use lib.Seq.{length-take-le, get_or-take, get_or-set_same, get_or-set_other, get_or-append-add, ext_get_or}
use borrow.Author.Tests.{ltb-true, ltb-false}
use Rattle.base_lists.specs.Lists.{member, in_front}
use Rattle.base_lists.proofs.Tests.{by_cases}
use Rattle.base_lists.proofs.Members.{member_nil}
use Rattle.base_lists.proofs.Elements.{replicate_at}
use Rattle.order.specs.Greedy.{greedy}
use Rattle.order.proofs.Runs.{runs_nil}
use Rattle.plan_format.specs.Sizes.{no_operation, row_places, most_queues}
use Rattle.plan_format.specs.Plan.{Plan, count}
use Rattle.plan_order.specs.Runs.{enabled, is_run, next, number_ready, ready_numbers, standard, run_list}
use Rattle.check_columns.specs.Columns.{QueueColumn, RowColumns}
use Rattle.check_run.specs.Words.{has, all_queues}
use Rattle.check_run.specs.Queues.{FirstFrom, found, absent, Chained, HeadsLooked}
use Rattle.check_run.specs.Run.{RunGiven, Cleared, RowsOf, RunListed, Ran}
use Rattle.check_run.specs.State.{Head, waiting, finished, Last, unused, RunPlaces, Watch, Going, Tables}
use Rattle.check_run.specs.State.{Prepared}
use Rattle.check_run.proofs.Words.{has_none, has_all}
use Rattle.check_run.proofs.Sources.{source_small}
use Rattle.check_run.proofs.Watches.{noted_by}
use Rattle.check_run.proofs.Readies.{empty_next}
use Rattle.check_run.proofs.Listings.{greedy_stays}
use Rattle.check_run.proofs.Turns.{head_inside}

-- rows as an array of zeros
pub cleared_by : (rows : List ℕ) → rows ≡ replicate row_places 0 → Cleared rows
cleared_by rows e = record {
  long = ap length e ∙ length-replicate {A = ℕ} row_places 0;
  zeros = λ k. ap (λ (x : List ℕ). get_or x k 0) e ∙ replicate_at row_places 0 k;
}

pub cleared : Cleared (replicate row_places 0)
cleared = cleared_by (replicate row_places 0) refl

pub tables_are : (queue : List ℕ) (n : ℕ) (head next unit : List ℕ) → Chained queue 0 n head next →
    unit ≡ set (replicate 32 0) 16 1 → Tables queue n next unit
tables_are queue n head next unit chained e = record {
  nexts = λ i l b. chained.nexts i zero-le l b;
  one = ap (λ (x : List ℕ). get_or x 16 0) e;
  zeros = λ k ne. ap (λ (x : List ℕ). get_or x k 0) e ∙ get_or-set_other (replicate 32 0) 16 k 1 0 ne ∙
      replicate_at 32 0 k;
}

-- ---- the beginning
module _ (p : Plan) (n : ℕ) (queue source head next : List ℕ) (shown : RunGiven p n queue source)
    (chained : Chained queue 0 n head next) where
  first_head : (q x : ℕ) → FirstFrom queue q 0 n x → Head p [] q x
  unfolding QueueColumn member
  first_head q x (found _ a b e clear) =
      let l : x < count p = omega (arith, shown.many) in
      waiting x l (sym (shown.queues x l) ∙ e) refl
      (λ k u z. absurd (clear k zero-le u (shown.queues k (omega arith) ∙ z)))
  first_head q x (absent clear) =
      finished (λ k u z. absurd (clear k zero-le (omega (arith, shown.many)) (shown.queues k u ∙ z)))

  module _ (prev ran : List ℕ) (prev_is : prev ≡ replicate most_queues no_operation)
      (ran_is : ran ≡ set (replicate (no_operation + 1) 0) no_operation 1) where
    first_places : RunPlaces p [] head prev ran
    unfolding is_run member
    first_places = record {
      a_run = runs_nil (count p) (enabled p) [];
      heads = λ q l. first_head q (get_or head q 0) (chained.heads q l);
      lasts = λ q l. subst (λ (x : ℕ). Last p [] q x)
          (sym (ap (λ (x : List ℕ). get_or x q 0) prev_is ∙ get_or-replicate most_queues q no_operation 0 l))
          (unused (λ k m e. member_nil k m));
      has_run = λ j l. ap (λ (x : List ℕ). get_or x j 0) ran_is
          ∙ get_or-set_other (replicate (no_operation + 1) 0) no_operation j 1 0 (λ z. absurd (omega arith))
          ∙ replicate_at (no_operation + 1) 0 j;
      none_run = ap (λ (x : List ℕ). get_or x no_operation 0) ran_is
          ∙ get_or-set_same (replicate (no_operation + 1) 0) no_operation 1 0
          (let h : no_operation < length (replicate {A = ℕ} (no_operation + 1) 0) = omega
          (arith, length-replicate {A = ℕ} (no_operation + 1) 0) in h);
      head_long = chained.head_long;
      prev_long = ap length prev_is ∙ length-replicate {A = ℕ} most_queues no_operation;
      ran_long = ap length ran_is ∙ length-set {A = ℕ} (replicate (no_operation + 1) 0) no_operation 1
          ∙ length-replicate {A = ℕ} (no_operation + 1) 0;
    }

    first_watch : (ready : ℕ) (waiter : List ℕ) → HeadsLooked all_queues 0 head source ran
        (replicate (no_operation + 1) 0) ready waiter → Watch source head ran waiter ready
    first_watch ready waiter looked = record {
      readies = λ k l. looked.readies k l ∙ rw (has_none k, has_all 16 k l);
      noted = λ k l h f. noted_by all_queues 0 head source ran
          (replicate (no_operation + 1) 0) ready waiter looked k l (has_all 16 k l)
          (λ m b. source_small p n queue source shown (get_or head k 0) m
          (head_inside p [] k (get_or head k 0) (first_places.heads k l) h) b) h f;
      long = looked.long ∙ length-replicate {A = ℕ} (no_operation + 1) 0;
    }

pub started :
    (p : Plan) (n : ℕ) (queue source head next ran waiter : List ℕ) (ready : ℕ) (rows list prev : List ℕ) →
    RunGiven p n queue source → Cleared rows →
    Prepared queue n source head next ran waiter ready → prev ≡ replicate most_queues no_operation →
    Going p n 0 source head prev ran waiter ready rows list list
unfolding standard member RowColumns
started p n queue source head next ran waiter ready rows list prev shown cleared prepared prev_is =
    let chained = prepared.chained in
    record {
      run = [];
      many = refl;
      left = ap (λ (x : ℕ). greedy (λ r. Rattle.plan_order.specs.Runs.next p r) x [])
          (let e : n - 0 ≡ count p = omega (arith, shown.many) in e);
      places = first_places p n queue source head next shown chained prev ran prev_is prepared.ran_is;
      watch = first_watch p n queue source head next shown chained prev ran prev_is prepared.ran_is ready waiter
          prepared.looked;
      filled = record { ran = λ i k m l. member_nil i m; others = λ i k b f l. cleared.zeros (16 * i + k) };
      rows_long = cleared.long;
      listed = record {
        steps = λ k l. absurd (not-suc-le-zero l);
        readies = λ k l. absurd (not-suc-le-zero l);
        past = refl;
        long = refl;
      };
    }

-- ---- the whole list
module _ (p : Plan) where
  numbers_long : (r js : List ℕ) → length (ready_numbers p r js) ≡ length js
  unfolding ready_numbers
  numbers_long r [] = refl
  numbers_long r (j ∷ js) = ap suc (numbers_long (r ++ (j ∷ [])) js)

  numbers_at : (r js : List ℕ) (k : ℕ) → k < length js →
      get_or (ready_numbers p r js) k 0 ≡ number_ready p (r ++ take k js)
  unfolding ready_numbers
  numbers_at r [] k l = absurd (not-suc-le-zero l)
  numbers_at r (j ∷ js) zero l = ap (λ (x : List ℕ). number_ready p x) (sym (append-nil r))
  numbers_at r (j ∷ js) (suc k) l =
      numbers_at (r ++ (j ∷ [])) js k (le_of_suc-le-suc l)
      ∙ ap (λ (x : List ℕ). number_ready p x) (append_assoc r (j ∷ []) (take k js))

  module _ (n : ℕ) (list list_now : List ℕ) (room : 2 * n ≤ length list) (full : length (standard p) ≡ n)
      (listed : RunListed p n (standard p) list list_now) where
    whole_long : length (run_list p) ≡ 2 * n
    unfolding run_list
    whole_long = length-append (standard p) (ready_numbers p [] (standard p))
        ∙ omega (arith, numbers_long [] (standard p))

    whole_at : (k : ℕ) → k < 2 * n → get_or list_now k 0 ≡ get_or (run_list p) k 0
    unfolding run_list
    whole_at k l =
        by_cases (ltb k n)
        (λ t. let b : k < length (standard p) = omega (arith, ltb-true k n t) in
        listed.steps k b ∙ sym (get_or-append (standard p) (ready_numbers p [] (standard p)) 0 k b))
        (λ f. let m = k - n in
        let b : k - n < length (standard p) = omega (arith, ltb-false k n f) in
        let there : k ≡ n + (k - n) = omega (arith, ltb-false k n f) in
        let here : k ≡ length (standard p) + (k - n) = omega (arith, ltb-false k n f) in
        ap (λ (x : ℕ). get_or list_now x 0) there ∙ listed.readies (k - n) b ∙
        sym (numbers_at [] (standard p) (k - n) b)
        ∙ sym (get_or-append-add (standard p) (ready_numbers p [] (standard p)) (k - n) 0)
        ∙ ap (λ (x : ℕ). get_or (standard p ++ ready_numbers p [] (standard p)) x 0) (sym here))

    listed_whole : list_now ≡ in_front (run_list p) list
    unfolding in_front
    listed_whole =
        let front_long : length (take (2 * n) list_now) ≡ 2 * n =
        length-take-le (2 * n) list_now (omega (arith, listed.long)) in
        let front : take (2 * n) list_now ≡ run_list p =
        ext_get_or 0 (take (2 * n) list_now) (run_list p) (front_long ∙ sym whole_long)
        (λ k l. let b : k < 2 * n = omega arith in get_or-take (2 * n) list_now k 0 b ∙ whole_at k b) in
        sym (take-append-drop (2 * n) list_now)
        ∙ ap (λ (x : List ℕ). x ++ drop (2 * n) list_now) front
        ∙ ap (λ (x : List ℕ). run_list p ++ x) (listed.past ∙ ap (λ (x : ℕ). drop x list) (sym whole_long))

-- ---- the end
module _ (p : Plan) (n : ℕ) (queue source : List ℕ) (shown : RunGiven p n queue source) (i : ℕ)
    (head prev ran waiter : List ℕ) (ready : ℕ)
    (rows list list_now : List ℕ) (room : 2 * n ≤ length list)
    (going : Going p n i source head prev ran waiter ready rows list list_now) where
  ended : going.run ≡ standard p → Ran p n i rows list list_now
  ended e =
      let listed : RunListed p n (standard p) list list_now =
      subst (λ (x : List ℕ). RunListed p n x list list_now) e going.listed in
      let many : i ≡ length (standard p) = sym going.many ∙ ap length e in
      record {
        many = many;
        listed = listed;
        whole = λ z. listed_whole p n list list_now room (sym many ∙ z) listed;
        filled = subst (λ (x : List ℕ). RowsOf p x rows) e going.filled;
      }

  -- no queue is ready
  pub ended_early : ready ≡ 0 → Ran p n i rows list list_now
  ended_early z =
      ended (sym (greedy_stays (λ r. next p r) (n - i) going.run
      (empty_next p n queue source shown going.run head prev ran going.places ready going.watch.readies
      (λ q l. ap (λ (x : ℕ). has x q) z ∙ has_none q)))
      ∙ going.left)

  -- all operations have run
  pub ended_full : i ≡ n → Ran p n i rows list list_now
  unfolding greedy
  ended_full e =
      ended (ap (λ (x : ℕ). greedy (λ r. next p r) x going.run) (let z : 0 ≡ n - i = omega arith in z) ∙ going.left)
