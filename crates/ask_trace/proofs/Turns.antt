-- What each function and each turn of a loop of the walk does. Assumes nothing.
use mathlib.Core.Path.{◌≡◌, refl, sym, ap, ◌∙◌}
use mathlib.Core.Bool.{Bool, true, false, ◌&&◌, not, cond, and-false}
use mathlib.Core.List.{List, [], ◌∷◌}
use mathlib.Core.Option.{Option, none, some}
use Prim.Native.Nat.{ℕ, zero, suc, ◌+◌, ◌-◌, ◌*◌, ◌/◌, ◌%◌, ◌≤◌, ◌<◌}
use native.Mathlib.Nat.{le_of_suc-le-suc}
use native.Mathlib.Numerals.{add-one}
use native.Mathlib.Omega.{arith}
use lib.Dec.{ltb, leb, eqb}
use lib.ListN.{length, get_or, set, take, drop}
use borrow.Author.Tests.{ltb-true, ltb-false, le-leb, lt-leb, lt-ltb, le-ltb, eq-eqb, ne_eqb}
use Rattle.base_lists.specs.Lists.{tabulate_from}
use Rattle.base_lists.proofs.Tests.{by_cases, by_option, clash}
use Rattle.base_lists.proofs.Searches.{lowest_is, lowest_some}
use Rattle.plan_format.specs.Sizes.{most_operations, most_waits, row_width, step_bytes, no_operation}
use Rattle.plan_format.specs.Grammar.{value}
use Rattle.plan_trace.specs.declared.Followed.{Followed}
use Rattle.plan_trace.specs.declared.Followed.TheVariants.{Full, Unfinished, Unknown, Repeated, NotFirst, WaitNotMet}
use Rattle.plan_trace.specs.Trace.{step_count, step_at, trace_steps, trace_formed, of_wait, departs, at_end}
use Rattle.plan_trace.specs.State.{no_counts, traced}
use Rattle.plan_trace.proofs.Steps.{two_bytes_are}
use Rattle.ask_trace.specs.Walk.{
  place_of,
  own_entry,
  count_of,
  ran_at,
  wait_unmet_at,
  wait_unmet,
  first_unmet,
  judged_shown,
  counts_after,
  walk_from,
}

-- ---- two bytes
pub word_is : (bs : List ℕ) (at a b : ℕ) → a ≡ get_or bs at 0 → b ≡ get_or bs (at + 1) 0 →
    a + 256 * b ≡ value (take 2 (drop at bs))
word_is bs at a b e f = rw (e, f, add-one at) (sym (two_bytes_are bs at))

-- ---- the form of a trace
pub formed_short : (ts : List ℕ) → length ts < step_bytes → false ≡ trace_formed ts
unfolding trace_formed
formed_short ts l = rw (lt-leb step_bytes (length ts) l)

pub formed_long : (ts : List ℕ) (many : ℕ) → step_bytes ≤ length ts → many ≡ value (take step_bytes (drop 0 ts)) →
    eqb (length ts) (step_bytes + step_bytes * many) ≡ trace_formed ts
unfolding trace_formed step_count
formed_long ts many l e = rw (le-leb step_bytes (length ts) l, e)

-- ---- an operation's own entry, and its queue's count
pub own_is : (queue rows : List ℕ) (j q x : ℕ) → q ≡ place_of queue j →
    x ≡ get_or rows (row_width * (j % most_operations) + q) 0 → x ≡ own_entry queue rows j
unfolding own_entry
own_is queue rows j q x e f = f ∙ ap (λ (z : ℕ). get_or rows (row_width * (j % most_operations) + z) 0) e

pub ran_is : (queue rows counts : List ℕ) (i q x : ℕ) → q ≡ place_of queue i → x ≡ own_entry queue rows i →
    leb x (get_or counts q 0) ≡ ran_at queue rows counts i
unfolding ran_at count_of
ran_is queue rows counts i q x e f = rw (← f, ← e)

module _ (queue source rows counts : List ℕ) where
  count_is : (j q : ℕ) → q ≡ place_of queue j → get_or counts q 0 ≡ count_of queue counts j
  unfolding count_of
  count_is j q e = ap (λ (z : ℕ). get_or counts z 0) e

  -- ---- one wait
  -- one comparison of numbers is both tests
  below_unless : (i : ℕ) (ran : Bool) → ltb (i / no_operation) (cond ran 0 1) ≡ (ltb i no_operation && not ran)
  below_unless i true = le-ltb (i / no_operation) 0 (omega arith) ∙ sym (and-false (ltb i no_operation))
  below_unless i false =
      by_cases (ltb i no_operation)
      (λ t. lt-ltb (i / no_operation) 1 (omega (arith, ltb-true i no_operation t)) ∙
      sym (ap (λ (b : Bool). b && true) t))
      (λ f. le-ltb (i / no_operation) 1 (omega (arith, ltb-false i no_operation f)) ∙
      sym (ap (λ (b : Bool). b && true) f))

  pub wait_unmet_is : (at i u : ℕ) (ran : Bool) → i ≡ get_or source at 0 → ran ≡ ran_at queue rows counts i →
      u ≡ cond ran 0 1 →
      ltb (i / no_operation) u ≡ wait_unmet_at queue source rows counts at
  unfolding wait_unmet_at
  wait_unmet_is at i u ran e f g = ap (ltb (i / no_operation)) g ∙ below_unless i ran ∙ rw (← e, f)

  -- ---- the first of three waits
  pub unmet_at : (j k : ℕ) → k < most_waits → wait_unmet queue source rows counts j k ≡ true →
      ((i : ℕ) → i < k → wait_unmet queue source rows counts j i ≡ false) →
      first_unmet queue source rows counts j ≡ some k
  unmet_at j k l t h =
      lowest_is most_waits (wait_unmet queue source rows counts j) k
      (record { inside = l; passes = t; lower = h })

  pub unmet_nowhere : (j : ℕ) → ((i : ℕ) → i < most_waits → wait_unmet queue source rows counts j i ≡ false) →
      ◌≡◌ {A = Option ℕ} (first_unmet queue source rows counts j) none
  unmet_nowhere j h =
      by_option (first_unmet queue source rows counts j) (λ e. e)
      (λ i e. let w = lowest_some most_waits (wait_unmet queue source rows counts j) i e in
      clash (wait_unmet queue source rows counts j i) w.passes (h i w.inside))

  -- ---- one step
  module _ (n j : ℕ) where
    pub judge_unknown : n ≤ j → Unknown j ≡ judged_shown n queue source rows counts j
    unfolding judged_shown
    judge_unknown l = rw (le-leb n j l)

    module _ (q x : ℕ) (known : j < n) (q_is : q ≡ place_of queue j) (x_is : x ≡ own_entry queue rows j) where
      pub judge_repeated : x ≤ get_or counts q 0 → Repeated j ≡ judged_shown n queue source rows counts j
      unfolding judged_shown ran_at
      judge_repeated l = rw (lt-leb n j known, ← x_is, ← count_is j q q_is, le-leb x (get_or counts q 0) l)

      pub judge_late : get_or counts q 0 < x → 1 < x - get_or counts q 0 →
          NotFirst j ≡ judged_shown n queue source rows counts j
      unfolding judged_shown ran_at
      judge_late a l =
          rw (
            lt-leb n j known,
            ← x_is,
            ← count_is j q q_is,
            lt-leb x (get_or counts q 0) a,
            lt-ltb (suc (get_or counts q 0)) x (omega arith),
          )

      pub judge_waits : get_or counts q 0 < x → x - get_or counts q 0 ≤ 1 →
          of_wait j (first_unmet queue source rows counts j) ≡ judged_shown n queue source rows counts j
      unfolding judged_shown ran_at
      judge_waits a l =
          rw (
            lt-leb n j known,
            ← x_is,
            ← count_is j q q_is,
            lt-leb x (get_or counts q 0) a,
            le-ltb (suc (get_or counts q 0)) x (omega arith),
          )

pub none_found : (j : ℕ) (o : Option ℕ) → ◌≡◌ {A = Option ℕ} o none → Unfinished ≡ of_wait j o
unfolding of_wait
none_found j o e = rw e

pub wait_found : (j k : ℕ) (o : Option ℕ) → o ≡ some k → WaitNotMet (record { operation = j; wait = k }) ≡ of_wait j o
unfolding of_wait
wait_found j k o e = rw e

pub ended_full : (n k : ℕ) → k ≡ n → Full ≡ at_end n k
unfolding at_end
ended_full n k e = rw (eq-eqb k n e)

pub ended_not : (n k : ℕ) → (k ≡ n → ⊥) → Unfinished ≡ at_end n k
unfolding at_end
ended_not n k h = rw (ne_eqb k n h)

-- ---- the walk: from here it is the whole
module _ (n : ℕ) (queue source rows trace : List ℕ) where
  pub record Walking (counts : List ℕ) (k : ℕ) : Type 0 where
    pub inside : k ≤ step_count trace
    pub rest : walk_from n queue source rows counts k (tabulate_from (step_count trace - k) k (λ k. step_at trace k)) ≡
        walk_from n queue source rows no_counts 0 (trace_steps trace)

  pub walking_none : Walking no_counts 0
  unfolding trace_steps
  walking_none = let e : step_count trace - 0 ≡ step_count trace = omega arith in
      record { inside = omega arith; rest = rw e }

  next_step : (k : ℕ) → k < step_count trace →
      tabulate_from (step_count trace - k) k (λ k. step_at trace k) ≡ step_at trace k ∷ tabulate_from
      (step_count trace - (k + 1)) (k + 1) (λ k. step_at trace k)
  unfolding tabulate_from
  next_step k l = let e : step_count trace - k ≡ suc (step_count trace - (k + 1)) = omega arith in rw (e, add-one k)

  module _ (counts : List ℕ) (k : ℕ) (w : Walking counts k) where
    pub walking_end : step_count trace ≤ k → (m : ℕ) → m ≡ step_count trace → (f : Followed) → f ≡ at_end n m →
        traced m counts f ≡ walk_from n queue source rows no_counts 0 (trace_steps trace)
    unfolding walk_from tabulate_from
    walking_end l m many f e =
        let z : step_count trace - k ≡ 0 = omega arith in
        let same : m ≡ k = omega (arith, many, l, w.inside) in
        rw (e, same) (rw z at w.rest)

    module _ (j : ℕ) (f : Followed) (l : k < step_count trace) (j_is : j ≡ step_at trace k)
        (f_is : f ≡ judged_shown n queue source rows counts j) where
      pub walking_departs : departs f ≡ true →
          traced k counts f ≡ walk_from n queue source rows no_counts 0 (trace_steps trace)
      unfolding walk_from
      walking_departs d = rw (next_step k l, ← j_is, ← f_is, d) at w.rest

      pub walking_more : departs f ≡ false → (q x : ℕ) → q ≡ place_of queue j → x ≡ own_entry queue rows j →
          Walking (set counts q x) (k + 1)
      unfolding walk_from counts_after
      walking_more d q x q_is x_is =
          record {
            inside = omega arith;
            rest = rw (q_is, x_is, add-one k)
                (rw (next_step k l, ← j_is, ← f_is, d, add-one k) at w.rest);
          }
