-- One pass over the signals raises each semaphore to the highest value that was signalled. Assumes nothing.
use mathlib.Core.Path.{◌≡◌, refl, sym, ap, ◌∙◌, subst}
use mathlib.Core.Bool.{Bool, true, false, ◌&&◌, cond, and-true, and-false}
use mathlib.Core.List.{List, ◌++◌, append_assoc}
use Prim.Native.Nat.{ℕ, zero, suc, ◌+◌, ◌-◌, ◌%◌, ◌≤◌, ◌<◌, max}
use native.Mathlib.Nat.{mod-eq_of_lt, zero-add, mod-lt}
use native.Mathlib.Numerals.{add-one}
use native.Mathlib.Omega.{arith}
use lib.Dec.{ltb, eqb}
use lib.ListN.{length, get_or, set, drop, replicate, length-set, length-append, length-replicate, get_or-append}
use lib.ListN.{get_or-eq_default}
use lib.Seq.{ext_get_or, drop-drop, get_or-append_right, get_or-set_same, get_or-set_other, drop-cons, drop-length}
use borrow.Author.Tests.{eqb-true, eqb-false, eq-eqb, ne_eqb, ltb-true, ltb-false}
use Rattle.base_lists.specs.Lists.{member, in_front}
use Rattle.base_lists.proofs.Elements.{replicate_at}
use Rattle.base_lists.proofs.Tests.{by_cases}
use Rattle.base_lists.proofs.Fronts.{front_length, front_at, front_past}
use Rattle.base_lists.proofs.Tables.{tabulate_length, tabulate_at}
use Rattle.plan_format.specs.Sizes.{most_queues, most_semaphores, state_size}
use Rattle.plan_format.specs.Plan.{Plan, count}
use Rattle.plan_order.specs.Precedence.{Signal, no_signal, plan_signals}
use Rattle.plan_order.specs.Runs.{reached, is_run}
use Rattle.check_columns.specs.Columns.{SignalColumns}
use Rattle.plan_trace.specs.State.{queue_counts, state_of}
use Rattle.plan_trace.proofs.StateMeaning.{counts_at, counts_long, state_long, state_count, state_highest}
use Rattle.plan_trace.proofs.Tops.{top, top_reached}
use Rattle.ask_trace.specs.Walk.{ran_at}
use Rattle.ask_trace.specs.Raising.{begun, higher, raised_by, raised_from}
use Rattle.ask_trace.proofs.Columns.{TraceGiven, ran_right}

-- ---- the counts and zeros
module _ (counts old : List ℕ) (room : state_size ≤ length old) where
  begun_size : length (begun counts) ≡ state_size
  unfolding begun
  begun_size = tabulate_length (λ i. get_or counts i 0) state_size 0

  begun_at : (i : ℕ) → i < state_size → get_or (begun counts) i 0 ≡ get_or counts i 0
  unfolding begun
  begun_at i l = tabulate_at (λ i. get_or counts i 0) state_size 0 i 0 l ∙
      ap (λ (z : ℕ). get_or counts z 0) (zero-add i)

  -- the counts, and zeros after them
  pub begun_is : length counts ≡ most_queues → begun counts ≡ counts ++ replicate most_semaphores 0
  begun_is e =
      let zeros : List ℕ = replicate most_semaphores 0 in
      ext_get_or 0 (begun counts) (counts ++ zeros)
      (begun_size ∙ omega (arith, e, length-append counts zeros, length-replicate {A = ℕ} most_semaphores 0))
      (λ i l. begun_at i (omega (arith, l, begun_size))
      ∙ by_cases (ltb i most_queues)
      (λ t. sym (get_or-append counts zeros 0 i (omega (arith, e, ltb-true i most_queues t))))
      (λ f. get_or-eq_default counts 0 (omega (arith, e, ltb-false i most_queues f))
      ∙ sym (replicate_at most_semaphores 0 (i - length counts))
      ∙ sym (get_or-append_right counts zeros i 0 (omega (arith, e, ltb-false i most_queues f)))))

  pub begun_front : length counts ≡ most_queues → (now : List ℕ) →
      now ≡ counts ++ (replicate most_semaphores 0 ++ drop most_semaphores (drop most_queues old)) →
      now ≡ in_front (begun counts) old
  unfolding in_front
  begun_front e now h =
      h ∙ ap (λ (l : List ℕ). counts ++ (replicate most_semaphores 0 ++ l)) (drop-drop most_semaphores most_queues old)
      ∙ sym (append_assoc counts (replicate most_semaphores 0) (drop state_size old))
      ∙ rw (begun_size, begun_is e) refl

  pub begun_long : length (in_front (begun counts) old) ≡ length old
  begun_long = front_length (begun counts) old (omega (arith, begun_size))

-- ---- the state from here is the whole
module _ (queue rows counts ssem sval sop : List ℕ) where
  abbrev raised : (left k : ℕ) → List ℕ → List ℕ
  raised left k st = raised_from queue rows counts ssem sval sop left k st

  pub record Raising (many : ℕ) (whole : List ℕ) (k : ℕ) (st : List ℕ) : Type 0 where
    pub rest : raised (many - k) k st ≡ whole

  pub raising_none : (many : ℕ) (st now : List ℕ) → now ≡ st → Raising many (raised many 0 st) 0 now
  raising_none many st now e = let z : many - 0 ≡ many = omega arith in record { rest = rw (e, z) }

  pub raising_end : (many k : ℕ) (whole st : List ℕ) → Raising many whole k st → many ≤ k → st ≡ whole
  unfolding raised_from
  raising_end many k whole st w l = let e : many - k ≡ 0 = omega arith in rw e at w.rest

  pub raising_more : (many k : ℕ) (whole st now : List ℕ) → Raising many whole k st → k < many →
      now ≡ raised_by queue rows counts ssem sval sop k st → Raising many whole (k + 1) now
  unfolding raised_from
  raising_more many k whole st now w l f =
      let e : many - k ≡ suc (many - (k + 1)) = omega arith in
      record { rest = rw (f, add-one k) (rw (e, add-one k) at w.rest) }

  pub raised_yes : (k i s v : ℕ) (st now : List ℕ) → i ≡ get_or sop k 0 → s ≡ get_or ssem k 0 % most_semaphores →
      v ≡ get_or sval k 0 →
      ran_at queue rows counts i ≡ true → now ≡ higher st (most_queues + s) v →
      now ≡ raised_by queue rows counts ssem sval sop k st
  unfolding raised_by
  raised_yes k i s v st now i_is s_is v_is t e = rw (← i_is, t, ← s_is, ← v_is) e

  pub raised_no : (k i : ℕ) (st : List ℕ) → i ≡ get_or sop k 0 → ran_at queue rows counts i ≡ false →
      st ≡ raised_by queue rows counts ssem sval sop k st
  unfolding raised_by
  raised_no k i st i_is t = rw (← i_is, t)

  -- ---- each place
  shown_top : (at left k : ℕ) → ℕ
  shown_top at zero k = 0
  shown_top at (suc left) k =
      max (cond (eqb (most_queues + get_or ssem k 0 % most_semaphores) at && ran_at queue rows counts (get_or sop k 0))
      (get_or sval k 0) 0)
      (shown_top at left (suc k))

  higher_long : (st : List ℕ) (at v : ℕ) → length (higher st at v) ≡ length st
  unfolding higher
  higher_long st at v = length-set st at (max (get_or st at 0) v)

  higher_at : (st : List ℕ) (s v at : ℕ) → at < length st →
      get_or (higher st s v) at 0 ≡ max (get_or st at 0) (cond (eqb s at) v 0)
  unfolding higher
  higher_at st s v at l =
      by_cases (eqb s at)
      (λ t. let e = eqb-true s at t in rw (t, e) (get_or-set_same st at (max (get_or st at 0) v) 0 l))
      (λ f. rw f (get_or-set_other st s at (max (get_or st s 0) v) 0 (λ z. eqb-false s at f (sym z)) ∙ omega arith))

  next_long : (b : Bool) (st : List ℕ) (s v : ℕ) → length (cond b (higher st s v) st) ≡ length st
  next_long true st s v = higher_long st s v
  next_long false st s v = refl

  next_at : (b : Bool) (st : List ℕ) (s v at : ℕ) → at < length st →
      get_or (cond b (higher st s v) st) at 0 ≡ max (get_or st at 0) (cond (eqb s at && b) v 0)
  next_at true st s v at l = rw (and-true (eqb s at)) (higher_at st s v at l)
  next_at false st s v at l = rw (and-false (eqb s at)) (omega arith)

  raised_long : (left k : ℕ) (st : List ℕ) → length (raised left k st) ≡ length st
  unfolding raised_from raised_by
  raised_long zero k st = refl
  raised_long (suc left) k st =
      let b = ran_at queue rows counts (get_or sop k 0) in
      let s = most_queues + get_or ssem k 0 % most_semaphores in
      let v = get_or sval k 0 in
      raised_long left (suc k) (cond b (higher st s v) st) ∙ next_long b st s v

  pub raising_long : (many k : ℕ) (old st : List ℕ) → Raising many (raised many 0 old) k st → length st ≡ length old
  raising_long many k old st w = sym (raised_long (many - k) k st) ∙ ap length w.rest ∙ raised_long many 0 old

  raised_at : (left k : ℕ) (st : List ℕ) (at : ℕ) → at < length st →
      get_or (raised left k st) at 0 ≡ max (get_or st at 0) (shown_top at left k)
  unfolding raised_from raised_by shown_top
  raised_at zero k st at l = omega arith
  raised_at (suc left) k st at l =
      let b = ran_at queue rows counts (get_or sop k 0) in
      let s = most_queues + get_or ssem k 0 % most_semaphores in
      let v = get_or sval k 0 in
      raised_at left (suc k) (cond b (higher st s v) st) at (omega (arith, next_long b st s v)) ∙
      omega (arith, next_at b st s v at l)

  -- outside the semaphores' places nothing is raised
  none_there : (at left k : ℕ) → ((s : ℕ) → most_queues + s % most_semaphores ≡ at → ⊥) → shown_top at left k ≡ 0
  unfolding shown_top
  none_there at zero k h = refl
  none_there at (suc left) k h =
      rw (
        ne_eqb (most_queues + get_or ssem k 0 % most_semaphores) at (h (get_or ssem k 0)),
        none_there at left (suc k) h,
      )
      (omega arith)

-- ---- the plan's signals
-- a plan with its signals, and a part of a run of it
pub record TraceSignalsGiven (p : Plan) (n signals : ℕ) (queue source rows ssem sval sop : List ℕ) : Type 0 where
  pub shown : TraceGiven p n queue source rows
  pub few_semaphores : length p.owners ≤ most_semaphores
  pub signals_in : (k : ℕ) → k < length (plan_signals p) →
      ((get_or (plan_signals p) k no_signal).operation < count p) ×
      ((get_or (plan_signals p) k no_signal).semaphore < length p.owners)
  pub signals_shown : SignalColumns p signals ssem sval sop

module _ (p : Plan) (n signals : ℕ) (queue source rows ssem sval sop : List ℕ)
    (x : TraceSignalsGiven p n signals queue source rows ssem sval sop) (r : List ℕ) (a_run : is_run p r ≡ true) where
  abbrev ran : ℕ → Bool
  ran i = member i r

  abbrev counted : List ℕ
  counted = queue_counts p r

  abbrev signal : (k : ℕ) → Signal
  signal k = get_or (plan_signals p) k no_signal

  listed : (k : ℕ) → k < signals → k < length (plan_signals p)
  listed k l = omega (arith, x.signals_shown.all)

  same_place : (a b : ℕ) → eqb (most_queues + a) (most_queues + b) ≡ eqb a b
  same_place a b =
      by_cases (eqb a b)
      (λ t. eq-eqb (most_queues + a) (most_queues + b) (ap (λ (z : ℕ). most_queues + z) (eqb-true a b t)) ∙ sym t)
      (λ f. ne_eqb (most_queues + a) (most_queues + b) (λ z. eqb-false a b f (omega arith)) ∙ sym f)

  semaphore_is : (k : ℕ) → k < signals → get_or ssem k 0 % most_semaphores ≡ (signal k).semaphore
  semaphore_is k l =
      ap (λ (z : ℕ). z % most_semaphores) (x.signals_shown.semaphores k l)
      ∙ mod-eq_of_lt (omega (arith, (x.signals_in k (listed k l)).1, x.few_semaphores))

  ran_shown : (i : ℕ) → i < count p → ran_at queue rows counted i ≡ ran i
  ran_shown i l = ran_right p n queue source rows x.shown r a_run i l

  shown_is : (s left k : ℕ) → left + k ≡ signals →
      shown_top queue rows counted ssem sval sop (most_queues + s) left k ≡ top s ran (drop k (plan_signals p))
  unfolding shown_top top
  shown_is s zero k e =
      let end : k ≡ length (plan_signals p) = omega (arith, x.signals_shown.all) in
      rw (end, drop-length (plan_signals p))
  shown_is s (suc left) k e =
      let l : k < signals = omega arith in
      rw (
        drop-cons (plan_signals p) k no_signal (listed k l),
        semaphore_is k l,
        x.signals_shown.operations k l,
        x.signals_shown.values k l,
        ran_shown (signal k).operation (x.signals_in k (listed k l)).0,
        same_place (signal k).semaphore s,
        shown_is s left (suc k) (omega arith),
      )

  raised_is : (s : ℕ) → shown_top queue rows counted ssem sval sop (most_queues + s) signals 0 ≡ reached p s r
  raised_is s = shown_is s signals 0 (omega arith) ∙ top_reached p s r a_run

  -- ---- the whole state
  module _ (old : List ℕ) (room : state_size ≤ length old) where
    abbrev start : List ℕ
    start = in_front (begun counted) old

    start_long : length start ≡ length old
    start_long = begun_long counted old room

    start_at : (i : ℕ) → i < state_size → get_or start i 0 ≡ get_or counted i 0
    start_at i l = front_at (begun counted) old i 0 (omega (arith, begun_size counted old room)) ∙
        begun_at counted old room i l

    abbrev final : List ℕ
    final = raised_from queue rows counted ssem sval sop signals 0 start

    final_at : (i : ℕ) → i < length old →
        get_or final i 0 ≡ max (get_or start i 0) (shown_top queue rows counted ssem sval sop i signals 0)
    final_at i l = raised_at queue rows counted ssem sval sop signals 0 start i (omega (arith, start_long))

    abbrev new : List ℕ
    new = in_front (state_of p r) old

    at_queue : (i : ℕ) → i < most_queues → get_or final i 0 ≡ get_or new i 0
    at_queue i l =
        final_at i (omega arith)
        ∙ rw (
          start_at i (omega arith),
          none_there queue rows counted ssem sval sop i signals 0 (λ s z. omega arith),
          counts_at p r i l,
          front_at (state_of p r) old i 0 (omega (arith, state_long p r)),
          state_count p r i l,
        ) (omega arith)

    at_semaphore : (s : ℕ) → s < most_semaphores → get_or final (most_queues + s) 0 ≡ get_or new (most_queues + s) 0
    at_semaphore s l =
        final_at (most_queues + s) (omega arith)
        ∙ rw (
          start_at (most_queues + s) (omega arith),
          get_or-eq_default counted 0 {n = most_queues + s} (omega (arith, counts_long p r)),
          raised_is s,
          front_at (state_of p r) old (most_queues + s) 0 (omega (arith, state_long p r)),
          state_highest p r s l,
        ) (omega arith)

    at_past : (i : ℕ) → state_size ≤ i → i < length old → get_or final i 0 ≡ get_or new i 0
    at_past i a l =
        final_at i l
        ∙ rw (
          front_past (begun counted) old i 0 (omega (arith, begun_size counted old room)),
          none_there queue rows counted ssem sval sop i signals 0
              (λ s z. omega (arith, mod-lt s {m = most_semaphores} (omega arith))),
          front_past (state_of p r) old i 0 (omega (arith, state_long p r)),
        ) (omega arith)

    pub state_right : raised_from queue rows counted ssem sval sop signals 0 (in_front (begun counted) old) ≡ in_front
        (state_of p r) old
    state_right =
        let long : length final ≡ length old = raised_long queue rows counted ssem sval sop signals 0 start ∙
        start_long in
        ext_get_or 0 final new (long ∙ sym (front_length (state_of p r) old (omega (arith, state_long p r)))) (λ i l.
        by_cases (ltb i most_queues) (λ t. at_queue i (ltb-true i most_queues t))
        (λ f. let low : most_queues ≤ i = ltb-false i most_queues f in
        by_cases (ltb i state_size)
        (λ t. let up : i < state_size = ltb-true i state_size t in
        let e : most_queues + (i - most_queues) ≡ i = omega arith in
        subst (λ (z : ℕ). get_or final z 0 ≡ get_or new z 0) e (at_semaphore (i - most_queues) (omega arith)))
        (λ g. at_past i (ltb-false i state_size g) (omega arith))))
