-- The walks of eviction over slots: how many exceed an entry, the bound of a capacity, and the move of what exceeds it.
-- Assumes nothing.
use mathlib.Core.Path.{◌≡◌, refl, sym, ap, ◌∙◌}
use mathlib.Core.Bool.{Bool, true, false, cond}
use mir.Val.{bool_byte}
use mathlib.Core.Logic.{inl, inr}
use mathlib.Core.List.{List, ◌∷◌, ◌++◌, append_assoc, append-nil}
use Prim.Native.Nat.{ℕ, zero, suc, ◌+◌, ◌-◌, ◌≤◌, ◌<◌, zero-le}
use native.Mathlib.Omega.{arith}
use lib.Dec.{eqb}
use borrow.Author.Tests.{eqb-true, eqb-false}
use lib.ListN.{get_or, set, length-set}
use Rattle.base_lists.specs.Lists.{tabulate_from}
use Rattle.base_lists.proofs.Tests.{by_cases, clash, is_false, either}
use Rattle.base_lists.specs.Lists.{filter}
use Rattle.frontier_slots.specs.declared.Entry.{Entry}
use Rattle.frontier_slots.specs.Entries.{most_of_two, rising_from, exceeds, exceeding, cut}
use Rattle.frontier_slots.specs.Slots.{slot, slots, rest}
use Rattle.frontier.specs.Walks.{AllRoom}
use Rattle.frontier.proofs.Sorted.{sorted}
use Rattle.frontier.proofs.Exceeds.{exceeds_chain, exceeds_not_itself, exceeds_not_top}
use Rattle.frontier.proofs.Cut.{In, exceeding_lt, least_count}
use Rattle.frontier_slots.proofs.Slots.{rest_all, rest_more, rest_none}
use Rattle.frontier.proofs.Slots.{slots_length, slots_put, slots_before}
use Rattle.frontier.proofs.Slots.{rest_past}
use Rattle.frontier.proofs.Evict.{exceeding_over, exceeding_none, bound_start, cut_at, cut_by_bound}

-- THE MOVE: what is kept so far, in front, and what is kept of the rest, is all that was kept of what was there
pub record Trim (f : Entry → Bool) (axes₀ epochs₀ axes epochs : List ℕ) (len n i : ℕ) : Type 0 where
  pub room : AllRoom axes epochs
  pub short : len ≤ most_of_two
  pub inside : i ≤ len
  pub front : n ≤ i
  pub whole : slots axes epochs n 0 ++ filter f (rest axes epochs len i) ≡ filter f (slots axes₀ epochs₀ len 0)

module _ (f : Entry → Bool) (axes₀ epochs₀ axes epochs : List ℕ) (len : ℕ) where
  pub trim_none : axes ≡ axes₀ → epochs ≡ epochs₀ → AllRoom axes epochs → len ≤ most_of_two →
      Trim f axes₀ epochs₀ axes epochs len 0 0
  unfolding slots tabulate_from
  trim_none p q r l = record {
    room = r;
    short = l;
    inside = zero-le;
    front = zero-le;
    whole = rw (← p, ← q) (ap (filter f) (rest_all axes epochs len));
  }

  -- the entry in slot i is stored in slot n, and counted if it is kept
  pub trim_more : (n i m : ℕ) (kept : Bool) → Trim f axes₀ epochs₀ axes epochs len n i → i < len →
      kept ≡ f (slot axes epochs i) → m ≡ cond kept (n + 1) n →
      Trim f axes₀ epochs₀ (set axes n (get_or axes i 0)) (set epochs n (get_or epochs i 0)) len m (i + 1)
  unfolding slot
  trim_more n i m kept w h k g =
      let a = get_or axes i 0 in
      let e = get_or epochs i 0 in
      let next = rw (rest_more axes epochs len i h) at w.whole in
      record {
        room = (length-set axes n a ∙ w.room.0, length-set epochs n e ∙ w.room.1);
        short = w.short;
        inside = omega arith;
        front = by_cases kept (λ t. omega (arith, rw t at g, w.front)) (λ t. omega (arith, rw t at g, w.front));
        whole = rw (rest_past axes epochs len n (i + 1) a e (omega (arith, w.front)))
            (by_cases kept (λ t. yes t (next)) (λ t. no t (next)));
      }
    where
      yes : kept ≡ true →
          slots axes epochs n 0 ++ filter f (slot axes epochs i ∷ rest axes epochs len (i + 1)) ≡
          filter f (slots axes₀ epochs₀ len 0) →
          slots (set axes n (get_or axes i 0)) (set epochs n (get_or epochs i 0)) m 0
          ++ filter f (rest axes epochs len (i + 1)) ≡ filter f (slots axes₀ epochs₀ len 0)
      yes t q = unfold filter slot in (rw (
        rw t at g,
        slots_put axes epochs n (get_or axes i 0) (get_or epochs i 0)
            (omega (arith, w.front, w.short, w.room.0)) (omega (arith, w.front, w.short, w.room.1)),
        append_assoc,
      ) (rw (sym k ∙ t) at q))

      no : kept ≡ false →
          slots axes epochs n 0 ++ filter f (slot axes epochs i ∷ rest axes epochs len (i + 1)) ≡
          filter f (slots axes₀ epochs₀ len 0) →
          slots (set axes n (get_or axes i 0)) (set epochs n (get_or epochs i 0)) m 0
          ++ filter f (rest axes epochs len (i + 1)) ≡ filter f (slots axes₀ epochs₀ len 0)
      no t q = unfold filter slot in (rw (
        rw t at g,
        slots_before axes epochs n (get_or axes i 0) (get_or epochs i 0),
      ) (rw (sym k ∙ t) at q))

  pub trim_end : (n i : ℕ) → Trim f axes₀ epochs₀ axes epochs len n i → len ≤ i →
      AllRoom axes epochs × (slots axes epochs n 0 ≡ filter f (slots axes₀ epochs₀ len 0))
  unfolding filter
  trim_end n i w h =
      (w.room, sym (append-nil (slots axes epochs n 0)) ∙ (rw (rest_none axes epochs len i h) at w.whole))

-- HOW MANY EXCEED: those counted, and those of the rest
module _ (xs es : List ℕ) (n : ℕ) (b : Entry) where
  pub count_none : 0 + exceeding b (rest xs es n 0) ≡ exceeding b (slots xs es n 0)
  count_none = omega (arith, ap (exceeding b) (rest_all xs es n))

  pub count_more : (m i : ℕ) → i < n → exceeds (slot xs es i) b ≡ true →
      m + exceeding b (rest xs es n i) ≡ exceeding b (slots xs es n 0) →
      m + 1 + exceeding b (rest xs es n (i + 1)) ≡ exceeding b (slots xs es n 0)
  unfolding exceeding
  count_more m i h e w = let w' = rw (rest_more xs es n i h, e) at w in omega arith

  pub count_skip : (m i : ℕ) → i < n → exceeds (slot xs es i) b ≡ false →
      m + exceeding b (rest xs es n i) ≡ exceeding b (slots xs es n 0) →
      m + exceeding b (rest xs es n (i + 1)) ≡ exceeding b (slots xs es n 0)
  unfolding exceeding
  count_skip m i h e w = let w' = rw (rest_more xs es n i h, e) at w in omega arith

  pub count_turn : (m i : ℕ) (more : Bool) → i < n → more ≡ exceeds (slot xs es i) b →
      m + exceeding b (rest xs es n i) ≡ exceeding b (slots xs es n 0) →
      m + bool_byte more + exceeding b (rest xs es n (i + 1)) ≡ exceeding b (slots xs es n 0)
  count_turn m i more h k w =
      by_cases more (λ t. rw t (count_more m i h (sym k ∙ t) w))
      (λ t. rw t (omega (arith, count_skip m i h (sym k ∙ t) w)))

  pub count_end : (m i : ℕ) → n ≤ i → m + exceeding b (rest xs es n i) ≡ exceeding b (slots xs es n 0) →
      m ≡ exceeding b (slots xs es n 0)
  unfolding exceeding
  count_end m i h w = let w' = rw (rest_none xs es n i h) at w in omega arith

-- THE BOUND: no fewer than the capacity exceed the greatest that is lost, fewer the least that is kept, and fewer each
-- slot before i that is above the lost one
pub record CutBound (lost kept : Entry) (xs es : List ℕ) (n c i : ℕ) : Type 0 where
  pub many : c ≤ exceeding lost (slots xs es n 0)
  pub few : exceeding kept (slots xs es n 0) < c
  pub seen : (k : ℕ) → k < i → exceeds (slot xs es k) lost ≡ true → exceeding (slot xs es k) (slots xs es n 0) < c

in_table : (y : Entry) (n i : ℕ) (f : ℕ → Entry) → In y (tabulate_from n i f) → (k : ℕ) × (k < i + n) × (y ≡ f k)
unfolding tabulate_from
in_table y zero i f m = absurd m
in_table y (suc n) i f m =
    either m (λ e. (i, omega arith, e)) (λ j. let w = in_table y n (suc i) f j in (w.0, omega (arith, w.1), w.2))

table_in : (n i k : ℕ) (f : ℕ → Entry) → i ≤ k → k < i + n → In (f k) (tabulate_from n i f)
unfolding tabulate_from
table_in zero i k f l h = absurd (omega arith)
table_in (suc n) i k f l h =
    by_cases (eqb k i) (λ t. inl (ap f (eqb-true k i t)))
    (λ t. inr (table_in n (suc i) k f (omega (arith, eqb-false k i t)) (omega arith)))

in_slots : (xs es : List ℕ) (n : ℕ) (y : Entry) → In y (slots xs es n 0) → (k : ℕ) × (k < n) × (y ≡ slot xs es k)
unfolding slots
in_slots xs es n y j = let w = in_table y n 0 (slot xs es) j in (w.0, omega (arith, w.1), w.2)

slots_in : (xs es : List ℕ) (n k : ℕ) → k < n → In (slot xs es k) (slots xs es n 0)
unfolding slots
slots_in xs es n k h = table_in n 0 k (slot xs es) zero-le (omega arith)

-- THE LEAST: a slot before i that exceeds none before i
pub record LeastBefore (best : Entry) (xs es : List ℕ) (i : ℕ) : Type 0 where
  pub found : (k : ℕ) × (k < i) × (best ≡ slot xs es k)
  pub under : (k : ℕ) → k < i → exceeds best (slot xs es k) ≡ false

module _ (xs es : List ℕ) where
  pub least_first : LeastBefore (slot xs es 0) xs es 1
  least_first = record {
    found = (0, omega arith, refl);
    under = λ k h. rw (let z : k ≡ 0 = omega arith in z) (exceeds_not_itself (slot xs es 0));
  }

  pub least_more : (best next : Entry) (i : ℕ) → LeastBefore best xs es i →
      next ≡ cond (exceeds best (slot xs es i)) (slot xs es i) best → LeastBefore next xs es (i + 1)
  least_more best next i w e =
      by_cases (exceeds best (slot xs es i))
      (λ t. let q : next ≡ slot xs es i = rw t at e in
      rw q (record {
        found = (i, omega arith, refl);
        under = λ k h. by_cases (eqb k i) (λ u. rw (eqb-true k i u) (exceeds_not_itself (slot xs es i)))
            (λ u. is_false (exceeds (slot xs es i) (slot xs es k)) (λ v.
            clash (exceeds best (slot xs es k)) (exceeds_chain best (slot xs es i) (slot xs es k) t v)
            (w.under k (omega (arith, eqb-false k i u)))));
      }))
      (λ t. let q : next ≡ best = rw t at e in
      rw q (record {
        found = (w.found.0, omega (arith, w.found.1), w.found.2);
        under = λ k h. by_cases (eqb k i) (λ u. rw (eqb-true k i u) t)
            (λ u. w.under k (omega (arith, eqb-false k i u)));
      }))

  pub least_end : (best : Entry) (i n : ℕ) → LeastBefore best xs es i → i ≤ n → n ≤ i →
      rising_from 0 (slots xs es n 0) ≡ true → exceeding best (slots xs es n 0) + 1 ≡ n
  least_end best i n w h l r =
      let j : In best (slots xs es n 0) =
      rw w.found.2 (slots_in xs es n w.found.0 (omega (arith, w.found.1))) in
      omega (
        arith,
        slots_length xs es n 0,
        exceeding_lt best (slots xs es n 0) j,
        least_count best 0 (slots xs es n 0) (sorted 0 (slots xs es n 0) r) j
            (λ y m. let k = in_slots xs es n y m in rw k.2 (w.under k.0 (omega (arith, k.1)))),
      )

module _ (xs es : List ℕ) (n c : ℕ) where
  pub bounded_none : (top : Entry) → rising_from 0 (slots xs es n 0) ≡ true → c < n → 1 ≤ c →
      ((k : ℕ) → get_or xs k 0 ≤ top.axis) → ((k : ℕ) → get_or es k 0 ≤ top.epoch) →
      CutBound (record { axis = 0; epoch = 0 }) top xs es n c 0
  bounded_none top r h l p q = record {
    many = omega (arith, bound_start 0 (slots xs es n 0) (sorted 0 (slots xs es n 0) r), slots_length xs es n 0);
    few =
        omega (
          arith,
          exceeding_none top (slots xs es n 0) (λ y j. let w = in_slots xs es n y j in rw w.2 (low w.0)),
        );
    seen = λ k m. absurd (omega arith);
  }
    where
      low : (k : ℕ) → exceeds (slot xs es k) top ≡ false
      low k = exceeds_not_top (slot xs es k) top (unfold slot in (p k)) (unfold slot in (q k))

  -- one slot more is seen
  seen_more : (lost : Entry) (i : ℕ) →
      ((k : ℕ) → k < i → exceeds (slot xs es k) lost ≡ true → exceeding (slot xs es k) (slots xs es n 0) < c) →
      (exceeds (slot xs es i) lost ≡ true → exceeding (slot xs es i) (slots xs es n 0) < c) → (k : ℕ) → k < i + 1 →
      exceeds (slot xs es k) lost ≡ true → exceeding (slot xs es k) (slots xs es n 0) < c
  seen_more lost i s h k l =
      by_cases (eqb k i) (λ t. rw (eqb-true k i t) h) (λ t. s k (omega (arith, eqb-false k i t)))

  pub bounded_lost : (lost kept : Entry) (i : ℕ) → CutBound lost kept xs es n c i →
      exceeds (slot xs es i) lost ≡ false → CutBound lost kept xs es n c (i + 1)
  bounded_lost lost kept i w e = record {
    many = w.many;
    few = w.few;
    seen = seen_more lost i w.seen (λ t. clash (exceeds (slot xs es i) lost) t e);
  }

  pub bounded_kept : (lost kept : Entry) (i : ℕ) → CutBound lost kept xs es n c i →
      exceeds kept (slot xs es i) ≡ false → CutBound lost kept xs es n c (i + 1)
  bounded_kept lost kept i w e = record {
    many = w.many;
    few = w.few;
    seen = seen_more lost i w.seen
        (λ t. omega (arith, w.few, exceeding_over (slot xs es i) kept (slots xs es n 0) e));
  }

  pub bounded_low : (lost kept : Entry) (i m : ℕ) → CutBound lost kept xs es n c i →
      m ≡ exceeding (slot xs es i) (slots xs es n 0) → m < c → CutBound lost (slot xs es i) xs es n c (i + 1)
  bounded_low lost kept i m w e h = record {
    many = w.many;
    few = omega arith;
    seen = seen_more lost i w.seen (λ t. omega arith);
  }

  pub bounded_high : (lost kept : Entry) (i m : ℕ) → CutBound lost kept xs es n c i →
      exceeds (slot xs es i) lost ≡ true → m ≡ exceeding (slot xs es i) (slots xs es n 0) → c ≤ m →
      CutBound (slot xs es i) kept xs es n c (i + 1)
  bounded_high lost kept i m w u e h = record {
    many = omega arith;
    few = w.few;
    seen = seen_more (slot xs es i) i (λ k l t. w.seen k l (exceeds_chain (slot xs es k) (slot xs es i) lost t u))
        (λ t. clash (exceeds (slot xs es i) (slot xs es i)) t (exceeds_not_itself (slot xs es i)));
  }

  pub bounded_end : (lost kept : Entry) (i : ℕ) → CutBound lost kept xs es n c i → n ≤ i →
      cut c (slots xs es n 0) ≡ filter (λ x. exceeds x lost) (slots xs es n 0)
  bounded_end lost kept i w h =
      cut_at lost c (slots xs es n 0) w.many
      (λ x j. let k = in_slots xs es n x j in rw k.2 (w.seen k.0 (omega (arith, k.1))))

  -- where one is cut, the least is the bound
  pub bounded_one : (b : Entry) → exceeding b (slots xs es n 0) + 1 ≡ n → n - 1 ≡ c →
      cut c (slots xs es n 0) ≡ filter (λ x. exceeds x b) (slots xs es n 0)
  bounded_one b e h = cut_by_bound b c (slots xs es n 0) (omega arith)
