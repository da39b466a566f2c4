-- The pass whatever the columns show: what runs is an operation below n, none runs twice, and nothing else is written.
-- Assumes nothing.
use mathlib.Core.Path.{◌≡◌, refl, sym, ap, ◌∙◌, subst}
use mathlib.Core.Bool.{true, ◌&&◌, not}
use mathlib.Core.List.{List}
use Prim.Native.Nat.{ℕ, suc, ◌+◌, ◌-◌, ◌*◌, ◌^◌, ◌≤◌, ◌<◌}
use native.Mathlib.Nat.{not-suc-le-zero}
use native.Mathlib.Omega.{arith}
use lib.Count.{ones, ones-le}
use lib.Dec.{eqb}
use lib.ListN.{length, get_or, set, drop, replicate, length-set}
use lib.Seq.{get_or-set_same, get_or-set_other}
use Rattle.base_lists.proofs.Fronts.{past_later}
use borrow.Author.Tests.{eqb-true, eqb-false}
use Rattle.base_lists.proofs.Tests.{by_cases, clash, and_left, and_right, or_cases, either}
use Rattle.base_lists.proofs.Ranks.{rank_under}
use Rattle.plan_format.specs.Sizes.{most_queues, most_operations, no_operation}
use Rattle.check_run.specs.Words.{has, LowestBit, all_queues}
use Rattle.check_run.specs.Queues.{FirstFrom, found, absent, can_go, HeadsLooked}
use Rattle.check_run.specs.Merge.{cell}
use Rattle.check_run.specs.Run.{Bounded}
use Rattle.check_run.specs.State.{Tables, Prepared, slot_of, Stepped, Ahead, Bounds}
use Rattle.check_run.proofs.Words.{has_none, has_minus, ones_bits}
use Rattle.check_run.proofs.Listings.{step_long, step_at, number_at, step_other, step_past}
use Rattle.check_run.proofs.Merges.{merged_past}
use Rattle.check_run.proofs.Watches.{go_gives}

-- what is next on a queue, if anything is
first_gives :
    (queue : List ℕ) (q start n x : ℕ) → FirstFrom queue q start n x → x < no_operation → (start ≤ x) × (x < n)
    × (get_or queue x 0 ≡ q)
first_gives queue q start n x (found _ a b e h) l = (a, b, e)
first_gives queue q start n x (absent h) l = absurd (omega arith)

-- a queue that a look makes ready has a next operation
looked_ready :
    (mask ready : ℕ) (head source ran waiter : List ℕ) (ready' : ℕ) (waiter' : List ℕ) →
    HeadsLooked mask ready head source ran waiter ready' waiter' →
    (q : ℕ) → q < most_queues → (has ready q ≡ true → get_or head q 0 < no_operation) → has ready' q ≡ true →
    get_or head q 0 < no_operation
looked_ready mask ready head source ran waiter ready' waiter' looked q l old t =
    either (or_cases (has ready q) (has mask q && can_go head source ran q) (sym (looked.readies q l) ∙ t))
    (λ a. old a) (λ b. (go_gives head source ran q (and_right (has mask q) (can_go head source ran q) b)).0)

-- nothing done
pub bounded_none : (n : ℕ) (rows list : List ℕ) → Bounded n 0 rows rows list list
bounded_none n rows list = record {
  few = omega arith;
  steps = λ k l _. absurd (not-suc-le-zero l);
  once = λ i k _ l _ _. not-suc-le-zero l;
  readies = λ k l _. absurd (not-suc-le-zero l);
  between = λ k _ _. refl;
  past = refl;
  long = refl;
  unlaid = λ _ j q _ _. refl;
  rows_past = refl;
  rows_long = refl;
  over = λ _. (refl, refl, refl);
}

-- before the first step
pub bounds_none :
    (queue : List ℕ) (n : ℕ) (source head next ran waiter : List ℕ) (ready : ℕ) (rows list : List ℕ) →
    Prepared queue n source head next ran waiter ready → Bounds queue n 0 head ready rows rows list list
bounds_none queue n source head next ran waiter ready rows list prepared = record {
  ahead = λ q l. record {
    start = 0;
    first = prepared.chained.heads q l;
    before = λ k b _ _. absurd (not-suc-le-zero b);
  };
  readies = λ q l t. looked_ready all_queues 0 head source ran (replicate (no_operation + 1) 0) ready waiter
      prepared.looked q l
      (λ z. clash (has 0 q) z (has_none q)) t;
  head_long = prepared.chained.head_long;
  bounded = bounded_none n rows list;
}

-- one step more
module _ (queue : List ℕ) (n : ℕ) (next unit : List ℕ) (tables : Tables queue n next unit) (fits : n ≤ most_operations)
    (i ready : ℕ) (head rows₀ rows first list : List ℕ) (bounds : Bounds queue n i head ready rows₀ rows first list)
    (small : ready < 65536) (inside : i < n)
    (q j : ℕ) (on : q < most_queues) (low : LowestBit ready q) (j_is : j ≡ slot_of (get_or head q 0))
    (list₁ list₂ : List ℕ) (first_is : list₁ ≡ set list (i + n) (ones ready))
    (then_is : list₂ ≡ set list₁ i j)
    (source prev ran head' prev' ran' rows' : List ℕ)
    (stepped : Stepped j q source next unit head prev ran rows head' prev' ran' rows')
    (mask bit : ℕ) (bit_is : bit ≡ 2 ^ q) (waiter : List ℕ) (ready' : ℕ) (waiter' : List ℕ)
    (looked : HeadsLooked mask (ready - bit) head' source ran' waiter ready' waiter') where
  old : Bounded n i rows₀ rows first list
  old = bounds.bounded

  -- ---- the operation
  here : Ahead queue n q i list (get_or head q 0)
  here = bounds.ahead q on

  is_head : get_or head q 0 ≡ j
  is_head = omega (arith, bounds.readies q on low.there)

  few : j < no_operation
  few = omega (arith, bounds.readies q on low.there)

  is_first : (here.start ≤ j) × (j < n) × (get_or queue j 0 ≡ q)
  is_first =
      first_gives queue q here.start n j
      (subst (λ (x : ℕ). FirstFrom queue q here.start n x) is_head here.first) few

  -- ---- the heads afterwards
  next_first : FirstFrom queue q (suc j) n (get_or next j 0)
  next_first =
      subst (λ (x : ℕ). FirstFrom queue x (suc j) n (get_or next j 0)) is_first.2
      (tables.nexts j is_first.1 (omega (arith, is_first.2)))

  head_same : get_or head' q 0 ≡ get_or next j 0
  head_same =
      ap (λ (x : List ℕ). get_or x q 0) stepped.head_is
      ∙ get_or-set_same head q (get_or next j 0) 0 (let h : q < length head =
      omega (arith, bounds.head_long) in h)

  head_other : (k : ℕ) → (k ≡ q → ⊥) → get_or head' k 0 ≡ get_or head k 0
  head_other k ne = ap (λ (x : List ℕ). get_or x k 0) stepped.head_is
      ∙ get_or-set_other head q k (get_or next j 0) 0 ne

  -- ---- the list afterwards
  ones_small : ones ready ≤ most_queues
  ones_small = ones-le most_queues ready small

  counted : ones ready < 65536
  counted = omega (arith, ones_small)

  list_long : length list₂ ≡ length list
  list_long = step_long n list list₁ list₂ i j (ones ready) inside few counted first_is then_is

  entry_now : i < length list → get_or list₂ i 0 ≡ j
  entry_now = step_at n list list₁ list₂ i j (ones ready) inside few counted first_is then_is

  stays : (k : ℕ) → (k ≡ i → ⊥) → (k ≡ n + i → ⊥) → get_or list₂ k 0 ≡ get_or list k 0
  stays = step_other n list list₁ list₂ i j (ones ready) inside few counted first_is then_is

  entry_old : (k : ℕ) → k < i → get_or list₂ k 0 ≡ get_or list k 0
  entry_old k l = stays k (λ z. omega arith) (λ z. omega arith)

  -- an entry that is there: the new one, or an old one
  by_entry :
      (P : ℕ → Type 0) (k : ℕ) → k < i + 1 → k < length list₂ → (k ≡ i → P j) →
      (k < i → k < length list → P (get_or list k 0)) → P (get_or list₂ k 0)
  by_entry P k l b last earlier =
      by_cases (eqb k i)
      (λ t. let e = eqb-true k i t in
      subst P (sym (ap (λ (x : ℕ). get_or list₂ x 0) e ∙ entry_now (omega (arith, list_long)))) (last e))
      (λ f. let u : k < i = omega (arith, eqb-false k i f) in
      subst P (sym (entry_old k u)) (earlier u (omega (arith, list_long))))

  ahead_same : Ahead queue n q (i + 1) list₂ (get_or head' q 0)
  ahead_same = record {
    start = suc j;
    first = subst (λ (x : ℕ). FirstFrom queue q (suc j) n x) (sym head_same) next_first;
    before = λ k l b. by_entry (λ x. get_or queue x 0 ≡ q → x < suc j) k l b (λ _ _. omega arith)
        (λ u v e. omega (arith, here.before k u v e, is_first.0));
  }

  ahead_other : (k : ℕ) → k < most_queues → (k ≡ q → ⊥) → Ahead queue n k (i + 1) list₂ (get_or head' k 0)
  ahead_other k l ne =
      let a = bounds.ahead k l in
      record {
        start = a.start;
        first = subst (λ (x : ℕ). FirstFrom queue k a.start n x) (sym (head_other k ne)) a.first;
        before = λ m u b. by_entry (λ x. get_or queue x 0 ≡ k → x < a.start) m u b
            (λ _ e. absurd (ne (sym e ∙ is_first.2))) (λ v w e. a.before m v w e);
      }

  -- ---- the ready queues afterwards
  still_ready : (k : ℕ) → k < most_queues → has (ready - bit) k ≡ true → get_or head' k 0 < no_operation
  still_ready k l t =
      let bits : (not (eqb q k) && has ready k) ≡ true = sym (ap (λ (x : ℕ). has (ready - x) k) bit_is
      ∙ has_minus ready q k low.there) ∙ t in
      by_cases (eqb q k)
      (λ s. absurd (let z : ◌≡◌ {A = ℕ} 0 1 = cc (and_left (not (eqb q k)) (has ready k) bits, s) in omega arith))
      (λ f. rw (head_other k (λ z. eqb-false q k f (sym z)))
      (bounds.readies k l (and_right (not (eqb q k)) (has ready k) bits)))

  some_ready : 1 ≤ ones ready
  some_ready = omega (
    arith,
    ones_bits most_queues ready small,
    rank_under q most_queues (λ k. has ready k) on
        low.there,
  )

  bounded_more : Bounded n (i + 1) rows₀ rows' first list₂
  unfolding cell
  bounded_more =
      let merged = stepped.rows_are in
      record {
        few = omega arith;
        steps = λ k l b. by_entry (λ x. x < n) k l (omega (arith, list_long, old.long)) (λ _. is_first.1)
            (λ u v. old.steps k u b);
        once = λ m k below l b.
            let early : m < i = omega arith in
            by_entry (λ x. get_or list₂ m 0 ≡ x → ⊥) k l (omega (arith, list_long, old.long))
            (λ _ e. let was : get_or list m 0 ≡ j = sym (entry_old m early) ∙ e in
            omega (
              arith,
              is_first.0,
              here.before m early (omega (arith, old.long))
                  (ap (λ (x : ℕ). get_or queue x 0) was ∙ is_first.2),
            ))
            (λ u v e. old.once m k below u b (sym (entry_old m early) ∙ e));
        readies = λ k l b. by_cases (eqb k i)
            (λ t. let e = eqb-true k i t in
            let is : get_or list₂ (n + k) 0 ≡ ones ready =
            ap (λ (x : ℕ). get_or list₂ (n + x) 0) e
            ∙ number_at n list list₁ list₂ i j (ones ready) inside few counted first_is then_is
            (omega (arith, old.long)) in
            rw is (some_ready, ones_small))
            (λ f. rw (stays (n + k) (λ z. omega arith) (λ z. eqb-false k i f (let e : k ≡ i = omega arith in e)))
            (old.readies k (omega (arith, eqb-false k i f)) b));
        between = λ k l b. stays k (λ z. omega arith) (λ z. omega arith) ∙ old.between k (omega arith) b;
        past = step_past n list list₁ list₂ i j (ones ready) inside few counted first_is then_is (n + (i + 1))
            (omega arith)
            ∙ past_later (n + i) (n + (i + 1)) list first (omega arith) old.past;
        long = list_long ∙ old.long;
        unlaid = λ enough x c l none. merged.elsewhere x c l
            (λ e. none i (omega arith) (entry_now (omega (arith, old.long)) ∙ sym e))
            ∙ old.unlaid (omega arith) x c l (λ k u e. none k (omega arith) (entry_old k u ∙ e));
        rows_past = merged_past _ _ _ _ _ _ _ _ _ n is_first.1 merged ∙ old.rows_past;
        rows_long = merged.long ∙ old.rows_long;
        over = λ l. absurd (omega arith);
      }

  pub bounds_more : Bounds queue n (i + 1) head' ready' rows₀ rows' first list₂
  bounds_more = record {
    ahead = λ k l. by_cases (eqb k q) (λ t. subst (λ (x : ℕ). Ahead queue n x (i + 1) list₂ (get_or head' x 0))
        (sym (eqb-true k q t)) ahead_same)
        (λ f. ahead_other k l (eqb-false k q f));
    readies = λ k l t. looked_ready mask (ready - bit) head' source ran' waiter ready' waiter' looked k l
        (still_ready k l) t;
    head_long = ap length stepped.head_is ∙ length-set head q (get_or next j 0) ∙ bounds.head_long;
    bounded = bounded_more;
  }

-- ---- what the bounds give
-- nothing past 2 n
pub run_past : {n answer : ℕ} {rows rows_now list list_now : List ℕ} → Bounded n answer rows rows_now list list_now →
    drop (2 * n) list_now ≡ drop (2 * n) list
run_past {n} {answer} {list = list} {list_now} bounded =
    past_later (n + answer) (2 * n) list_now list (omega (arith, bounded.few)) bounded.past
