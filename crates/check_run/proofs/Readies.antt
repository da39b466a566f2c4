-- The ready word after a run: its bits are the ready queues, its lowest bit the queue that goes next, its ones the
-- number ready. Assumes nothing.
use mathlib.Core.Path.{◌≡◌, sym, ap, ◌∙◌, subst}
use mathlib.Core.Bool.{Bool, true, false, ◌&&◌, cond}
use mathlib.Core.List.{List}
use mathlib.Core.Option.{Option, none, some}
use Prim.Native.Nat.{ℕ, ◌+◌, ◌*◌, ◌<◌, zero-le}
use native.Mathlib.Omega.{arith}
use lib.Count.{ones}
use lib.Dec.{ltb, eqb}
use lib.ListN.{get_or}
use borrow.Author.Tests.{ltb-true, ltb-false, eqb-true, eqb-false, eq-eqb}
use Rattle.base_lists.specs.Lists.{member, tally, is_some}
use Rattle.base_lists.proofs.Tests.{by_cases, by_option, clash, is_false, and_left, and_right, and_both}
use Rattle.base_lists.proofs.Tallies.{tally_same, tally_further, tally_ends}
use Rattle.base_lists.proofs.Searches.{first_some, first_is, lowest_some, lowest_is, some_is, none_is}
use Rattle.order.proofs.Runs.{can_below, can_fresh, can_enabled, can_by, run_below}
use Rattle.plan_format.specs.Sizes.{no_operation}
use Rattle.plan_format.specs.Plan.{Plan, count, op, queues}
use Rattle.plan_order.specs.Runs.{enabled, ready, is_run, ready_on, next, number_ready}
use Rattle.plan_order.proofs.Demand3.{waits_good}
use Rattle.plan_order.proofs.Readiness.{Why, by_queue, by_wait, direct_why, direct_by, direct_below, enabled_gives}
use Rattle.plan_order.proofs.Readiness.{predecessors_run, predecessors_suffice}
use Rattle.check_run.specs.Words.{has, LowestBit}
use Rattle.check_run.specs.Queues.{blocker_of, can_go}
use Rattle.check_run.specs.Run.{RunGiven}
use Rattle.check_run.specs.State.{Head, waiting, finished, RunPlaces}
use Rattle.check_run.proofs.Words.{ones_bits}
use Rattle.check_run.proofs.Sources.{Rest, on_nothing, on_operation, source_is, source_has, blocker_none}
use Rattle.check_run.proofs.Sources.{no_blocker_gives}
use Rattle.check_run.proofs.Watches.{go_gives, go_by}

module _ (p : Plan) (n : ℕ) (queue source : List ℕ) (shown : RunGiven p n queue source) (r head prev ran : List ℕ)
    (places : RunPlaces p r head prev ran) where
  pub run_inside : (i : ℕ) → member i r ≡ true → i < count p
  unfolding is_run
  run_inside i m = run_below (count p) (enabled p) r places.a_run i m

  ran_one : (i : ℕ) → member i r ≡ true → get_or ran i 0 ≡ 0 → ⊥
  ran_one i m z =
      let e : get_or ran i 0 ≡ 1 = places.has_run i (omega (arith, run_inside i m, shown.sound.few_operations))
      ∙ ap (λ (b : Bool). cond b 1 0) m in omega arith

  ran_member : (i : ℕ) → i < count p → (get_or ran i 0 ≡ 0 → ⊥) → member i r ≡ true
  ran_member i l ne =
      by_cases (member i r) (λ t. t)
      (λ f.
      absurd (ne (places.has_run i (omega (arith, shown.sound.few_operations)) ∙ ap (λ (b : Bool). cond b 1 0) f)))

  sentinel : get_or ran no_operation 0 ≡ 0 → ⊥
  sentinel z = omega (arith, places.none_run)

  -- ---- nothing holds an operation exactly if all that is directly before it has run
  enabled_unblocked : (j : ℕ) → j < count p → enabled p r j ≡ true → blocker_of source ran j ≡ no_operation
  enabled_unblocked j l e =
      blocker_none source ran j
      (λ k b z. at_rest (get_or source (3 * j + k) 0) (source_is p n queue source shown j k l b) z)
    where
      at_rest : (x : ℕ) → Rest p j x → get_or ran x 0 ≡ 0 → ⊥
      at_rest x on_nothing z = sentinel z
      at_rest x (on_operation _ u w m t) z =
          ran_one x (predecessors_run p r x j (unfold is_run in places.a_run) e
          (direct_by p x j u l (by_wait w m t))) z

  unblocked_enabled : (j : ℕ) → j < count p → ((k : ℕ) → k < j → (op p k).queue ≡ (op p j).queue → member k r ≡ true) →
      blocker_of source ran j ≡ no_operation → enabled p r j ≡ true
  unblocked_enabled j l earlier e =
      predecessors_suffice p (waits_good p shown.sound) r j l
      (λ i d. of_why i (direct_below p i j d).0 (direct_why p i j d))
    where
      of_why : (i : ℕ) → i < count p → Why p i j → member i r ≡ true
      of_why i u (by_queue b q) = earlier i b q
      of_why i u (by_wait w m t) =
          let g = source_has p n queue source shown j l w m i t in
          ran_member i u
          (λ z. no_blocker_gives source ran j sentinel e g.0 g.1 (ap (λ (x : ℕ). get_or ran x 0) g.2 ∙ z))

  pub ready_gives : (j : ℕ) → ready p r j ≡ true → (j < count p) × (member j r ≡ false) × (enabled p r j ≡ true)
  unfolding ready
  ready_gives j t = (
    can_below (count p) (enabled p) r j t,
    can_fresh (count p) (enabled p) r j t,
    can_enabled (count p) (enabled p) r j t,
  )

  ready_by : (j : ℕ) → j < count p → member j r ≡ false → enabled p r j ≡ true → ready p r j ≡ true
  unfolding ready
  ready_by j l m e = can_by (count p) (enabled p) r j l m e

  on_gives : (q i : ℕ) → (eqb (op p i).queue q && ready p r i) ≡ true → ((op p i).queue ≡ q) × (ready p r i ≡ true)
  on_gives q i t = (
    eqb-true (op p i).queue q (and_left (eqb (op p i).queue q) (ready p r i) t),
    and_right (eqb (op p i).queue q) (ready p r i) t,
  )

  -- ---- a queue that can go is ready with its next operation
  pub record Goes (q j : ℕ) : Type 0 where
    pub inside : j < count p
    pub on_queue : (op p j).queue ≡ q
    pub fresh : member j r ≡ false
    pub earlier : (k : ℕ) → k < j → (op p k).queue ≡ q → member k r ≡ true
    pub is_ready : ready p r j ≡ true

  head_goes : (q x : ℕ) → Head p r q x → x < no_operation → blocker_of source ran x ≡ no_operation → Goes q x
  head_goes q x (waiting _ l e f earlier) u b = record {
    inside = l;
    on_queue = e;
    fresh = f;
    earlier = earlier;
    is_ready = ready_by x l f (unblocked_enabled x l (λ k v z. earlier k v (z ∙ e)) b);
  }
  head_goes q x (finished h) u b = absurd (omega arith)

  pub goes : (q : ℕ) → q < 16 → can_go head source ran q ≡ true → Goes q (get_or head q 0)
  goes q l t = let g = go_gives head source ran q t in head_goes q (get_or head q 0) (places.heads q l) g.0 g.1

  goes_on : (q : ℕ) → q < 16 → can_go head source ran q ≡ true → ready_on p r q ≡ some (get_or head q 0)
  unfolding ready_on
  goes_on q l t =
      let g = goes q l t in
      let j = get_or head q 0 in
      lowest_is (count p) (λ i. eqb (op p i).queue q && ready p r i) j (record {
        inside = g.inside;
        passes = and_both (eqb (op p j).queue q) (ready p r j) (eq-eqb (op p j).queue q g.on_queue) g.is_ready;
        lower = λ k b. is_false (eqb (op p k).queue q && ready p r k) (λ u.
            let w = on_gives q k u in clash (member k r) (g.earlier k b w.0) (ready_gives k w.1).1);
      })

  -- ---- one that cannot go is not
  held_unready : (q x : ℕ) → Head p r q x → (x < no_operation → blocker_of source ran x ≡ no_operation → ⊥) → (i : ℕ) →
      (op p i).queue ≡ q → ready p r i ≡ true → ⊥
  held_unready q x (finished h) held i e t = let w = ready_gives i t in clash (member i r) (h i w.0 e) w.1
  held_unready q x (waiting _ l z f earlier) held i e t =
      let w = ready_gives i t in
      by_cases (ltb i x) (λ b. clash (member i r) (earlier i (ltb-true i x b) e) w.1)
      (λ b. by_cases (eqb i x)
      (λ s. let ix = eqb-true i x s in
      held (omega (arith, shown.sound.few_operations))
      (enabled_unblocked x l (subst (λ (y : ℕ). enabled p r y ≡ true) ix w.2)))
      (λ s. clash (member x r)
      ((enabled_gives p r i w.2).earlier x (omega (arith, ltb-false i x b, eqb-false i x s)) (z ∙ sym e)) f))

  stays_on : (q : ℕ) → q < 16 → can_go head source ran q ≡ false → ◌≡◌ {A = Option ℕ} (ready_on p r q) none
  unfolding ready_on
  stays_on q l f =
      by_option (ready_on p r q) (λ e. e)
      (λ i e. let w = on_gives q i (lowest_some (count p) (λ i. eqb (op p i).queue q && ready p r i) i e).passes in
      absurd (held_unready q (get_or head q 0) (places.heads q l)
      (λ u b. clash (can_go head source ran q) (go_by head source ran q u b) f) i w.0 w.1))

  go_some : (q : ℕ) → q < 16 → can_go head source ran q ≡ is_some (ready_on p r q)
  go_some q l =
      by_cases (can_go head source ran q) (λ t. t ∙ sym (some_is (ready_on p r q) (get_or head q 0) (goes_on q l t)))
      (λ f. f ∙ sym (none_is (ready_on p r q) (stays_on q l f)))

  few_queues : (q : ℕ) → q < 16 → can_go head source ran q ≡ true → q < queues p
  few_queues q l t = let g = goes q l t in
      rw g.on_queue at (shown.sound.in_range (get_or head q 0) g.inside).queue

  -- ---- the word
  module _ (word : ℕ) (bits : (q : ℕ) → q < 16 → has word q ≡ can_go head source ran q) where
    pub lowest_next : (q : ℕ) → q < 16 → LowestBit word q → next p r ≡ some (get_or head q 0)
    unfolding next
    lowest_next q l low =
        let t = sym (bits q l) ∙ low.there in
        first_is (λ q. ready_on p r q) (queues p) 0 q (get_or head q 0) zero-le (omega (arith, few_queues q l t))
        (goes_on q l t)
        (λ m a b. stays_on m (omega arith) (sym (bits m (omega arith)) ∙ low.lower m b))

    pub empty_next : ((q : ℕ) → q < 16 → has word q ≡ false) → ◌≡◌ {A = Option ℕ} (next p r) none
    unfolding next
    empty_next h =
        by_option (next p r) (λ e. e)
        (λ j e. let w = first_some (λ q. ready_on p r q) (queues p) 0 j e in
        let l : w.0 < 16 = omega (arith, w.2, shown.sound.few_queues) in
        absurd (let n = stays_on w.0 l (sym (bits w.0 l) ∙ h w.0 l) in
        let z : ◌≡◌ {A = ℕ} 0 1 = cc (w.3, n) in omega arith))

    pub ones_ready : word < 65536 → ones word ≡ number_ready p r
    unfolding number_ready
    ones_ready small =
        let there : ℕ → Bool = λ q. is_some (ready_on p r q) in
        let few = shown.sound.few_queues in
        let more = tally_further (queues p) 16 there few in
        let ends = tally_ends (queues p) 16 there
        (λ k u l. is_false (is_some (ready_on p r k))
        (λ t. absurd (omega (arith, few_queues k l (go_some k l ∙ t))))) in
        ones_bits 16 word small
        ∙ tally_same 16 (λ q. has word q) there (λ q l. bits q l ∙ go_some q l)
        ∙ (let e : tally 16 there ≡ tally (queues p) there = omega arith in e)
