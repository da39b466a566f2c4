-- After a run, what has run, by the counts of the queues. Assumes nothing.
use mathlib.Core.Path.{◌≡◌, refl, sym, ap, ◌∙◌, subst}
use mathlib.Core.Bool.{Bool, true, false, ◌&&◌, ◌||◌, not, and-true, and-false}
use mathlib.Core.Logic.{◌↔◌}
use mathlib.Core.List.{List, [], ◌∷◌, ◌++◌}
use Prim.Native.Nat.{ℕ, suc, ◌≤◌, ◌<◌}
use native.Mathlib.Omega.{arith}
use lib.Dec.{ltb, leb, eqb}
use lib.ListN.{length, get_or, set, length-set}
use lib.Seq.{ext_get_or, get_or-set_same, get_or-set_other}
use borrow.Author.Tests.{ltb-false, leb-true, leb-false, le-leb, le-ltb, eqb-true, eqb-false, eq-eqb, ne_eqb}
use Rattle.base_lists.specs.Lists.{member, tally}
use Rattle.base_lists.proofs.Tests.{by_cases, clash, is_true, is_false, and_both, or_cases, or_left, or_right, either}
use Rattle.base_lists.proofs.Members.{member_snoc, member_left, member_last}
use Rattle.base_lists.proofs.Tallies.{tally_mono, tally_same, tally_further, tally_one_more}
use Rattle.order.specs.Closure.{once}
use Rattle.order.proofs.Columns.{Initial, initial_reaches, reaches_initial}
use Rattle.plan_format.specs.Sizes.{most_queues}
use Rattle.plan_format.specs.Plan.{Plan, count, op}
use Rattle.plan_order.specs.Precedence.{same_queue, before, at_or_before}
use Rattle.plan_order.specs.Rows.{epoch}
use Rattle.plan_order.specs.Runs.{earlier_run, is_run, is_full}
use Rattle.plan_order.proofs.Readiness.{earlier_gives, earlier_by, queue_in, by_queue, direct_by}
use Rattle.plan_order.proofs.Precedence.{chain_before, before_steps}
use Rattle.plan_order.proofs.Rows.{on_queue, entry, own, own_is}
use Rattle.plan_trace.specs.State.{queue_count, queue_counts}
use Rattle.plan_trace.proofs.StateMeaning.{counts_at, counts_long}

-- ---- the own entry of a row is the epoch
module _ (p : Plan) (f : List ℕ) (full : is_full p f ≡ true) where
  -- what is earlier on the queue is before, and what is later is not
  queue_order : (i j : ℕ) → i < count p → j < count p → (op p i).queue ≡ (op p j).queue → at_or_before p i j ≡ leb i j
  unfolding at_or_before
  queue_order i j a b q =
      by_cases (leb i j)
      (λ t. by_cases (eqb i j)
      (λ e. or_left (eqb i j) (before p i j) e ∙ sym t)
      (λ ne. or_right (eqb i j) (before p i j)
      (chain_before p i j (once i j (direct_by p i j a b
      (by_queue (omega (arith, leb-true i j t, eqb-false i j ne)) q)))) ∙ sym t))
      (λ g. is_false (eqb i j || before p i j) (λ t.
      let later : j < i = leb-false i j g in
      let back = before_steps p f full j i
      (chain_before p j i (once j i (direct_by p j i b a (by_queue later (sym q))))) in
      either (or_cases (eqb i j) (before p i j) t) (λ e. omega (arith, eqb-true i j e))
      (λ c. omega (arith, before_steps p f full i j c))) ∙ sym g)

  pub own_entry : (j : ℕ) → j < count p → entry p j (op p j).queue ≡ epoch p j
  unfolding entry on_queue own
  own_entry j l =
      let q = (op p j).queue in
      tally_same (count p) (λ i. on_queue p q i && at_or_before p i j) (λ i. on_queue p q i && own p j i) (λ i b.
      by_cases (eqb (op p i).queue q)
      (λ t. rw (t, queue_order i j b l (eqb-true (op p i).queue q t)) (sym (and-true (leb i j))))
      (λ g. rw g))
      ∙ own_is p q j l ∙ rw (eq-eqb q q refl)

module _ (p : Plan) (r : List ℕ) (a_run : is_run p r ≡ true) where
  -- ---- what has run is an initial part of each queue
  ran_initial : (q : ℕ) → Initial (count p) (λ i. on_queue p q i) (λ i. member i r)
  unfolding on_queue is_run
  ran_initial q i k l b a c t = queue_in p r i k a_run t l
      (eqb-true (op p i).queue q a ∙ sym (eqb-true (op p k).queue q c))

  pub run_tells : (i : ℕ) → i < count p → (member i r ≡ true) ↔ (epoch p i ≤ queue_count p r (op p i).queue)
  unfolding epoch queue_count on_queue same_queue
  run_tells i l =
      let q = (op p i).queue in (
        (λ t. initial_reaches (count p) (λ k. on_queue p q k) (λ k. member k r) (ran_initial q) i l (eq-eqb q q refl)
            t),
        (λ h. reaches_initial (count p) (λ k. on_queue p q k) (λ k. member k r) (ran_initial q) i l (eq-eqb q q refl)
            h),
      )

  pub run_is : (i : ℕ) → i < count p → member i r ≡ leb (epoch p i) (queue_count p r (op p i).queue)
  run_is i l =
      let q = (op p i).queue in
      by_cases (member i r) (λ t. t ∙ sym (le-leb (epoch p i) (queue_count p r q) ((run_tells i l).0 t)))
      (λ g. g ∙ sym (is_false (leb (epoch p i) (queue_count p r q))
      (λ t. clash (member i r) ((run_tells i l).1 (leb-true (epoch p i) (queue_count p r q) t)) g)))

  -- ---- the next of a queue
  epoch_one : (j : ℕ) → epoch p j ≡ suc (tally j (λ k. same_queue p k j))
  unfolding epoch tally same_queue
  epoch_one j = rw (eq-eqb (op p j).queue (op p j).queue refl) (omega arith)

  epoch_rises : (i j : ℕ) → i < j → (op p i).queue ≡ (op p j).queue → epoch p i < epoch p j
  unfolding epoch same_queue
  epoch_rises i j l q =
      let same = tally_same (suc i) (λ k. same_queue p k i) (λ k. same_queue p k j)
      (λ k b. ap (λ (z : ℕ). eqb (op p k).queue z) q) in
      omega (arith, epoch_one j, tally_further (suc i) j (λ k. same_queue p k j) l)

  -- all earlier ones have run exactly if the epoch is at most one past the count
  pub first_tells : (j : ℕ) → j < count p →
      (earlier_run p r j ≡ true) ↔ (epoch p j ≤ suc (queue_count p r (op p j).queue))
  unfolding queue_count same_queue
  first_tells j l =
      let q = (op p j).queue in (
        (λ t. let few = tally_mono j (λ k. same_queue p k j) (λ k. eqb (op p k).queue q && member k r) (λ k b e.
            and_both (eqb (op p k).queue q) (member k r) e (earlier_gives p r j t k b (eqb-true (op p k).queue q e)))
            in
            omega (
              arith,
              epoch_one j,
              tally_further j (count p) (λ k. eqb (op p k).queue q && member k r)
                  (omega arith),
            )),
        (λ h. earlier_by p r j (λ k b e. (run_tells k (omega arith)).1
            (subst (λ (z : ℕ). epoch p k ≤ queue_count p r z) (sym e)
            (unfold queue_count in (omega (arith, epoch_rises k j b e)))))),
      )

  pub first_is : (j : ℕ) → j < count p → not (earlier_run p r j) ≡ ltb (suc (queue_count p r (op p j).queue))
      (epoch p j)
  first_is j l =
      let c = suc (queue_count p r (op p j).queue) in
      by_cases (earlier_run p r j)
      (λ t. ap not t ∙ sym (le-ltb c (epoch p j) ((first_tells j l).0 t)))
      (λ g. ap not g ∙ sym (is_true (ltb c (epoch p j))
      (λ n. clash (earlier_run p r j) ((first_tells j l).1 (ltb-false c (epoch p j) n)) g)))

  -- ---- one operation more
  module _ (j : ℕ) (inside : j < count p) (fresh : member j r ≡ false) where
    abbrev more : List ℕ
    more = r ++ (j ∷ [])

    other_member : (i : ℕ) → (i ≡ j → ⊥) → member i more ≡ member i r
    other_member i ne =
        by_cases (member i r) (λ t. member_left i r (j ∷ []) t ∙ sym t)
        (λ g. is_false (member i more) (λ t. either (member_snoc i r j t) (λ u. clash (member i r) u g)
        (λ e. ne (sym e))) ∙ sym g)

    count_own : queue_count p more (op p j).queue ≡ suc (queue_count p r (op p j).queue)
    unfolding queue_count
    count_own =
        let q = (op p j).queue in
        tally_one_more (count p) (λ i. eqb (op p i).queue q && member i r)
        (λ i. eqb (op p i).queue q && member i more) j inside
        (rw fresh (and-false (eqb q q))) (and_both (eqb q q) (member j more) (eq-eqb q q refl) (member_last j r))
        (λ i ne. ap (λ (b : Bool). eqb (op p i).queue q && b) (other_member i ne))

    count_other : (q : ℕ) → (q ≡ (op p j).queue → ⊥) → queue_count p more q ≡ queue_count p r q
    unfolding queue_count
    count_other q ne =
        tally_same (count p) (λ i. eqb (op p i).queue q && member i more) (λ i. eqb (op p i).queue q && member i r)
        (λ i l.
        by_cases (eqb i j)
        (λ e. let o : eqb (op p i).queue q ≡ false = ne_eqb (op p i).queue q
        (λ z. ne (sym z ∙ ap (λ (k : ℕ). (op p k).queue) (eqb-true i j e))) in rw o)
        (λ g. ap (λ (b : Bool). eqb (op p i).queue q && b) (other_member i (eqb-false i j g))))

    -- the next of its queue: its epoch is the new count
    module _ (next : earlier_run p r j ≡ true) (low : (op p j).queue < most_queues) where
      epoch_next : epoch p j ≡ suc (queue_count p r (op p j).queue)
      epoch_next =
          let above : queue_count p r (op p j).queue < epoch p j = leb-false (epoch p j)
          (queue_count p r (op p j).queue) (sym (run_is j inside) ∙ fresh) in
          omega (arith, (first_tells j inside).0 next)

      pub counts_more : queue_counts p more ≡ set (queue_counts p r) (op p j).queue (epoch p j)
      counts_more =
          let q = (op p j).queue in
          let long : length (set (queue_counts p r) q (epoch p j)) ≡ most_queues = length-set (queue_counts p r) q
          (epoch p j) ∙ counts_long p r in
          ext_get_or 0 (queue_counts p more) (set (queue_counts p r) q (epoch p j)) (counts_long p more ∙ sym long)
          (λ i l.
          let b : i < most_queues = omega (arith, counts_long p more) in
          counts_at p more i b
          ∙ by_cases (eqb i q)
          (λ t. let e = eqb-true i q t in
          ap (λ (z : ℕ). queue_count p more z) e ∙ count_own ∙ sym epoch_next
          ∙ sym (ap (λ (z : ℕ). get_or (set (queue_counts p r) q (epoch p j)) z 0) e ∙
          get_or-set_same (queue_counts p r) q (epoch p j) 0 (omega (arith, counts_long p r))))
          (λ g. let ne = eqb-false i q g in
          count_other i ne ∙ sym (get_or-set_other (queue_counts p r) q i (epoch p j) 0 ne ∙ counts_at p r i b)))
