-- The row of an operation as a map from axes to epochs: the entries sent out are that map, and one row is over another
-- exactly if its operation is the other or after it. Assumes nothing.
use mathlib.Core.Path.{◌≡◌, refl, sym, ◌∙◌, subst}
use mathlib.Core.Bool.{true, ◌&&◌}
use mathlib.Core.Logic.{◌⊎◌, inl, inr}
use Prim.Native.Nat.{ℕ, ◌≤◌, ◌<◌, zero-le}
use native.Mathlib.Omega.{arith}
use lib.Dec.{eqb}
use lib.ListN.{get_or}
use borrow.Author.Tests.{eqb-true, eq-eqb}
use Rattle.base_lists.proofs.Tests.{clash, either, and_left, and_right, and_both}
use Rattle.base_lists.proofs.Tallies.{find_below, tally_mono}
use Rattle.frontier.specs.Meaning.{epoch_at, Over}
use Rattle.frontier.proofs.Gathered.{gathered_own, gathered_other}
use Rattle.plan_format.specs.Plan.{Plan, count, op, queues}
use Rattle.plan_format.specs.Sound.{Sound}
use Rattle.plan_order.specs.Precedence.{Before, at_or_before}
use Rattle.plan_order.specs.Promise.{RowEpoch}
use Rattle.plan_order.specs.Rows.{row}
use Rattle.plan_order.proofs.Precedence.{before_chain, chain_before, before_join, at_or_means}
use Rattle.plan_order.proofs.Rows.{on_queue, entry, row_at}
use Rattle.plan_order.proofs.Demand2.{row_epoch}
use Rattle.ask_frontier.specs.Sent.{row_entries, sent_entries}
use Rattle.ask_frontier.specs.SentMeaning.{RowMap}

module _ (p : Plan) where
  -- an axis is some queue's or none's
  pub by_axis : {A : Type 0} (axis : ℕ) → ((q : ℕ) → q < queues p → get_or p.axes q 0 ≡ axis → A) →
      (((q : ℕ) → q < queues p → get_or p.axes q 0 ≡ axis → ⊥) → A) → A
  by_axis axis some none =
      either (find_below (queues p) (λ q. eqb (get_or p.axes q 0) axis))
      (λ w. some w.0 w.1 (eqb-true (get_or p.axes w.0 0) axis w.2))
      (λ n. none (λ q l e. clash (eqb (get_or p.axes q 0) axis) (eq-eqb (get_or p.axes q 0) axis e) (n q l)))

  -- ---- the entries sent out are the row
  module _ (sound : Sound p) (j : ℕ) where
    pub entries_map : RowMap p j (epoch_at (sent_entries p j))
    unfolding sent_entries row_entries
    entries_map =
        let axis : ℕ → ℕ = λ q. get_or p.axes q 0 in
        let epoch : ℕ → ℕ = λ q. get_or (row p j) q 0 in
        record {
          own = λ q l. gathered_own axis epoch (queues p) 0
              (λ i k a b c. sound.axes_distinct i k b (omega arith)) q zero-le (omega arith);
          elsewhere = λ a none. gathered_other axis epoch (queues p) 0 a (λ q l h. none q (omega arith));
        }

    pub map_same : (full : ℕ → ℕ) → RowMap p j full → (axis : ℕ) → full axis ≡ epoch_at (sent_entries p j) axis
    map_same full m axis =
        by_axis axis
        (λ q l e. subst (λ (a : ℕ). full a ≡ epoch_at (sent_entries p j) a) e (m.own q l ∙ sym (entries_map.own q l)))
        (λ none. m.elsewhere axis none ∙ sym (entries_map.elsewhere axis none))

  -- ---- rows along the order
  at_or_join : (k i j : ℕ) → at_or_before p k i ≡ true → at_or_before p i j ≡ true → at_or_before p k j ≡ true
  at_or_join k i j a b =
      either ((at_or_means p k i).0 a)
      (λ e. subst (λ (x : ℕ). at_or_before p x j ≡ true) (sym e) b)
      (λ c. either ((at_or_means p i j).0 b)
      (λ e. subst (λ (x : ℕ). at_or_before p k x ≡ true) e a)
      (λ d. (at_or_means p k j).1 (inr (before_chain p k j (before_join p k i j c (chain_before p i j d))))))

  row_grows : (i j q : ℕ) → q < 16 → at_or_before p i j ≡ true → get_or (row p i) q 0 ≤ get_or (row p j) q 0
  unfolding entry
  row_grows i j q b t =
      rw (row_at p i q b, row_at p j q b)
      (tally_mono (count p) (λ k. on_queue p q k && at_or_before p k i) (λ k. on_queue p q k && at_or_before p k j)
      (λ k l u. let on = on_queue p q k in
      and_both on (at_or_before p k j) (and_left on (at_or_before p k i) u)
      (at_or_join k i j (and_right on (at_or_before p k i) u) t)))

  module _ (sound : Sound p) (i j : ℕ) (inside : i < count p) (full other : ℕ → ℕ) (m : RowMap p j full)
      (n : RowMap p i other) where
    pub over_order : Over full other → (i ≡ j) ⊎ Before p i j
    unfolding RowEpoch
    over_order over =
        let q = (op p i).queue in
        let known : q < queues p = (sound.in_range i inside).queue in
        let few : q < 16 = omega (arith, sound.few_queues) in
        (row_epoch p i j inside few).1
        (omega (
          arith,
          (row_epoch p i i inside few).0 (inl refl),
          over (get_or p.axes q 0),
          m.own q known,
          n.own q known,
        ))

    pub order_over : (i ≡ j) ⊎ Before p i j → Over full other
    order_over w axis =
        by_axis axis
        (λ q l e. subst (λ (a : ℕ). other a ≤ full a) e
        (rw (m.own q l, n.own q l) (row_grows i j q (omega (arith, sound.few_queues)) ((at_or_means p i j).1 w))))
        (λ none. omega (arith, n.elsewhere axis none))
