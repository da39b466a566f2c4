-- Demand 2 for any plan: rows count what is at or before, tell it by epochs, and merge; before is what every full run
-- forces. Assumes nothing.
use mathlib.Core.Path.{◌≡◌, refl, sym, ap, ap₂, ◌∙◌}
use mathlib.Core.List.{List, [], ◌∷◌}
use Prim.Native.Nat.{ℕ, ◌+◌, ◌*◌, ◌≤◌, ◌<◌, max}
use native.Mathlib.Omega.{arith}
use lib.Dec.{eqb}
use lib.ListN.{get_or}
use borrow.Author.Tests.{eqb-true, eqb-false}
use Rattle.base_lists.specs.Lists.{member}
use Rattle.base_lists.proofs.Tests.{by_cases, clash, is_true}
use Rattle.order.specs.Runs.{step_of}
use Rattle.plan_format.specs.Plan.{Plan, count, op, queues}
use Rattle.plan_format.specs.Sound.{Sound}
use Rattle.plan_order.specs.Precedence.{before}
use Rattle.plan_order.specs.Promise.{Demand2, BeforeForces, RowEpoch, most_of, RowStep, StandardRight}
use Rattle.plan_order.specs.Rows.{row, rows}
use Rattle.plan_order.specs.Runs.{standard}
use Rattle.plan_order.proofs.Demand3.{waits_good}
use Rattle.plan_order.proofs.Precedence.{before_chain, chain_before, at_or_means, before_steps, unordered}
use Rattle.plan_order.proofs.RowsMeaning.{rows_means}
use Rattle.plan_order.proofs.Rows.{row_at, most, any_at_has, entry_merged, entry_tells, own_is, unused_zero}
use Rattle.plan_order.proofs.Standard.{next_ready, next_lowest, standard_runs, standard_stuck, standard_lacks}
use Rattle.plan_order.proofs.Standard.{standard_steps}

module _ (p : Plan) where
  pub demand_2 : Demand2 p (rows p)
  unfolding Demand2
  demand_2 j q l b = (rows_means p j q (get_or (rows p) (16 * j + q) 0) l b).0 refl

  pub row_epoch : RowEpoch p
  unfolding RowEpoch
  row_epoch i j l b =
      let t = entry_tells p i j l in
      let e = row_at p j (op p i).queue b in (
        (λ w. rw e (t.0 ((at_or_means p i j).1 w))),
        (λ h. (at_or_means p i j).0 (t.1 (rw e at h))),
      )

  most_rows : (q : ℕ) → q < 16 → (ks : List ℕ) → most p q ks ≡ most_of p q ks
  unfolding most most_of
  most_rows q b [] = refl
  most_rows q b (k ∷ ks) = ap₂ (λ (x y : ℕ). max x y) (sym (row_at p k q b)) (most_rows q b ks)

  pub row_step : RowStep p
  unfolding RowStep
  row_step j ks l directs covers q b =
      row_at p j q b
      ∙ entry_merged p j l ks directs (λ i e. let w = covers i e in any_at_has p ks i w.0 w.1 w.2) q
      ∙ ap₂ (λ (x y : ℕ). max x y) (own_is p q j l) (most_rows q b ks)

  pub unused_columns : ((i : ℕ) → i < count p → (op p i).queue < queues p) → (j q : ℕ) → q < 16 → queues p ≤ q →
      get_or (row p j) q 0 ≡ 0
  unused_columns in_range j q b l = row_at p j q b ∙ unused_zero p in_range j q l

  pub before_forces : BeforeForces p
  unfolding BeforeForces
  before_forces sound f full i j a b = (
    (λ c r h. before_steps p r h i j (chain_before p i j c)),
    (λ h. before_chain p i j (is_true (before p i j) (λ n.
        by_cases (eqb i j)
        (λ t. absurd (let z = h f full in omega (arith, ap (λ (x : ℕ). step_of 0 f x) (eqb-true i j t))))
        (λ ne. let w = unordered p (waits_good p sound) f full i j b (eqb-false i j ne) n in
        absurd (let z = h w.0 w.1 in omega (arith, w.2)))))),
  )

  pub standard_right : Sound p → StandardRight p
  standard_right sound =
      let known : (j : ℕ) → j < count p → (op p j).queue < queues p = λ j l. (sound.in_range j l).queue in
      record {
        a_run = standard_runs p known;
        has_all = λ r j h m. is_true (member j (standard p))
            (λ n. clash (member j r) m (standard_lacks p known j n r h));
        steps = standard_steps p;
        chosen = next_ready p;
        lowest = λ r j k e h. next_lowest p r j e k h;
        ends = standard_stuck p known;
      }
