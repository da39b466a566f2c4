-- The first signal whose wait frees a buffer, by operation and place. Assumes nothing.
use mathlib.Core.Path.{◌≡◌, refl, sym, ap, ◌∙◌, subst, subst₂}
use mathlib.Core.Bool.{Bool, true}
use mathlib.Core.Logic.{inl, inr, ◌↔◌}
use mathlib.Core.Option.{Option, none, some}
use Prim.Native.Nat.{ℕ, ◌<◌}
use native.Mathlib.Omega.{arith}
use lib.Dec.{ltb, eqb}
use lib.ListN.{length}
use borrow.Author.Tests.{ltb-true, ltb-false, eqb-true, eqb-false}
use Rattle.base_lists.proofs.Tests.{by_cases, by_option, clash, is_false}
use Rattle.base_lists.proofs.Searches.{lowest_some, lowest_none, lowest_is}
use Rattle.plan_format.specs.Plan.{Point, Plan}
use Rattle.plan_format.specs.Meaning.{signal_at, IsSignal, Earlier}
use Rattle.plan_format.specs.Sound.{Sound}
use Rattle.plan_order.specs.Precedence.{plan_signals, at_or_before}
use Rattle.plan_order.specs.Holdings.{Placed as PlacedMark, buffer_marks}
use Rattle.plan_order.specs.Reuse.{last_mark, verdict}
use Rattle.plan_order.specs.Meaning.{Forced}
use Rattle.plan_order.specs.declared.Verdict.TheVariants.{NotOrdered}
use Rattle.plan_order.proofs.VerdictMeaning.{verdict_means, last_some}
use Rattle.plan_order.proofs.LastFree.{unseen_free}
use Rattle.plan_suggest.specs.Suggest.{frees, wait_for, first_freeing}
use Rattle.plan_suggest.specs.Meaning.{WaitFrees, FirstFreeing, NoneFrees}
use Rattle.plan_suggest.proofs.SignalPlaces.{at, place_signal, signal_place, signals_rise}
use Rattle.plan_suggest.proofs.Freeing.{frees_means, frees_same}

-- no signal is earlier than itself, nor each of two than the other
earlier_other : (i k j n : ℕ) → Earlier i k j n → i ≡ j → k ≡ n → ⊥
earlier_other i k j n (inl a) x y = omega arith
earlier_other i k j n (inr a) x y = omega (arith, a.1)

earlier_once : (i k j n : ℕ) → Earlier i k j n → Earlier j n i k → ⊥
earlier_once i k j n (inl a) (inl b) = omega arith
earlier_once i k j n (inl a) (inr b) = omega (arith, b.0)
earlier_once i k j n (inr a) (inl b) = omega (arith, a.0)
earlier_once i k j n (inr a) (inr b) = omega (arith, a.1, b.1)

module _ (p : Plan) (q b : ℕ) where
  abbrev test : (n : ℕ) → Bool
  test n = frees p q b (wait_for p n)

  abbrev many : ℕ
  many = length (plan_signals p)

  -- a signal of an operation, and its place among all
  pub record Placed (i k n : ℕ) : Type 0 where
    pub inside : n < many
    pub operation_is : (at p n).operation ≡ i
    pub position_is : (at p n).position ≡ k
    pub point_is : signal_at p i k ≡ wait_for p n

  pub place_of : (i k : ℕ) → IsSignal p i k → (n : ℕ) × Placed i k n
  place_of i k s =
      let w = signal_place p i k s in
      let here = (place_signal p w.0 w.1).1 in (
        w.0,
        record {
          inside = w.1;
          operation_is = w.2;
          position_is = w.3;
          point_is = subst₂ (λ (x y : ℕ). signal_at p x y ≡ wait_for p w.0) w.2 w.3 here;
        },
      )

  placed_at : (n : ℕ) → n < many → Placed (at p n).operation (at p n).position n
  placed_at n l = record { inside = l; operation_is = refl; position_is = refl; point_is = (place_signal p n l).1 }

  -- order of places is order of operations and of their lists
  place_before : (i k m j l n : ℕ) → Placed i k m → Placed j l n → Earlier i k j l → m < n
  place_before i k m j l n a c e =
      by_cases (ltb m n) (λ t. ltb-true m n t)
      (λ f. absurd (by_cases (eqb m n)
      (λ s. let same = eqb-true m n s in
      let x : i ≡ j = sym a.operation_is ∙ ap (λ (z : ℕ). (at p z).operation) same ∙ c.operation_is in
      let y : k ≡ l = sym a.position_is ∙ ap (λ (z : ℕ). (at p z).position) same ∙ c.position_is in
      earlier_other i k j l e x y)
      (λ s. let after = signals_rise p n m (omega (arith, ltb-false m n f, eqb-false m n s)) a.inside in
      earlier_once i k j l e
      (subst₂ (λ (u v : ℕ). Earlier j l u v) a.operation_is a.position_is
      (subst₂ (λ (u v : ℕ). Earlier u v (at p m).operation (at p m).position) c.operation_is c.position_is
      after)))))

  before_place : (m n : ℕ) → m < n → n < many →
      Earlier (at p m).operation (at p m).position (at p n).operation (at p n).position
  before_place m n l inside = signals_rise p m n l inside

  placed_frees : (i k n : ℕ) → Placed i k n → (test n ≡ true) ↔ WaitFrees p q b (signal_at p i k)
  placed_frees i k n w = (
    (λ t. subst (λ (z : Point). WaitFrees p q b z) (sym w.point_is) ((frees_means p q b (wait_for p n)).0 t)),
    (λ h. (frees_means p q b (wait_for p n)).1 (subst (λ (z : Point). WaitFrees p q b z) w.point_is h)),
  )

  -- ---- the first
  pub first_gives : (n : ℕ) → first_freeing p q b ≡ some n →
      FirstFreeing p q b (wait_for p n).semaphore (wait_for p n).value
  unfolding first_freeing
  first_gives n e =
      let low = lowest_some many test n e in
      let here = placed_at n low.inside in
      record {
        operation = (at p n).operation;
        place = (at p n).position;
        signal = (place_signal p n low.inside).0;
        point = here.point_is;
        frees = (placed_frees _ _ n here).0 low.passes;
        first = λ i k s earlier h.
            let w = place_of i k s in
            clash (test w.0) ((placed_frees i k w.0 w.1).1 h)
            (low.lower w.0 (place_before i k w.0 _ _ n w.1 here earlier));
      }

  pub first_has : (s v : ℕ) → FirstFreeing p q b s v →
      (n : ℕ) × (first_freeing p q b ≡ some n) × (wait_for p n ≡ record { semaphore = s; value = v })
  unfolding first_freeing
  first_has s v f =
      let w = place_of f.operation f.place f.signal in
      let n = w.0 in (
        n,
        lowest_is many test n (record {
          inside = w.1.inside;
          passes = (placed_frees f.operation f.place n w.1).1 f.frees;
          lower = λ k l. let inside : k < many = omega (arith, w.1.inside) in
              let there = placed_at k inside in
              is_false (test k) (λ t. f.first (at p k).operation (at p k).position (place_signal p k inside).0
              (subst₂ (λ (x y : ℕ). Earlier (at p k).operation (at p k).position x y) w.1.operation_is
              w.1.position_is (before_place k n l w.1.inside))
              ((placed_frees _ _ k there).0 t));
        }),
        sym w.1.point_is ∙ f.point,
      )

  -- ---- none
  pub none_gives : ◌≡◌ {A = Option ℕ} (first_freeing p q b) none → NoneFrees p q b
  unfolding first_freeing
  none_gives e i k s h =
      let w = place_of i k s in
      clash (test w.0) ((placed_frees i k w.0 w.1).1 h) (lowest_none many test e w.0 w.1.inside)

  pub none_has : NoneFrees p q b → ◌≡◌ {A = Option ℕ} (first_freeing p q b) none
  none_has h =
      by_option (first_freeing p q b) (λ e. e)
      (λ n e. let f = first_gives n e in absurd (h f.operation f.place f.signal f.frees))

-- ---- under verdict 3 of a plan without broken marks the last free decides: a signal frees exactly if that free is at
-- or before the signal's operation
pub record LastDecides (p : Plan) (q b : ℕ) : Type 0 where
  pub free : PlacedMark
  pub last : last_mark (buffer_marks p b) ≡ some free
  pub decides : (n : ℕ) → n < length (plan_signals p) →
      frees p q b (wait_for p n) ≡ at_or_before p free.by (at p n).operation

pub last_decides : (p : Plan) → Sound p → (q b : ℕ) → ((k : ℕ) → k < length (buffer_marks p b) → Forced p b k) →
    verdict p q b ≡ NotOrdered → LastDecides p q b
last_decides p sound q b forced not_ordered =
    let w = (unseen_free p b forced q).0 ((verdict_means p q b NotOrdered).0 not_ordered) in
    let last = w.1 in
    record {
      free = w.0;
      last = ap last_mark last.1 ∙ last_some last.0 w.0;
      decides = λ n l. let s = place_signal p n l in
          ap (frees p q b) (sym s.1) ∙
          frees_same p sound q b forced w.0 last w.2 w.3 (at p n).operation (at p n).position s.0;
    }
