-- One operation more at the end, without signals and marks: no mark breaks, and with a full run the plan passes.
-- Assumes nothing.
use mathlib.Core.Path.{◌≡◌, refl, sym, ap, ◌∙◌, subst}
use mathlib.Core.Bool.{true}
use mathlib.Core.Logic.{◌⊎◌, inl, inr}
use mathlib.Core.List.{List, [], ◌∷◌, ◌++◌, Memᴰ}
use mathlib.Core.Option.{none, some}
use Prim.Native.Nat.{ℕ, suc, ◌*◌, ◌≤◌, ◌<◌}
use native.Mathlib.Omega.{arith}
use lib.ListN.{length}
use Rattle.base_lists.specs.Lists.{member}
use Rattle.base_lists.proofs.Tests.{clash}
use Rattle.plan_format.specs.Sizes.{row_width}
use Rattle.plan_format.specs.Refusal.{Refusal, none_given}
use Rattle.plan_format.specs.Plan.{Operation, Plan, count, op, queues}
use Rattle.plan_format.specs.Sound.{Sound, rules_refusal}
use Rattle.plan_format.proofs.Judged.{zero_not_given}
use Rattle.plan_order.specs.Precedence.{Signal, Before, before}
use Rattle.plan_order.specs.Runs.{is_full}
use Rattle.plan_order.specs.Holdings.{Placed, marks_of, marks_from, buffer_marks, Ask, met}
use Rattle.plan_order.specs.Handovers.{handovers_from, handovers}
use Rattle.plan_order.specs.Check.{room_refusal, order_refusal, outcome, or_then, rows_and_run, plan_outcome}
use Rattle.plan_order.specs.Meaning.{AllInTurn, Asked, AllForced}
use Rattle.plan_order.proofs.Standard.{standard_lacks, missing_some, full_run, full_has}
use Rattle.plan_order.proofs.Demand3.{Ordered, stuck_there, disordered_there, broken_there, in_order, order_cases}
use Rattle.plan_order.proofs.Precedence.{before_chain, chain_before}
use Rattle.plan_order.proofs.Keeping.{met_more}
use Rattle.plan_order.proofs.Handovers.{disordered_none, disordered_by}
use Rattle.plan_order.proofs.HandoversMeaning.{ordered_means}
use Rattle.plan_order.proofs.KeepsMeaning.{unbroken_means}
use Rattle.plan_order.proofs.RoomMeaning.{room_means}
use Rattle.plan_change.specs.Longer.{with_last}
use Rattle.plan_change.proofs.Longer.{last_signals, old_from}

marks_last : (i b : ℕ) (os : List Operation) (o : Operation) → o.marks ≡ [] →
    marks_from i b (os ++ (o ∷ [])) ≡ marks_from i b os
unfolding marks_from marks_of
marks_last i b [] o e = rw e
marks_last i b (x ∷ xs) o e =
    ap {B = List Placed} (λ z. marks_of i b x.marks ++ z) (marks_last (suc i) b xs o e)

-- a plan with a full run, every signal in turn and no broken mark is not refused for its order
pub runs_and_keeps : (p : Plan) → Sound p → (r : List ℕ) → is_full p r ≡ true → AllInTurn p → AllForced p →
    (order_refusal p).number ≡ 0
unfolding none_given
runs_and_keeps p sound r full in_turn forced = of (order_refusal p) (order_cases p)
  where
    of : (f : Refusal) → Ordered p f → f.number ≡ 0
    of f (stuck_there i m) =
        let known : (j : ℕ) → j < count p → (op p j).queue < queues p = λ j l. (sound.in_range j l).queue in
        let w = missing_some p known i m in
        clash (member i r) (full_has p r full i w.0) (standard_lacks p known i w.1 r (full_run p r full).0)
    of f (disordered_there i m d) =
        let z : some i ≡ none = sym d ∙ (ordered_means p).1 in_turn in
        absurd (let y : ◌≡◌ {A = ℕ} 0 1 = cc in omega arith)
    of f (broken_there i m d e) =
        let z : some i ≡ none = sym e ∙ (unbroken_means p).1 forced in
        absurd (let y : ◌≡◌ {A = ℕ} 0 1 = cc in omega arith)
    of f (in_order m d e) = refl

-- a sound plan that is not refused for its order passes, wherever there is room for its rows and its run
pub sound_passes : (p : Plan) → Sound p → (order_refusal p).number ≡ 0 → (table list : ℕ) →
    row_width * count p ≤ table → 2 * count p ≤ list → plan_outcome p table list ≡ outcome none_given rows_and_run
unfolding plan_outcome or_then outcome
sound_passes p sound passes t l a b =
    rw (
      zero_not_given (rules_refusal p) sound.rules,
      zero_not_given (room_refusal (count p) t l) ((room_means (count p) t l).enough a b).0,
      zero_not_given (order_refusal p) passes,
    )

module _ (p : Plan) (o : Operation) (silent : o.signals ≡ []) (unmarked : o.marks ≡ []) where
  abbrev grown : Plan
  grown = with_last p o

  pub last_marks : (b : ℕ) → buffer_marks grown b ≡ buffer_marks p b
  unfolding buffer_marks with_last
  last_marks b = marks_last 0 b p.operations o unmarked

  -- what was in turn is in turn
  pub last_in_turn : AllInTurn p → AllInTurn grown
  unfolding handovers
  last_in_turn in_turn =
      (ordered_means grown).0 (disordered_by grown (λ a m.
      let here : Memᴰ a (handovers p) =
      subst (λ (xs : List Signal). Memᴰ a (handovers_from [] xs)) (last_signals p o silent) m in
      still a (disordered_none p ((ordered_means p).1 in_turn) a here)))
    where
      still : (a : Ask) → met (λ i j. before p i j) a ≡ true → met (λ i j. before grown i j) a ≡ true
      still a e =
          met_more (λ i j. before p i j) (λ i j. before grown i j) a
          (λ t. chain_before grown a.first a.then
          (old_from p o silent a.first a.then (before_chain p a.first a.then t))) e

  -- what was forced is forced
  asked_still : (ms : List Placed) (k : ℕ) → Asked ms (λ i j. (i ≡ j) ⊎ Before p i j) (λ i j. Before p i j) k →
      Asked ms (λ i j. (i ≡ j) ⊎ Before grown i j) (λ i j. Before grown i j) k
  asked_still ms k h = record {
    own_free = λ l a c n f. still (h.own_free l a c n f);
    free_before = λ l a f n. old_from p o silent _ _ (h.free_before l a f n);
  }
    where
      still : {i j : ℕ} → (i ≡ j) ⊎ Before p i j → (i ≡ j) ⊎ Before grown i j
      still (inl e) = inl e
      still (inr c) = inr (old_from p o silent _ _ c)

  pub last_forced : AllForced p → AllForced grown
  unfolding with_last
  last_forced forced b k known l =
      subst (λ (ms : List Placed). Asked ms (λ i j. (i ≡ j) ⊎ Before grown i j) (λ i j. Before grown i j) k)
      (sym (last_marks b))
      (asked_still (buffer_marks p b) k
      (forced b k known (subst (λ (ms : List Placed). k < length ms) (last_marks b) l)))
