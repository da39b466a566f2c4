-- Handovers by quantifiers over pairs of signals: what is out of turn, and what is not. Assumes nothing.
use mathlib.Core.Path.{◌≡◌, refl, sym, ap, ◌∙◌, subst}
use mathlib.Core.Bool.{true}
use mathlib.Core.Logic.{◌⊎◌, ◌↔◌}
use mathlib.Core.List.{Memᴰ}
use mathlib.Core.Option.{Option, none, some}
use Prim.Native.Nat.{ℕ, ◌≤◌}
use native.Mathlib.Omega.{arith}
use lib.Dec.{leb}
use borrow.Author.Tests.{leb-true, leb-false}
use Rattle.base_lists.proofs.Tests.{by_cases, by_option, clash}
use Rattle.plan_format.specs.Plan.{Plan}
use Rattle.plan_order.specs.Precedence.{Signal, plan_signals, before, Before}
use Rattle.plan_order.specs.Holdings.{Ask, met}
use Rattle.plan_order.specs.Handovers.{handovers, disordered}
use Rattle.plan_order.specs.Meaning.{SignalBefore, InTurn, AllInTurn, LowestOutOfTurn}
use Rattle.plan_order.proofs.SignalPlaces.{signal, plan_signal, signal_there, signal_in}
use Rattle.plan_order.proofs.Handovers.{ask_of, LastBefore, handover_gives, handover_has, Unforced}
use Rattle.plan_order.proofs.Handovers.{disordered_some, disordered_none, met_at, at_met}

module _ (p : Plan) where
  -- ---- the signal before another, by places and in the list of signals
  listed : (j l i k : ℕ) → SignalBefore p j l i k →
      LastBefore (plan_signals p) (plan_signal p j l) (plan_signal p i k)
  unfolding signal
  listed j l i k w = record {
    earlier_in = signal_in p j l w.earlier_signal;
    later_in = signal_in p i k w.later_signal;
    one_semaphore = w.one_semaphore;
    sooner = w.earlier;
    last = λ z m q near far. let t = signal_there p z m in
        w.last z.operation z.position t.0 (sym (ap (λ (y : Signal). y.semaphore) t.1) ∙ q) near far;
  }

  placed : (y x : Signal) → LastBefore (plan_signals p) y x →
      SignalBefore p y.operation y.position x.operation x.position
  unfolding signal
  placed y x w =
      let s = signal_there p y w.earlier_in in
      let t = signal_there p x w.later_in in
      let here = ap (λ (z : Signal). z.semaphore) t.1 in
      record {
        earlier_signal = s.0;
        later_signal = t.0;
        one_semaphore = sym (ap (λ (z : Signal). z.semaphore) s.1) ∙ w.one_semaphore ∙ here;
        earlier = w.sooner;
        last = λ h m is q near far. w.last (plan_signal p h m) (signal_in p h m is) (q ∙ sym here) near far;
      }

  -- the handover of a signal, forced by before
  turn_by : (i k : ℕ) → ((a : Ask) → Memᴰ a (handovers p) → a.then ≡ i → met (λ i j. before p i j) a ≡ true) →
      InTurn p i k
  unfolding signal
  turn_by i k h j l w =
      let a = ask_of (plan_signal p j l) (plan_signal p i k) in
      met_at p a (h a (handover_has p (plan_signal p j l) (plan_signal p i k) (listed j l i k w)) refl)

  record Out (i : ℕ) : Type 0 where
    place : ℕ
    other : ℕ
    other_place : ℕ
    before_it : SignalBefore p other other_place i place
    unforced : (other ≡ i) ⊎ Before p other i → ⊥

  out_of : (i : ℕ) (a : Ask) → Unforced p i a → Out i
  out_of i a u =
      let w = handover_gives p a u.among in
      let same : w.1.operation ≡ i = sym (ap (λ (z : Ask). z.then) w.3) ∙ u.own in
      subst (λ (z : ℕ). Out z) same (record {
        place = w.1.position;
        other = w.0.operation;
        other_place = w.0.position;
        before_it = placed w.0 w.1 w.2;
        unforced = λ c. clash (met (λ i j. before p i j) a)
            (ap (λ (z : Ask). met (λ i j. before p i j) z) w.3 ∙ at_met p (ask_of w.0 w.1) refl c)
            u.unforced;
      })

  pub ordered_means : ◌≡◌ {A = Option ℕ} (disordered p) none ↔ AllInTurn p
  ordered_means = (
    (λ e i k s. turn_by i k (λ a m q. disordered_none p e a m)),
    (λ h. by_option (disordered p) (λ e. e) (λ i e.
        let w = (disordered_some p i e).0 in
        let o = out_of i w.0 w.1 in
        absurd (o.unforced (h i o.place o.before_it.later_signal o.other o.other_place o.before_it)))),
  )

  disordered_lowest : (i : ℕ) → disordered p ≡ some i → LowestOutOfTurn p i
  disordered_lowest i e =
      let w = disordered_some p i e in
      let o = out_of i w.0.0 w.0.1 in
      record {
        out_of_turn = (o.place, o.other, o.other_place, o.before_it, o.unforced);
        lowest = λ h k l s. turn_by h k (λ a m q. w.1 a m (omega (arith, q)));
      }

  lowest_one : (i j : ℕ) → LowestOutOfTurn p i → LowestOutOfTurn p j → i ≤ j
  lowest_one i j a b =
      by_cases (leb i j) (λ t. leb-true i j t)
      (λ f. let w = b.out_of_turn in
      absurd (w.4 (a.lowest j w.0 (omega (arith, leb-false i j f)) w.3.later_signal w.1 w.2 w.3)))

  pub disordered_means : (i : ℕ) → (disordered p ≡ some i) ↔ LowestOutOfTurn p i
  disordered_means i = (
    disordered_lowest i,
    (λ h. by_option (disordered p)
        (λ e. let w = h.out_of_turn in
        absurd (w.4 (ordered_means.0 e i w.0 w.3.later_signal w.1 w.2 w.3)))
        (λ j e. let g = disordered_lowest j e in
        let same : j ≡ i = let x = lowest_one i j h g in let y = lowest_one j i g h in omega arith in cc)),
  )
