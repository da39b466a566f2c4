-- Without refusal 17 every run, full or not, raises every semaphore in order; with it some full run does not. Assumes
-- nothing.
use mathlib.Core.Path.{◌≡◌, refl, sym, ap, ◌∙◌, subst, subst₂}
use mathlib.Core.Bool.{true, false, true≢false}
use mathlib.Core.Logic.{◌⊎◌, inl, inr}
use mathlib.Core.List.{List, [], ◌∷◌, Memᴰ}
use mathlib.Core.Option.{Option, none, some}
use Prim.Native.Nat.{ℕ, ◌≤◌, ◌<◌}
use native.Mathlib.Omega.{arith}
use lib.Dec.{eqb}
use lib.ListN.{length, get_or}
use borrow.Author.Tests.{eqb-true, eqb-false, le-ltb, lt-ltb}
use Rattle.base_lists.specs.Lists.{member}
use Rattle.base_lists.proofs.Tests.{by_cases, is_false, either}
use Rattle.base_lists.proofs.Pairwise.{Pairwise, pairwise_head, pairwise_tail}
use Rattle.base_lists.proofs.Places.{member_place, mem_at}
use Rattle.order.specs.Runs.{step_of}
use Rattle.order.proofs.Runs.{run_below}
use Rattle.order.proofs.Extensions.{chain_steps}
use Rattle.plan_format.specs.Plan.{Plan, count, op}
use Rattle.plan_format.specs.Sound.{signals_refusal}
use Rattle.plan_format.specs.Meaning.{signal_at}
use Rattle.plan_format.proofs.RulesFirst.{no_point, signal_inside}
use Rattle.plan_order.specs.Precedence.{Signal, no_signal, signals_from, plan_signals, direct, before, Before}
use Rattle.plan_order.specs.Runs.{enabled, is_run, is_full, ahead, raises_in_order}
use Rattle.plan_order.specs.Holdings.{Ask, met}
use Rattle.plan_order.specs.Handovers.{last_signaller, handover, handovers_from, handovers, disordered}
use Rattle.plan_order.specs.Meaning.{Signals}
use Rattle.plan_order.proofs.Signals.{rises}
use Rattle.plan_order.proofs.SignalPlaces.{signal, Sooner, sooner_low, signal_there, plan_rising}
use Rattle.plan_order.proofs.Resolution.{from_has}
use Rattle.plan_order.proofs.Readiness.{predecessors_run, WaitsGood}
use Rattle.plan_order.proofs.Standard.{full_run, full_has}
use Rattle.plan_order.proofs.Precedence.{At, at_join, unordered}
use Rattle.plan_order.proofs.Keeping.{not_met}
use Rattle.plan_order.proofs.Raises.{InPlanOrder, runs_raise}
use Rattle.plan_order.proofs.RaisesMeaning.{raises_means}
use Rattle.plan_order.proofs.OrderMeaning.{signals_means}
use Rattle.plan_order.proofs.RunMeaning.{step_place}
use Rattle.plan_order.proofs.Handovers.{ask_of, LastBefore, handover_gives, disordered_none, met_at}

module _ (p : Plan) where
  -- ---- handovers that before forces: every signal is in or after the operation of each earlier one of its semaphore
  abbrev Linked : (bs xs : List Signal) → Type 0
  Linked bs xs = (a : Ask) → Memᴰ a (handovers_from bs xs) → At p a.first a.then

  -- the last signaller is at or after each
  abbrev Led : List Signal → Type 0
  Led bs = (z : Signal) → Memᴰ z bs →
      (m : ℕ) × (last_signaller z.semaphore bs ≡ some m) × At p z.operation m

  abbrev Link : List Signal → Signal → Type 0
  Link bs x = (m : ℕ) → last_signaller x.semaphore bs ≡ some m → At p m x.operation

  link_head : (bs : List Signal) (x : Signal) (xs : List Signal) → Linked bs (x ∷ xs) → Link bs x
  unfolding handovers_from handover
  link_head bs x xs h m e =
      let a : Ask = record { first = m; then = x.operation; same_allowed = true } in
      let here : Memᴰ a (handover (last_signaller x.semaphore bs) x) = rw e (mathlib.Core.List.Memᴰ.head refl) in
      h a (mathlib.Core.List.Memᴰ.append_left (handovers_from (x ∷ bs) xs) here)

  link_tail : (bs : List Signal) (x : Signal) (xs : List Signal) → Linked bs (x ∷ xs) → Linked (x ∷ bs) xs
  unfolding handovers_from
  link_tail bs x xs h a m = h a (mathlib.Core.List.Memᴰ.append_right (handover (last_signaller x.semaphore bs) x) m)

  led_cons : (bs : List Signal) (x : Signal) → Led bs → Link bs x → Led (x ∷ bs)
  unfolding last_signaller
  led_cons bs x led link z m =
      by_cases (eqb x.semaphore z.semaphore)
      (λ t. (
        x.operation,
        rw t refl,
        either (mathlib.Core.List.Memᴰ.cases_cons m) (λ q. inl (ap (λ (y : Signal). y.operation) q)) (λ u. let g =
            led z u in
            at_join p z.operation g.0 x.operation g.2 (link g.0
            (subst (λ (s : ℕ). last_signaller s bs ≡ some g.0)
            (sym (eqb-true x.semaphore z.semaphore t)) g.1))),
      ))
      (λ f. either (mathlib.Core.List.Memᴰ.cases_cons m)
      (λ q. absurd (eqb-false x.semaphore z.semaphore f (sym (ap (λ (y : Signal). y.semaphore) q))))
      (λ u. let g = led z u in (g.0, (rw f g.1), g.2)))

  linked_all : (bs xs : List Signal) → Led bs → Linked bs xs → (z y : Signal) → Memᴰ z bs → Memᴰ y xs →
      z.semaphore ≡ y.semaphore → At p z.operation y.operation
  linked_all bs [] led h z y m n e = absurd (mathlib.Core.List.Memᴰ.not-nil n)
  linked_all bs (x ∷ xs) led h z y m n e =
      let link = link_head bs x xs h in
      either (mathlib.Core.List.Memᴰ.cases_cons n)
      (λ q. let g = led z m in
      at_join p z.operation g.0 y.operation g.2
      (subst (λ (k : Signal). At p g.0 k.operation) (sym q) (link g.0
      (subst (λ (s : ℕ). last_signaller s bs ≡ some g.0) (e ∙ ap (λ (k : Signal). k.semaphore) q) g.1))))
      (λ t. linked_all (x ∷ bs) xs (led_cons bs x led link) (link_tail bs x xs h) z y
      (mathlib.Core.List.Memᴰ.tail m) t e)

  linked_pair : (bs xs : List Signal) → Led bs → Linked bs xs → Pairwise Sooner no_signal xs → (z y : Signal) →
      Memᴰ z xs → Memᴰ y xs → z.semaphore ≡ y.semaphore →
      At p z.operation y.operation ⊎ (y.operation ≤ z.operation)
  linked_pair bs [] led h w z y m n e = absurd (mathlib.Core.List.Memᴰ.not-nil m)
  linked_pair bs (x ∷ xs) led h w z y m n e =
      let led' = led_cons bs x led (link_head bs x xs h) in
      either (mathlib.Core.List.Memᴰ.cases_cons n)
      (λ q. inr (subst (λ (k : Signal). k.operation ≤ z.operation) (sym q)
      (either (mathlib.Core.List.Memᴰ.cases_cons m) (λ u. omega (arith, ap (λ (k : Signal). k.operation) u))
      (λ u. sooner_low x z (pairwise_head Sooner no_signal x xs w z u)))))
      (λ t. either (mathlib.Core.List.Memᴰ.cases_cons m)
      (λ q. inl (linked_all (x ∷ bs) xs led' (link_tail bs x xs h) z y (mathlib.Core.List.Memᴰ.head q) t e))
      (λ u. linked_pair (x ∷ bs) xs led' (link_tail bs x xs h) (pairwise_tail Sooner no_signal x xs w) z y u t e))

  -- so operations that signal one semaphore run in plan order
  module _ (asked : (a : Ask) → Memᴰ a (handovers p) → At p a.first a.then) where
    handed_order : InPlanOrder p (enabled p)
    unfolding plan_signals handovers op count
    handed_order r h i k s v w l b e g m =
        let inside : k < length p.operations = run_below (count p) (enabled p) r h k m in
        let x = from_has 0 s v p.operations i b e in
        let y = from_has 0 s w p.operations k inside g in
        either (linked_pair [] (signals_from 0 p.operations) (λ z t. absurd (mathlib.Core.List.Memᴰ.not-nil t)) asked
        (plan_rising p) x.0 y.0 x.1 y.1 (x.3 ∙ sym y.3))
        (λ t. of_at x.0.operation y.0.operation (omega (arith, x.2)) (omega (arith, y.2)) t)
        (λ z. absurd (omega (arith, x.2, y.2)))
      where
        of_at : (a c : ℕ) → a ≡ i → c ≡ k → At p a c → member i r ≡ true
        of_at a c u z (inl q) = absurd (omega arith)
        of_at a c u z (inr q) =
            (chain_steps (count p) (enabled p) (direct p) (predecessors_run p) r i k h m
            (subst₂ (λ (x y : ℕ). Before p x y) u z q)).0

  -- without 7 and 17: every run, full or not
  pub none_raised : (signals_refusal 0 [] p.operations).number ≡ 0 → ◌≡◌ {A = Option ℕ} (disordered p) none →
      (r : List ℕ) → is_run p r ≡ true → raises_in_order p r ≡ true
  unfolding is_run
  none_raised signals_good e r h =
      runs_raise p signals_good (enabled p) (handed_order (λ a m. met_at p a (disordered_none p e a m))) r h

  -- ---- a run with a higher signal at an earlier step than a lower one does not raise in order
  step_at : (g : List ℕ) → is_full p g ≡ true → (i : ℕ) → i < count p →
      (k : ℕ) × (k < length g) × (get_or g k 0 ≡ i) × (step_of 0 g i ≡ k)
  step_at g full i l =
      let w = member_place g i (full_has p g full i l) in (
        w.0,
        w.1,
        w.2,
        subst (λ (z : ℕ). step_of 0 g z ≡ w.0) w.2 (step_place p g (full_run p g full).0 w.0 w.1),
      )

  falls_unraised : (g : List ℕ) → is_full p g ≡ true → (i j s u v : ℕ) → i < count p → j < count p → Signals p i s u →
      Signals p j s v → u < v → step_of 0 g j < step_of 0 g i → raises_in_order p g ≡ false
  falls_unraised g full i j s u v a b low high up soon =
      let x = step_at g full i a in
      let y = step_at g full j b in
      is_false (raises_in_order p g) (λ t.
      let down = ((raises_means p g).0 t).above_earlier_step y.0 x.0 s v u (omega (arith, x.3, y.3)) x.1
      (subst (λ (z : ℕ). Signals p z s v) (sym y.2) high) (subst (λ (z : ℕ). Signals p z s u) (sym x.2) low) in
      omega arith)

  -- ---- what is asked is asked of operations that signal one semaphore, the first not later in plan order
  signal_signals : (y : Signal) → Memᴰ y (plan_signals p) →
      (y.operation < count p) × Signals p y.operation y.semaphore y.value
  unfolding signal
  signal_signals y m =
      let t = signal_there p y m in (
        signal_inside p y.operation y.position t.0,
        (
          signal_at p y.operation y.position,
          mem_at (op p y.operation).signals no_point y.position t.0,
          sym (ap (λ (z : Signal). z.semaphore) t.1),
          sym (ap (λ (z : Signal). z.value) t.1),
        ),
      )

  pub record Hands (a : Ask) : Type 0 where
    pub semaphore : ℕ
    pub low : ℕ
    pub high : ℕ
    pub inside : a.then < count p
    pub in_plan_order : a.first ≤ a.then
    pub same : a.same_allowed ≡ true
    pub first_signals : Signals p a.first semaphore low
    pub then_signals : Signals p a.then semaphore high

  pub hands : (a : Ask) → Memᴰ a (handovers p) → Hands a
  hands a m =
      let w = handover_gives p a m in
      subst (λ (b : Ask). Hands b) (sym w.3) (of_pair w.0 w.1 w.2)
    where
      of_pair : (y x : Signal) → LastBefore (plan_signals p) y x → Hands (ask_of y x)
      of_pair y x b =
          let f = signal_signals y b.earlier_in in
          let t = signal_signals x b.later_in in
          record {
            semaphore = x.semaphore;
            low = y.value;
            high = x.value;
            inside = t.0;
            in_plan_order = sooner_low y x b.sooner;
            same = refl;
            first_signals = subst (λ (s : ℕ). Signals p y.operation s y.value) b.one_semaphore f.1;
            then_signals = t.1;
          }

  -- ---- what before does not force some full run has the other way, and that run does not raise in order
  apart : (a : Ask) → Hands a → met (λ i j. before p i j) a ≡ false →
      (a.first < a.then) × (before p a.first a.then ≡ false)
  unfolding met
  apart a h e =
      by_cases (eqb a.first a.then)
      (λ t. absurd (true≢false (let z : true ≡ false = rw (h.same, t) at e in z)))
      (λ f. (
        omega (arith, h.in_plan_order, eqb-false a.first a.then f),
        (not_met (λ i j. before p i j) (λ i j. before p i j) a e).0,
      ))

  pub record Unraised (a : Ask) : Type 0 where
    pub run : List ℕ
    pub full : is_full p run ≡ true
    pub unraised : raises_in_order p run ≡ false
    pub semaphore : ℕ
    pub low : ℕ
    pub high : ℕ
    pub first_signals : Signals p a.first semaphore low
    pub then_signals : Signals p a.then semaphore high
    pub falls : low < high
    pub too_soon : ahead run a.then a.first ≡ true
    pub unmet : met (λ i j. ahead run i j) a ≡ false

  pub unforced_unraised : (signals_refusal 0 [] p.operations).number ≡ 0 →
      WaitsGood p → (f : List ℕ) → is_full p f ≡ true →
      (a : Ask) → Memᴰ a (handovers p) → met (λ i j. before p i j) a ≡ false → Unraised a
  unforced_unraised signals_good waits_good f full a m e =
      let h = hands a m in
      let u = apart a h e in
      let w = unordered p waits_good f full a.first a.then h.inside (λ q. omega (arith, u.0)) u.1 in
      of_run h u.0 w.0 w.1 w.2
    where
      of_run : Hands a → a.first < a.then → (g : List ℕ) → is_full p g ≡ true →
          step_of 0 g a.then < step_of 0 g a.first → Unraised a
      of_run h l g is soon =
          let up = rises p signals_good a.first a.then h.semaphore h.low h.high l h.inside
          ((signals_means p a.first h.semaphore h.low).1 h.first_signals)
          ((signals_means p a.then h.semaphore h.high).1 h.then_signals) in
          record {
            run = g;
            full = is;
            unraised = falls_unraised g is a.first a.then h.semaphore h.low h.high
                (omega (arith, h.inside)) h.inside h.first_signals h.then_signals up soon;
            semaphore = h.semaphore;
            low = h.low;
            high = h.high;
            first_signals = h.first_signals;
            then_signals = h.then_signals;
            falls = up;
            too_soon = unfold ahead in (lt-ltb (step_of 0 g a.then) (step_of 0 g a.first) soon);
            unmet = (not_met (λ i j. before p i j) (λ i j. ahead g i j) a e).1
                (unfold ahead in (le-ltb (step_of 0 g a.first) (step_of 0 g a.then) (omega arith)));
          }
