-- Signals, what a wait resolves to, and what is directly before what, by quantifiers. Assumes nothing.
use mathlib.Core.Path.{◌≡◌, refl, sym, ap, ◌∙◌, subst}
use mathlib.Core.Bool.{true, false≢true}
use mathlib.Core.Logic.{◌⊎◌, inl, inr, ◌↔◌}
use mathlib.Core.List.Memᴰ
use mathlib.Core.List.{List, [], ◌∷◌, Memᴰ}
use Prim.Native.Nat.{ℕ, ◌<◌}
use native.Mathlib.Omega.{arith}
use Rattle.base_lists.proofs.Tests.{either}
use Rattle.plan_format.specs.Plan.{Point, Plan, count, op}
use Rattle.plan_order.specs.Precedence.{Signal, resolve, rests_on, direct}
use Rattle.plan_order.specs.Meaning.{Signals, Resolves, Directly}
use Rattle.plan_order.proofs.Signals.{signals_value, value_here, value_there, value_cons, value_inside}
use Rattle.plan_order.proofs.Resolution.{Rests, rests_gives, rests_somewhere, rests_it}
use Rattle.plan_order.proofs.Readiness.{Why, by_queue, by_wait, direct_below, direct_why, direct_by}

-- ---- signals of an operation, as a test and by membership
value_in : (s v : ℕ) (xs : List Point) → signals_value s v xs ≡ true →
    (x : Point) × Memᴰ x xs × (x.semaphore ≡ s) × (x.value ≡ v)
unfolding signals_value
value_in s v [] h = absurd (false≢true h)
value_in s v (x ∷ xs) h =
    either (value_cons s v x xs h) (λ d. (x, Memᴰ.head refl, d.0, d.1))
    (λ t. let w = value_in s v xs t in (w.0, Memᴰ.tail w.1, w.2, w.3))

in_value : (s v : ℕ) (xs : List Point) (x : Point) → Memᴰ x xs → x.semaphore ≡ s → x.value ≡ v →
    signals_value s v xs ≡ true
in_value s v [] x m a b = absurd (Memᴰ.not-nil m)
in_value s v (y ∷ ys) x m a b =
    either (Memᴰ.cases_cons m)
    (λ e. value_here s v y ys (ap (λ (z : Point). z.semaphore) (sym e) ∙ a) (ap (λ (z : Point). z.value) (sym e) ∙ b))
    (λ t. value_there s v y ys (in_value s v ys x t a b))

module _ (p : Plan) where
  pub signals_means : (i s v : ℕ) → (signals_value s v (op p i).signals ≡ true) ↔ Signals p i s v
  signals_means i s v =
      (value_in s v (op p i).signals, (λ w. in_value s v (op p i).signals w.0 w.1 w.2 w.3))

  signals_inside : (i s v : ℕ) → Signals p i s v → i < count p
  unfolding op count
  signals_inside i s v w = value_inside s v p.operations i ((signals_means i s v).1 w)

  -- ---- what a wait rests on
  rests_resolves : (w : Point) (x : Signal) → Rests p w x → Resolves p w x.operation
  rests_resolves w x t = record {
    value = x.value;
    signalled = (signals_means x.operation w.semaphore x.value).0 t.signalled;
    enough = t.enough;
    least = λ k v s h. t.least k v (signals_inside k w.semaphore v s) ((signals_means k w.semaphore v).1 s) h;
    first = λ k s. t.first k (signals_inside k w.semaphore x.value s)
        ((signals_means k w.semaphore x.value).1 s);
  }

  -- of the signals with the least value that is enough, the first
  resolves_one : (w : Point) (i j : ℕ) → Resolves p w i → Resolves p w j → i ≡ j
  resolves_one w i j a b =
      let x = a.least j b.value b.signalled b.enough in
      let y = b.least i a.value a.signalled a.enough in
      let e : a.value ≡ b.value = omega arith in
      let low = a.first j (subst (λ (z : ℕ). Signals p j w.semaphore z) (sym e) b.signalled) in
      let high = b.first i (subst (λ (z : ℕ). Signals p i w.semaphore z) e a.signalled) in
      omega arith

  pub rests_means : (w : Point) (i : ℕ) → (rests_on (resolve p w) i ≡ true) ↔ Resolves p w i
  rests_means w i = (
    (λ e. let g = rests_gives p w i e in subst (λ (z : ℕ). Resolves p w z) g.2 (rests_resolves w g.0 g.1)),
    (λ r.
        let x = rests_somewhere p w i r.value
        (signals_inside i w.semaphore r.value r.signalled)
        ((signals_means i w.semaphore r.value).1 r.signalled) r.enough in
        subst (λ (z : ℕ). rests_on (resolve p w) z ≡ true)
        (resolves_one w x.0.operation i (rests_resolves w x.0 x.1) r) (rests_it p w x.0 x.2)),
  )

  -- ---- directly before
  pub direct_means : (i j : ℕ) → (direct p i j ≡ true) ↔ Directly p i j
  direct_means i j = (
    (λ e. record { operations = direct_below p i j e; why = of_why (direct_why p i j e) }),
    (λ d. direct_by p i j d.operations.0 d.operations.1
        (either d.why (λ w. by_queue w.0 w.1)
        (λ w. by_wait w.0 w.1 ((rests_means w.0 i).1 w.2)))),
  )
    where
      of_why : Why p i j → ((i < j) × ((op p i).queue ≡ (op p j).queue)) ⊎
          ((w : Point) × Memᴰ w (op p j).waits × Resolves p w i)
      of_why (by_queue l q) = inl (l, q)
      of_why (by_wait w m t) = inr (w, m, (rests_means w i).0 t)
