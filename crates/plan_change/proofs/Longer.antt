-- One operation more at the end, which signals nothing: its operations, what waits rest on, and what is before what.
-- Assumes nothing.
use mathlib.Core.Path.{◌≡◌, refl, sym, ap, ◌∙◌, subst}
use mathlib.Core.Bool.{true}
use mathlib.Core.Logic.{◌⊎◌, inl, inr, ◌↔◌}
use mathlib.Core.List.{List, [], ◌∷◌, ◌++◌, Memᴰ}
use Prim.Native.Nat.{ℕ, suc, ◌<◌}
use native.Mathlib.Omega.{arith}
use lib.ListN.{length-append, get_or-append}
use lib.Seq.{get_or-append_seam}
use Rattle.order.specs.Closure.{once, more}
use Rattle.plan_format.specs.Plan.{Point, Operation, Plan, empty_operation, count, op}
use Rattle.plan_order.specs.Precedence.{Signal, signals_of, signals_from, plan_signals, Resolution, resolve, rests_on}
use Rattle.plan_order.specs.Precedence.{direct, Before}
use Rattle.plan_order.proofs.Readiness.{Why, by_queue, by_wait, direct_why, direct_by, direct_below}
use Rattle.plan_order.proofs.Resolution.{rests_gives}
use Rattle.plan_change.specs.Longer.{with_last, waiting}

abbrev queue_of : Operation → ℕ
queue_of o = o.queue

signals_last : (i : ℕ) (os : List Operation) (o : Operation) → o.signals ≡ [] →
    signals_from i (os ++ (o ∷ [])) ≡ signals_from i os
unfolding signals_from signals_of
signals_last i [] o e = rw e
signals_last i (x ∷ xs) o e =
    ap {B = List Signal} (λ z. signals_of i 0 x.signals ++ z) (signals_last (suc i) xs o e)

-- ---- its operations
module _ (p : Plan) (o : Operation) where
  pub last_count : count (with_last p o) ≡ suc (count p)
  unfolding count with_last
  last_count = rw length-append (omega arith)

  pub last_same : (j : ℕ) → j < count p → op (with_last p o) j ≡ op p j
  unfolding op count with_last
  last_same j l = get_or-append p.operations (o ∷ []) empty_operation j l

  pub last_op : op (with_last p o) (count p) ≡ o
  unfolding op count with_last
  last_op = get_or-append_seam p.operations o [] empty_operation

module _ (p : Plan) (o : Operation) (silent : o.signals ≡ []) where
  abbrev grown : Plan
  grown = with_last p o

  -- ---- the same signals, and so what a wait rests on
  pub last_signals : plan_signals grown ≡ plan_signals p
  unfolding plan_signals with_last
  last_signals = signals_last 0 p.operations o silent

  pub last_resolves : (w : Point) → resolve grown w ≡ resolve p w
  unfolding resolve
  last_resolves w = rw last_signals

  rests_there : (w : Point) (i : ℕ) → rests_on (resolve grown w) i ≡ true → rests_on (resolve p w) i ≡ true
  rests_there w i t = subst (λ (z : Resolution). rests_on z i ≡ true) (last_resolves w) t

  rests_here : (w : Point) (i : ℕ) → rests_on (resolve p w) i ≡ true → rests_on (resolve grown w) i ≡ true
  rests_here w i t = subst (λ (z : Resolution). rests_on z i ≡ true) (sym (last_resolves w)) t

  -- a wait rests on an operation of the shorter plan
  rests_inside : (w : Point) (i : ℕ) → rests_on (resolve p w) i ≡ true → i < count p
  rests_inside w i t = let g = rests_gives p w i t in subst (λ (z : ℕ). z < count p) g.2 g.1.inside

  -- ---- among the others nothing changes
  direct_to : (i j : ℕ) → j < count p → direct grown i j ≡ true → direct p i j ≡ true
  direct_to i j l e = of (direct_why grown i j e)
    where
      of : Why grown i j → direct p i j ≡ true
      of (by_queue b q) =
          direct_by p i j (omega arith) l
          (by_queue b (ap queue_of (sym (last_same p o i (omega arith))) ∙ q ∙ ap queue_of (last_same p o j l)))
      of (by_wait w m t) =
          let t' = rests_there w i t in
          direct_by p i j (rests_inside w i t') l
          (by_wait w (subst (λ (z : Operation). Memᴰ w z.waits) (last_same p o j l) m) t')

  direct_from : (i j : ℕ) → direct p i j ≡ true → direct grown i j ≡ true
  direct_from i j e = of (direct_below p i j e).0 (direct_below p i j e).1 (direct_why p i j e)
    where
      of : i < count p → j < count p → Why p i j → direct grown i j ≡ true
      of a b (by_queue c q) =
          direct_by grown i j (omega (arith, last_count p o)) (omega (arith, last_count p o))
          (by_queue c (ap queue_of (last_same p o i a) ∙ q ∙ ap queue_of (sym (last_same p o j b))))
      of a b (by_wait w m t) =
          direct_by grown i j (omega (arith, last_count p o)) (omega (arith, last_count p o))
          (by_wait w (subst (λ (z : Operation). Memᴰ w z.waits) (sym (last_same p o j b)) m) (rests_here w i t))

  old_to : (i j : ℕ) → j < count p → Before grown i j → Before p i j
  old_to i j l (once _ _ e) = once i j (direct_to i j l e)
  old_to i j l (more _ k _ c e) =
      let d = direct_to k j l e in more i k j (old_to i k (direct_below p k j d).0 c) d

  pub old_from : (i j : ℕ) → Before p i j → Before grown i j
  old_from i j (once _ _ e) = once i j (direct_from i j e)
  old_from i j (more _ k _ c e) = more i k j (old_from i k c) (direct_from k j e)

  pub old_before : (i j : ℕ) → j < count p → Before grown i j ↔ Before p i j
  old_before i j l = (old_to i j l, old_from i j)

  -- ---- the new one
  -- what is directly before it: an operation of its queue, or one that a wait of it rests on
  pub data Because (k : ℕ) : Type 0 where
    same_queue : (op p k).queue ≡ o.queue → Because k
    waited_for : (w : Point) → Memᴰ w o.waits → rests_on (resolve p w) k ≡ true → Because k

  -- what is before it is at or before one of these
  abbrev pub BeforeLast : (i : ℕ) → Type 0
  BeforeLast i = (k : ℕ) × (k < count p) × Because k × ((i ≡ k) ⊎ Before p i k)

  because : (k : ℕ) → direct grown k (count p) ≡ true → (k < count p) × Because k
  because k e = of (direct_why grown k (count p) e)
    where
      of : Why grown k (count p) → (k < count p) × Because k
      of (by_queue b q) =
          (b, same_queue (ap queue_of (sym (last_same p o k b)) ∙ q ∙ ap queue_of (last_op p o)))
      of (by_wait w m t) =
          let t' = rests_there w k t in (
            rests_inside w k t',
            waited_for w (subst (λ (z : Operation). Memᴰ w z.waits) (last_op p o) m) t',
          )

  because_direct : (k : ℕ) → k < count p → Because k → direct grown k (count p) ≡ true
  because_direct k l (same_queue q) =
      direct_by grown k (count p) (omega (arith, last_count p o)) (omega (arith, last_count p o))
      (by_queue l (ap queue_of (last_same p o k l) ∙ q ∙ ap queue_of (sym (last_op p o))))
  because_direct k l (waited_for w m t) =
      direct_by grown k (count p) (omega (arith, last_count p o)) (omega (arith, last_count p o))
      (by_wait w (subst (λ (z : Operation). Memᴰ w z.waits) (sym (last_op p o)) m) (rests_here w k t))

  new_to : (i n : ℕ) → n ≡ count p → Before grown i n → BeforeLast i
  new_to i n q (once _ _ e) =
      let b = because i (subst (λ (z : ℕ). direct grown i z ≡ true) q e) in (i, b.0, b.1, inl refl)
  new_to i n q (more _ k _ c e) =
      let b = because k (subst (λ (z : ℕ). direct grown k z ≡ true) q e) in (k, b.0, b.1, inr (old_to i k b.0 c))

  new_from : (i k : ℕ) → k < count p → Because k → (i ≡ k) ⊎ Before p i k → Before grown i (count p)
  new_from i k l b (inl q) =
      once i (count p) (subst (λ (z : ℕ). direct grown z (count p) ≡ true) (sym q) (because_direct k l b))
  new_from i k l b (inr c) = more i k (count p) (old_from i k c) (because_direct k l b)

  pub new_before : (i : ℕ) → Before grown i (count p) ↔ BeforeLast i
  new_before i = (new_to i (count p) refl, λ w. new_from i w.0 w.1 w.2 w.3)

-- ---- an operation that only waits
pub waiting_silent : (q : ℕ) (w : Point) → (waiting q w).signals ≡ []
unfolding waiting
waiting_silent q w = refl

pub waiting_unmarked : (q : ℕ) (w : Point) → (waiting q w).marks ≡ []
unfolding waiting
waiting_unmarked q w = refl
