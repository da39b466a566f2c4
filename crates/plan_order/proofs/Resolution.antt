-- What a wait resolves to: the least signal that is high enough, or never. Assumes nothing.
use mathlib.Core.Path.{◌≡◌, refl, sym, ap, ◌∙◌, subst}
use mathlib.Core.Bool.{true, false, false≢true}
use mathlib.Core.Logic.{◌⊎◌, inl, inr}
use mathlib.Core.List.Memᴰ
use mathlib.Core.List.{List, [], ◌∷◌, Memᴰ}
use mathlib.Core.Option.{Option, none, some}
use Prim.Native.Nat.{ℕ, zero, suc, ◌+◌, ◌-◌, ◌≤◌, ◌<◌}
use native.Mathlib.Nat.{le_of_suc-le-suc, not-suc-le-zero, le_refl}
use native.Mathlib.Omega.{arith}
use lib.Dec.{ltb, leb, eqb}
use lib.ListN.{length, get_or}
use borrow.Author.Tests.{ltb-true, ltb-false, leb-true, le-leb, eqb-true, eq-eqb}
use Rattle.base_lists.proofs.Tests.{by_cases, by_option, clash, and_left, and_right, and_both, either}
use Rattle.base_lists.proofs.Pairwise.{Pairwise, pairwise_head, pairwise_tail}
use Rattle.plan_format.specs.Plan.{Point, Operation, Plan, empty_operation, count, op}
use Rattle.plan_order.specs.Precedence.{Signal, no_signal, signals_of, signals_from, plan_signals, reaches}
use Rattle.plan_order.specs.Precedence.{nearer, nearest}
use Rattle.plan_order.specs.Precedence.{Resolution, on, never, resolution_of, resolve, rests_on}
use Rattle.plan_order.proofs.Signals.{signals_value, value_here, value_there, value_cons}
use Rattle.plan_order.proofs.SignalPlaces.{Sooner, sooner_low, plan_rising}

abbrev pub no_point : Point
no_point = record { semaphore = 0; value = 0 }

-- ---- a list of signals has just those of its operations
pub record SignalAt (i k : ℕ) (xs : List Point) (y : Signal) : Type 0 where
  pub by_it : y.operation ≡ i
  pub low : k ≤ y.position
  pub high : y.position < length xs + k
  pub semaphore_there : (get_or xs (y.position - k) no_point).semaphore ≡ y.semaphore
  pub value_there_is : (get_or xs (y.position - k) no_point).value ≡ y.value

of_signal_at : (i k : ℕ) (xs : List Point) (y : Signal) → Memᴰ y (signals_of i k xs) → SignalAt i k xs y
unfolding signals_of
of_signal_at i k [] y m = absurd (Memᴰ.not-nil m)
of_signal_at i k (x ∷ xs) y m =
    either (Memᴰ.cases_cons m)
    (λ e. let o : y.operation ≡ i = ap (λ (z : Signal). z.operation) e in
    let q : y.position ≡ k = ap (λ (z : Signal). z.position) e in
    let here : y.position - k ≡ 0 = omega arith in
    record {
      by_it = o;
      low = omega arith;
      high = omega arith;
      semaphore_there = ap (λ (n : ℕ). (get_or (x ∷ xs) n no_point).semaphore) here
          ∙ sym (ap (λ (z : Signal). z.semaphore) e);
      value_there_is = ap (λ (n : ℕ). (get_or (x ∷ xs) n no_point).value) here ∙ sym (ap (λ (z : Signal). z.value) e);
    })
    (λ t. let w = of_signal_at i (suc k) xs y t in
    let next_one : y.position - k ≡ suc (y.position - suc k) = omega (arith, w.low) in
    record {
      by_it = w.by_it;
      low = omega (arith, w.low);
      high = omega (arith, w.high);
      semaphore_there = ap (λ (n : ℕ). (get_or (x ∷ xs) n no_point).semaphore) next_one ∙ w.semaphore_there;
      value_there_is = ap (λ (n : ℕ). (get_or (x ∷ xs) n no_point).value) next_one ∙ w.value_there_is;
    })

of_has : (i k s v : ℕ) (xs : List Point) → signals_value s v xs ≡ true →
    (y : Signal) × Memᴰ y (signals_of i k xs) × (y.operation ≡ i) × (y.semaphore ≡ s) × (y.value ≡ v)
unfolding signals_of
of_has i k s v [] h = absurd (false≢true (unfold signals_value in h))
of_has i k s v (x ∷ xs) h =
    either (value_cons s v x xs h)
    (λ e. (
      record { operation = i; position = k; semaphore = x.semaphore; value = x.value },
      Memᴰ.head refl,
      refl,
      e.0,
      e.1,
    ))
    (λ t. let w = of_has i (suc k) s v xs t in (w.0, Memᴰ.tail w.1, w.2, w.3, w.4))

value_at : (s v : ℕ) (xs : List Point) (k : ℕ) → k < length xs → (get_or xs k no_point).semaphore ≡ s →
    (get_or xs k no_point).value ≡ v → signals_value s v xs ≡ true
value_at s v [] k l a b = absurd (not-suc-le-zero l)
value_at s v (x ∷ xs) zero l a b = value_here s v x xs a b
value_at s v (x ∷ xs) (suc k) l a b = value_there s v x xs (value_at s v xs k (le_of_suc-le-suc l) a b)

-- a signal is where it says: its operation, its position there, its semaphore and value
pub record Signalled (os : List Operation) (i : ℕ) (y : Signal) : Type 0 where
  pub low : i ≤ y.operation
  pub high : y.operation < length os + i
  pub listed : SignalAt y.operation 0 (get_or os (y.operation - i) empty_operation).signals y

from_signalled : (i : ℕ) (os : List Operation) (y : Signal) → Memᴰ y (signals_from i os) → Signalled os i y
unfolding signals_from
from_signalled i [] y m = absurd (Memᴰ.not-nil m)
from_signalled i (o ∷ os) y m =
    either (Memᴰ.append_cases (signals_of i 0 o.signals) m)
    (λ t. let w = of_signal_at i 0 o.signals y t in
    let here : 0 ≡ y.operation - i = omega (arith, w.by_it) in
    record {
      low = omega (arith, w.by_it);
      high = omega (arith, w.by_it);
      listed = subst (λ (n : ℕ). SignalAt y.operation 0 (get_or (o ∷ os) n empty_operation).signals y) here
          (subst (λ (n : ℕ). SignalAt n 0 o.signals y) (sym w.by_it) w);
    })
    (λ t. let w = from_signalled (suc i) os y t in
    let further : suc (y.operation - suc i) ≡ y.operation - i = omega (arith, w.low) in
    record {
      low = omega (arith, w.low);
      high = omega (arith, w.high);
      listed = subst (λ (n : ℕ). SignalAt y.operation 0 (get_or (o ∷ os) n empty_operation).signals y) further
          w.listed;
    })

pub from_has : (i s v : ℕ) (os : List Operation) (k : ℕ) → k < length os →
    signals_value s v (get_or os k empty_operation).signals ≡ true →
    (y : Signal) × Memᴰ y (signals_from i os) × (y.operation ≡ i + k) × (y.semaphore ≡ s) × (y.value ≡ v)
unfolding signals_from
from_has i s v [] k l h = absurd (not-suc-le-zero l)
from_has i s v (o ∷ os) zero l h =
    let w = of_has i 0 s v o.signals h in
    (w.0, Memᴰ.append_left (signals_from (suc i) os) w.1, omega (arith, w.2), w.3, w.4)
from_has i s v (o ∷ os) (suc k) l h =
    let w = from_has (suc i) s v os k (le_of_suc-le-suc l) h in
    (w.0, Memᴰ.append_right (signals_of i 0 o.signals) w.1, omega (arith, w.2), w.3, w.4)

-- ---- the nearest of a list
nearer_value : (x y : Signal) →
    ((nearer x (some y)).value ≤ x.value) × ((nearer x (some y)).value ≤ y.value) ×
    ((nearer x (some y) ≡ x) ⊎ (nearer x (some y) ≡ y))
unfolding nearer
nearer_value x y =
    by_cases (ltb y.value x.value)
    (λ t. rw t (omega (arith, ltb-true y.value x.value t), le_refl y.value, inr refl))
    (λ f. rw f (le_refl x.value, ltb-false y.value x.value f, inl refl))

pub record Nearest (w : Point) (xs : List Signal) (x : Signal) : Type 0 where
  pub among : Memᴰ x xs
  pub reaching : reaches w x ≡ true
  pub least : (y : Signal) → Memᴰ y xs → reaches w y ≡ true → x.value ≤ y.value

nearest_none : (w : Point) (xs : List Signal) → ◌≡◌ {A = Option Signal} (nearest w xs) none → (y : Signal) →
    Memᴰ y xs → reaches w y ≡ false
unfolding nearest
nearest_none w [] e y m = absurd (Memᴰ.not-nil m)
nearest_none w (x ∷ xs) e y m =
    by_cases (reaches w x)
    (λ t.
    absurd (let z : some (nearer x (nearest w xs)) ≡ none = rw t at e in let q : ◌≡◌ {A = ℕ} 0 1 = cc in omega arith))
    (λ f. either (Memᴰ.cases_cons m) (λ q. ap (λ (z : Signal). reaches w z) q ∙ f)
    (λ t. nearest_none w xs (rw f at e) y t))

nearest_some : (w : Point) (xs : List Signal) (x : Signal) → nearest w xs ≡ some x → Nearest w xs x
unfolding nearest nearer
nearest_some w [] x e = absurd (let q : ◌≡◌ {A = ℕ} 0 1 = cc in omega arith)
nearest_some w (y ∷ ys) x e =
    by_cases (reaches w y)
    (λ t. by_option (nearest w ys)
    (λ n. let same : y ≡ x = let e' : some y ≡ some x = rw (t, n) at e in cc in
    subst (λ (z : Signal). Nearest w (y ∷ ys) z) same (record {
      among = Memᴰ.head refl;
      reaching = t;
      least = λ z m r. either (Memᴰ.cases_cons m) (λ q. omega (arith, ap (λ (u : Signal). u.value) q))
          (λ m'. clash (reaches w z) r (nearest_none w ys n z m'));
    }))
    (λ b n. let same : nearer y (some b) ≡ x = let e' : some (nearer y (some b)) ≡ some x = rw (t, n) at e in cc in
    let ih = nearest_some w ys b n in
    let v = nearer_value y b in
    subst (λ (z : Signal). Nearest w (y ∷ ys) z) same (record {
      among = either v.2 (λ q. Memᴰ.head q)
          (λ q. Memᴰ.tail (subst (λ (z : Signal). Memᴰ z ys) (sym q) ih.among));
      reaching = either v.2 (λ q. ap (λ (z : Signal). reaches w z) q ∙ t)
          (λ q. ap (λ (z : Signal). reaches w z) q ∙ ih.reaching);
      least = λ z m r. either (Memᴰ.cases_cons m) (λ q. omega (arith, v.0, ap (λ (u : Signal). u.value) q))
          (λ m'. omega (arith, v.1, ih.least z m' r));
    })))
    (λ f. let ih = nearest_some w ys x (rw f at e) in
    record {
      among = Memᴰ.tail ih.among;
      reaching = ih.reaching;
      least = λ z m r. either (Memᴰ.cases_cons m)
          (λ q. clash (reaches w z) r (ap (λ (u : Signal). reaches w u) q ∙ f)) (λ m'. ih.least z m' r);
    })

-- of signals in plan order, the first of those with the least value
nearest_first : (w : Point) (xs : List Signal) (x : Signal) → Pairwise Sooner no_signal xs → nearest w xs ≡ some x →
    (y : Signal) → Memᴰ y xs → reaches w y ≡ true → y.value ≡ x.value → x.operation ≤ y.operation
unfolding nearest nearer
nearest_first w [] x rise e y m r v = absurd (Memᴰ.not-nil m)
nearest_first w (z ∷ zs) x rise e y m r v =
    by_cases (reaches w z)
    (λ t. by_option (nearest w zs)
    (λ n. here (let e' : some z ≡ some x = rw (t, n) at e in cc))
    (λ b n. by_cases (ltb b.value z.value)
    (λ u. let same : b ≡ x = let e' : some b ≡ some x = rw (t, n, u) at e in cc in
    either (Memᴰ.cases_cons m)
    (λ q. absurd (omega (
      arith,
      v,
      ltb-true b.value z.value u,
      ap (λ (k : Signal). k.value) q,
      ap (λ (k : Signal). k.value) same,
    )))
    (λ m'. nearest_first w zs x (pairwise_tail Sooner no_signal z zs rise) (n ∙ ap some same) y m' r v))
    (λ u. here (let e' : some z ≡ some x = rw (t, n, u) at e in cc))))
    (λ f. either (Memᴰ.cases_cons m) (λ q. clash (reaches w y) r (ap (λ (k : Signal). reaches w k) q ∙ f))
    (λ m'. nearest_first w zs x (pairwise_tail Sooner no_signal z zs rise) (rw f at e) y m' r v))
  where
    here : z ≡ x → x.operation ≤ y.operation
    here q =
        either (Memᴰ.cases_cons m)
        (λ s. omega (arith, ap (λ (k : Signal). k.operation) s, ap (λ (k : Signal). k.operation) q))
        (λ m'. omega (
          arith,
          sooner_low z y (pairwise_head Sooner no_signal z zs rise y m'),
          ap (λ (k : Signal). k.operation) q,
        ))

pub reaches_by : (w : Point) (y : Signal) → y.semaphore ≡ w.semaphore → w.value ≤ y.value → reaches w y ≡ true
unfolding reaches
reaches_by w y a b =
    and_both (eqb y.semaphore w.semaphore) (leb w.value y.value) (eq-eqb y.semaphore w.semaphore a)
    (le-leb w.value y.value b)

-- ---- what resolution says
pub record Rests (p : Plan) (w : Point) (x : Signal) : Type 0 where
  pub inside : x.operation < count p
  pub place_inside : x.position < length (op p x.operation).signals
  pub semaphore_there : (get_or (op p x.operation).signals x.position no_point).semaphore ≡ w.semaphore
  pub value_there_is : (get_or (op p x.operation).signals x.position no_point).value ≡ x.value
  pub signalled : signals_value w.semaphore x.value (op p x.operation).signals ≡ true
  pub enough : w.value ≤ x.value
  pub least : (i v : ℕ) → i < count p → signals_value w.semaphore v (op p i).signals ≡ true →
      w.value ≤ v → x.value ≤ v
  pub first : (i : ℕ) → i < count p → signals_value w.semaphore x.value (op p i).signals ≡ true →
      x.operation ≤ i

pub data ResolutionCase (p : Plan) (w : Point) : Resolution → Type 0 where
  at_signal : (x : Signal) → Rests p w x → ResolutionCase p w (on x)
  at_none : ((i v : ℕ) → i < count p → signals_value w.semaphore v (op p i).signals ≡ true → v < w.value) →
      ResolutionCase p w never

module _ (p : Plan) (w : Point) where
  rests : (x : Signal) → nearest w (plan_signals p) ≡ some x → Rests p w x
  unfolding plan_signals op count reaches
  rests x e =
      let n = nearest_some w (plan_signals p) x e in
      let s = from_signalled 0 p.operations x n.among in
      let st = s.listed in
      let r = n.reaching in
      let sem = eqb-true x.semaphore w.semaphore
      (and_left (eqb x.semaphore w.semaphore) (leb w.value x.value) r) in
      let at_it : x.operation - 0 ≡ x.operation = omega arith in
      let in_it : x.position - 0 ≡ x.position = omega arith in
      let whole : SignalAt x.operation 0 (op p x.operation).signals x =
      subst (λ (k : ℕ). SignalAt x.operation 0 (get_or p.operations k empty_operation).signals x) at_it st in
      let sem_at : (get_or (op p x.operation).signals x.position no_point).semaphore ≡ w.semaphore =
      ap (λ (k : ℕ). (get_or (op p x.operation).signals k no_point).semaphore) (sym in_it)
      ∙ whole.semaphore_there ∙ sem in
      let val_at : (get_or (op p x.operation).signals x.position no_point).value ≡ x.value =
      ap (λ (k : ℕ). (get_or (op p x.operation).signals k no_point).value) (sym in_it) ∙ whole.value_there_is in
      let inside_it : x.position < length (op p x.operation).signals = omega (arith, whole.high) in
      record {
        inside = omega (arith, s.high);
        place_inside = inside_it;
        semaphore_there = sem_at;
        value_there_is = val_at;
        signalled = value_at w.semaphore x.value (op p x.operation).signals
            x.position inside_it sem_at val_at;
        enough = leb-true w.value x.value
            (and_right (eqb x.semaphore w.semaphore) (leb w.value x.value) r);
        least = λ i v l g h. let y = from_has 0 w.semaphore v p.operations i l g in
            omega (arith, y.4, n.least y.0 y.1 (reaches_by w y.0 y.3 (omega (arith, y.4))));
        first = λ i l g. let y = from_has 0 w.semaphore x.value p.operations i l g in
            let low = leb-true w.value x.value
            (and_right (eqb x.semaphore w.semaphore) (leb w.value x.value) r) in
            omega (
              arith,
              y.2,
              nearest_first w (plan_signals p) x (plan_rising p) e y.0 y.1
                  (reaches_by w y.0 y.3 (omega (arith, y.4))) y.4,
            );
      }

  never_rests : ◌≡◌ {A = Option Signal} (nearest w (plan_signals p)) none → (i v : ℕ) → i < count p →
      signals_value w.semaphore v (op p i).signals ≡ true → v < w.value
  unfolding plan_signals op count
  never_rests e i v l g =
      let y = from_has 0 w.semaphore v p.operations i l g in
      by_cases (ltb v w.value) (λ t. ltb-true v w.value t)
      (λ f. clash (reaches w y.0) (reaches_by w y.0 y.3 (omega (arith, y.4, ltb-false v w.value f)))
      (nearest_none w (plan_signals p) e y.0 y.1))

  pub resolve_is : ResolutionCase p w (resolve p w)
  unfolding resolve resolution_of
  resolve_is =
      by_option (nearest w (plan_signals p)) (λ n. rw n (at_none (never_rests n)))
      (λ x n. rw n (at_signal x (rests x n)))

  -- the signal that it resolves to is one of the plan, and reaches the wait
  pub resolved_signal : (x : Signal) → resolve p w ≡ on x → Memᴰ x (plan_signals p) × (reaches w x ≡ true)
  unfolding resolve resolution_of
  resolved_signal x e =
      by_option (nearest w (plan_signals p))
      (λ n. let z : never ≡ on x = rw n at e in absurd (let q : ◌≡◌ {A = ℕ} 0 1 = cc in omega arith))
      (λ y n. let z : on y ≡ on x = rw n at e in
      let same : y ≡ x = cc in
      let s = nearest_some w (plan_signals p) x (n ∙ ap some same) in (s.among, s.reaching))

  -- what a wait rests on
  pub rests_gives : (i : ℕ) → rests_on (resolve p w) i ≡ true → (x : Signal) × Rests p w x × (x.operation ≡ i)
  rests_gives i e = rests_of (resolve p w) resolve_is i e
    where
      rests_of : (r : Resolution) → ResolutionCase p w r → (i : ℕ) → rests_on r i ≡ true →
          (x : Signal) × Rests p w x × (x.operation ≡ i)
      rests_of (on x) (at_signal _ t) i e = (x, t, eqb-true x.operation i (unfold rests_on in e))
      rests_of never d i e = absurd (false≢true (unfold rests_on in e))

  -- a wait that some signal reaches rests on an operation
  pub rests_somewhere : (k v : ℕ) → k < count p →
      signals_value w.semaphore v (op p k).signals ≡ true → w.value ≤ v →
      (x : Signal) × Rests p w x × (resolve p w ≡ on x)
  rests_somewhere k v l g h = rests_of (resolve p w) resolve_is refl
    where
      rests_of : (r : Resolution) → ResolutionCase p w r → resolve p w ≡ r →
          (x : Signal) × Rests p w x × (resolve p w ≡ on x)
      rests_of (on x) (at_signal _ t) e = (x, t, e)
      rests_of never (at_none none_such) e = absurd (omega (arith, none_such k v l g))

  pub rests_it : (x : Signal) → resolve p w ≡ on x → rests_on (resolve p w) x.operation ≡ true
  unfolding rests_on
  rests_it x e = rw e (eq-eqb x.operation x.operation refl)
