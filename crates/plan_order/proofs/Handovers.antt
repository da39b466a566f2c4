-- Handovers: one for each signal but the first of its semaphore, of the signal before it; where before forces them,
-- operations that signal one semaphore run in plan order. Assumes nothing.
use mathlib.Core.Path.{◌≡◌, refl, sym, ap, ◌∙◌, subst}
use mathlib.Core.Bool.{Bool, true, false, ◌&&◌, ◌||◌, not, true≢false}
use mathlib.Core.Logic.{◌⊎◌, inl, inr}
use mathlib.Core.List.Memᴰ
use mathlib.Core.List.{List, [], ◌∷◌, Memᴰ}
use mathlib.Core.Option.{Option, none, some}
use Prim.Native.Nat.{ℕ, ◌<◌}
use native.Mathlib.Omega.{arith}
use lib.Dec.{eqb}
use borrow.Author.Tests.{eqb-true, eqb-false, eq-eqb, not-true, not-false}
use Rattle.base_lists.specs.Lists.{all}
use Rattle.base_lists.proofs.Tests.{by_cases, by_option, clash, and_right, or_cases, or_right, either}
use Rattle.base_lists.proofs.Searches.{all_gives, all_fails, lowest_some, lowest_none}
use Rattle.base_lists.proofs.Pairwise.{Pairwise, pairwise_nil, pairwise_cons, pairwise_head, pairwise_tail}
use Rattle.plan_format.specs.Plan.{Plan, count}
use Rattle.plan_format.proofs.RulesFirst.{signal_inside}
use Rattle.plan_order.specs.Precedence.{Signal, no_signal, plan_signals, before}
use Rattle.plan_order.specs.Holdings.{Ask, met}
use Rattle.plan_order.specs.Handovers.{last_signaller, handover, handovers_from, handovers, out_of_turn}
use Rattle.plan_order.specs.Handovers.{disordered}
use Rattle.plan_order.proofs.SignalPlaces.{Sooner, sooner_once, signal_there, plan_rising}
use Rattle.plan_order.proofs.Precedence.{before_chain, chain_before, At}

-- what is asked of two signals
abbrev pub ask_of : (x y : Signal) → Ask
ask_of x y = record { first = x.operation; then = y.operation; same_allowed = true }

ask_same : {i j k l : ℕ} → i ≡ j → k ≡ l →
    ◌≡◌ {A = Ask} (record { first = i; then = k; same_allowed = true })
    (record { first = j; then = l; same_allowed = true })
ask_same a b = cc

-- of two signals of a list, y is the one before x on its semaphore
pub record LastBefore (xs : List Signal) (y x : Signal) : Type 0 where
  pub earlier_in : Memᴰ y xs
  pub later_in : Memᴰ x xs
  pub one_semaphore : y.semaphore ≡ x.semaphore
  pub sooner : Sooner y x
  pub last : (z : Signal) → Memᴰ z xs → z.semaphore ≡ x.semaphore → Sooner z x → Sooner y z → ⊥

-- ---- the last signaller, of signals with the last one first
record LastOf (s : ℕ) (bs : List Signal) (z : Signal) : Type 0 where
  among : Memᴰ z bs
  on_it : z.semaphore ≡ s
  last : (y : Signal) → Memᴰ y bs → y.semaphore ≡ s → (y ≡ z) ⊎ Sooner y z

abbrev Falling : List Signal → Type 0
Falling bs = Pairwise (λ x y. Sooner y x) no_signal bs

signaller_gives : (s : ℕ) (bs : List Signal) (m : ℕ) → Falling bs → last_signaller s bs ≡ some m →
    (z : Signal) × LastOf s bs z × (z.operation ≡ m)
unfolding last_signaller
signaller_gives s [] m fall e = absurd (let q : ◌≡◌ {A = ℕ} 0 1 = cc in omega arith)
signaller_gives s (x ∷ xs) m fall e =
    by_cases (eqb x.semaphore s)
    (λ t. let e' : some x.operation ≡ some m = rw t at e in (
      x,
      record {
        among = Memᴰ.head refl;
        on_it = eqb-true x.semaphore s t;
        last = λ y u _. either (Memᴰ.cases_cons u) (λ q. inl q)
            (λ v. inr (pairwise_head (λ x y. Sooner y x) no_signal x xs fall y v));
      },
      (let q : x.operation ≡ m = cc in q),
    ))
    (λ f. let w = signaller_gives s xs m (pairwise_tail (λ x y. Sooner y x) no_signal x xs fall) (rw f at e) in (
      w.0,
      record {
        among = Memᴰ.tail w.1.among;
        on_it = w.1.on_it;
        last = λ y u q. either (Memᴰ.cases_cons u)
            (λ v. absurd (eqb-false x.semaphore s f (sym (ap (λ (k : Signal). k.semaphore) v) ∙ q)))
            (λ v. w.1.last y v q);
      },
      w.2,
    ))

signaller_has : (s : ℕ) (bs : List Signal) (y : Signal) → Memᴰ y bs → y.semaphore ≡ s →
    ◌≡◌ {A = Option ℕ} (last_signaller s bs) none → ⊥
unfolding last_signaller
signaller_has s [] y m q e = Memᴰ.not-nil m
signaller_has s (x ∷ xs) y m q e =
    by_cases (eqb x.semaphore s)
    (λ t. let e' : some x.operation ≡ none = rw t at e in let z : ◌≡◌ {A = ℕ} 0 1 = cc in omega arith)
    (λ f. either (Memᴰ.cases_cons m)
    (λ u. eqb-false x.semaphore s f (sym (ap (λ (k : Signal). k.semaphore) u) ∙ q))
    (λ u. signaller_has s xs y u q (rw f at e)))

-- a signal is not sooner than itself
not_itself : (y z : Signal) → y ≡ z → Sooner z y → ⊥
not_itself y z e h = let w = subst (λ (k : Signal). Sooner z k) e h in sooner_once z z w w

-- ---- the list of handovers, from a place on: `bs` are the signals before it, the last one first
record Split (whole bs xs : List Signal) : Type 0 where
  before_in : (y : Signal) → Memᴰ y bs → Memᴰ y whole
  after_in : (y : Signal) → Memᴰ y xs → Memᴰ y whole
  either_one : (y : Signal) → Memᴰ y whole → Memᴰ y bs ⊎ Memᴰ y xs
  falling : Falling bs
  rising : Pairwise Sooner no_signal xs
  across : (y z : Signal) → Memᴰ y bs → Memᴰ z xs → Sooner y z

split_more : (whole bs : List Signal) (x : Signal) (xs : List Signal) → Split whole bs (x ∷ xs) →
    Split whole (x ∷ bs) xs
split_more whole bs x xs s = record {
  before_in = λ y m. either (Memᴰ.cases_cons m) (λ q. s.after_in y (Memᴰ.head q)) (λ t. s.before_in y t);
  after_in = λ y m. s.after_in y (Memᴰ.tail m);
  either_one = λ y m. either (s.either_one y m) (λ t. inl (Memᴰ.tail t))
      (λ t. either (Memᴰ.cases_cons t) (λ q. inl (Memᴰ.head q)) (λ u. inr u));
  falling = pairwise_cons (λ x y. Sooner y x) no_signal x bs
      (λ y m. s.across y x m (Memᴰ.head refl)) s.falling;
  rising = pairwise_tail Sooner no_signal x xs s.rising;
  across = λ y z m t. either (Memᴰ.cases_cons m)
      (λ q. subst (λ (k : Signal). Sooner k z) (sym q) (pairwise_head Sooner no_signal x xs s.rising z t))
      (λ u. s.across y z u (Memᴰ.tail t));
}

-- the signal before the first of the rest
last_before : (whole bs : List Signal) (x : Signal) (xs : List Signal) (z : Signal) → Split whole bs (x ∷ xs) →
    LastOf x.semaphore bs z → LastBefore whole z x
last_before whole bs x xs z s w = record {
  earlier_in = s.before_in z w.among;
  later_in = s.after_in x (Memᴰ.head refl);
  one_semaphore = w.on_it;
  sooner = s.across z x w.among (Memᴰ.head refl);
  last = λ y m q near far. either (s.either_one y m)
      (λ t. either (w.last y t q) (λ e. not_itself y z e far) (λ u. sooner_once z y far u))
      (λ t. either (Memᴰ.cases_cons t)
      (λ e. not_itself x y (sym e) near)
      (λ u. sooner_once y x near (pairwise_head Sooner no_signal x xs s.rising y u)));
}

handed_gives : (whole bs xs : List Signal) → Split whole bs xs → (a : Ask) → Memᴰ a (handovers_from bs xs) →
    (y x : Signal) × LastBefore whole y x × (a ≡ ask_of y x)
unfolding handovers_from handover
handed_gives whole bs [] s a m = absurd (Memᴰ.not-nil m)
handed_gives whole bs (x ∷ xs) s a m =
    either (Memᴰ.append_cases (handover (last_signaller x.semaphore bs) x) m)
    (λ t. by_option (last_signaller x.semaphore bs)
    (λ n. absurd (Memᴰ.not-nil (rw n at t)))
    (λ i e. let g = signaller_gives x.semaphore bs i s.falling e in
    either (Memᴰ.cases_cons (rw e at t))
    (λ q. (
      g.0,
      x,
      last_before whole bs x xs g.0 s g.1,
      q ∙ ap (λ (k : ℕ). record { first = k; then = x.operation; same_allowed = true }) (sym g.2),
    ))
    (λ u. absurd (Memᴰ.not-nil u))))
    (λ t. handed_gives whole (x ∷ bs) xs (split_more whole bs x xs s) a t)

handed_has : (whole bs xs : List Signal) → Split whole bs xs → (y x : Signal) → LastBefore whole y x →
    Memᴰ x xs → Memᴰ (ask_of y x) (handovers_from bs xs)
unfolding handovers_from handover
handed_has whole bs [] s y x w m = absurd (Memᴰ.not-nil m)
handed_has whole bs (z ∷ xs) s y x w m =
    either (Memᴰ.cases_cons m)
    (λ e. Memᴰ.append_left (handovers_from (z ∷ bs) xs) (first_one e))
    (λ t. Memᴰ.append_right (handover (last_signaller z.semaphore bs) z)
    (handed_has whole (z ∷ bs) xs (split_more whole bs z xs s) y x w t))
  where
    -- what is sooner than the first of the rest is before it
    among_earlier : x ≡ z → Memᴰ y bs
    among_earlier e =
        either (s.either_one y w.earlier_in) (λ t. t)
        (λ t. absurd (either (Memᴰ.cases_cons t)
        (λ q. not_itself x y (e ∙ sym q) w.sooner)
        (λ u. sooner_once y x w.sooner
        (subst (λ (k : Signal). Sooner k y) (sym e) (pairwise_head Sooner no_signal z xs s.rising y u)))))

    first_one : x ≡ z → Memᴰ (ask_of y x) (handover (last_signaller z.semaphore bs) z)
    first_one e =
        let on_it : y.semaphore ≡ z.semaphore = w.one_semaphore ∙ ap (λ (k : Signal). k.semaphore) e in
        by_option (last_signaller z.semaphore bs)
        (λ n. absurd (signaller_has z.semaphore bs y (among_earlier e) on_it n))
        (λ i n. let g = signaller_gives z.semaphore bs i s.falling n in
        let v = g.0 in
        let b = last_before whole bs z xs v s g.1 in
        let same : y ≡ v =
        either (g.1.last y (among_earlier e) on_it) (λ q. q)
        (λ u. absurd (w.last v b.earlier_in (b.one_semaphore ∙ ap (λ (k : Signal). k.semaphore) (sym e))
        (subst (λ (k : Signal). Sooner v k) (sym e) b.sooner) u)) in
        rw n (Memᴰ.head (ask_same (ap (λ (k : Signal). k.operation) same ∙ g.2)
        (ap (λ (k : Signal). k.operation) e))))

-- ---- of a plan
module _ (p : Plan) where
  whole_split : Split (plan_signals p) [] (plan_signals p)
  whole_split = record {
    before_in = λ y m. absurd (Memᴰ.not-nil m);
    after_in = λ y m. m;
    either_one = λ y m. inr m;
    falling = pairwise_nil (λ x y. Sooner y x) no_signal;
    rising = plan_rising p;
    across = λ y z m. absurd (Memᴰ.not-nil m);
  }

  pub handover_gives : (a : Ask) → Memᴰ a (handovers p) →
      (y x : Signal) × LastBefore (plan_signals p) y x × (a ≡ ask_of y x)
  unfolding handovers
  handover_gives a m = handed_gives (plan_signals p) [] (plan_signals p) whole_split a m

  pub handover_has : (y x : Signal) → LastBefore (plan_signals p) y x → Memᴰ (ask_of y x) (handovers p)
  unfolding handovers
  handover_has y x w = handed_has (plan_signals p) [] (plan_signals p) whole_split y x w w.later_in

  -- ---- disordered, taken apart
  abbrev forced : ℕ → ℕ → Bool
  forced i j = before p i j

  pub record Unforced (i : ℕ) (a : Ask) : Type 0 where
    pub among : Memᴰ a (handovers p)
    pub own : a.then ≡ i
    pub unforced : met forced a ≡ false

  turn_gives : (i : ℕ) → out_of_turn p (handovers p) i ≡ true → (a : Ask) × Unforced i a
  unfolding out_of_turn
  turn_gives i e =
      let test : Ask → Bool = λ a. not (eqb a.then i) || met forced a in
      let w = all_fails test (handovers p) (not-true (all test (handovers p)) e) in
      let a = w.0 in
      by_cases (eqb a.then i)
      (λ t. (a, record { among = w.1; own = eqb-true a.then i t; unforced = rw t at w.2 }))
      (λ f. absurd (true≢false (let z : true ≡ false = rw f at w.2 in z)))

  turn_forces : (i : ℕ) → out_of_turn p (handovers p) i ≡ false → (a : Ask) → Memᴰ a (handovers p) →
      a.then ≡ i → met forced a ≡ true
  unfolding out_of_turn
  turn_forces i e a m q =
      let test : Ask → Bool = λ a. not (eqb a.then i) || met forced a in
      let t = all_gives test (handovers p) (not-false (all test (handovers p)) e) a m in
      either (or_cases (not (eqb a.then i)) (met forced a) t)
      (λ n. clash (eqb a.then i) (eq-eqb a.then i q) (not-true (eqb a.then i) n)) (λ u. u)

  pub disordered_some : (i : ℕ) → disordered p ≡ some i →
      ((a : Ask) × Unforced i a) × ((a : Ask) → Memᴰ a (handovers p) → a.then < i → met forced a ≡ true)
  unfolding disordered
  disordered_some i e =
      let w = lowest_some (count p) (λ i. out_of_turn p (handovers p) i) i e in
      (turn_gives i w.passes, λ a m l. turn_forces a.then (w.lower a.then l) a m refl)

  pub disordered_by : ((a : Ask) → Memᴰ a (handovers p) → met forced a ≡ true) →
      ◌≡◌ {A = Option ℕ} (disordered p) none
  disordered_by h =
      by_option (disordered p) (λ e. e) (λ i e. let w = (disordered_some i e).0 in
      clash (met forced w.0) (h w.0 w.1.among) w.1.unforced)

  -- the later operation is one of the plan
  pub handover_inside : (a : Ask) → Memᴰ a (handovers p) → a.then < count p
  handover_inside a m =
      let w = handover_gives a m in
      let x = w.1 in
      subst (λ (b : Ask). b.then < count p) (sym w.3)
      (signal_inside p x.operation x.position (signal_there p x w.2.later_in).0)

  pub disordered_none : ◌≡◌ {A = Option ℕ} (disordered p) none → (a : Ask) → Memᴰ a (handovers p) →
      met forced a ≡ true
  unfolding disordered
  disordered_none e a m =
      turn_forces a.then (lowest_none (count p) (λ i. out_of_turn p (handovers p) i) e a.then
      (handover_inside a m)) a m refl

  pub met_at : (a : Ask) → met forced a ≡ true → At p a.first a.then
  unfolding met
  met_at a e =
      either (or_cases (a.same_allowed && eqb a.first a.then) (before p a.first a.then) e)
      (λ t. inl (eqb-true a.first a.then (and_right a.same_allowed (eqb a.first a.then) t)))
      (λ t. inr (before_chain p a.first a.then t))

  pub at_met : (a : Ask) → a.same_allowed ≡ true → At p a.first a.then → met forced a ≡ true
  unfolding met
  at_met a s (inl e) = rw (s, eq-eqb a.first a.then e) refl
  at_met a s (inr c) =
      or_right (a.same_allowed && eqb a.first a.then)
      (before p a.first a.then) (chain_before p a.first a.then c)
