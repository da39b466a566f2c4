-- Refusals 7 and 8 come from the first signal, or else the first wait, that breaks a rule. Assumes nothing.
use mathlib.Core.Path.{◌≡◌, refl, sym, ap, ◌∙◌, subst}
use mathlib.Core.Bool.{true, cond, false≢true}
use mathlib.Core.Logic.{inl, inr}
use mathlib.Core.List.{List, [], ◌∷◌, ◌++◌}
use Prim.Native.Nat.{ℕ, zero, suc, ◌<◌, max}
use native.Mathlib.Nat.{not-suc-le-zero, le_of_suc-le-suc}
use native.Mathlib.Omega.{arith}
use lib.Dec.{ltb, leb, eqb}
use lib.ListN.{length, get_or, take, drop, get_or-eq_default}
use lib.Seq.{take-suc}
use borrow.Author.Tests.{ltb-true, ltb-false, leb-true, leb-false, lt-ltb, eqb-true, eqb-false, eq-eqb}
use Rattle.base_lists.proofs.Tests.{by_cases, clash, or_cases, or_left, or_right, either}
use Rattle.plan_format.specs.Refusal.{Refusal, refusal, none_given}
use Rattle.plan_format.specs.Plan.{Point, Operation, Plan, empty_operation, count, op}
use Rattle.plan_format.specs.Sound.{highest_in, highest, signals_number, signals_refusal}
use Rattle.plan_format.specs.Sound.{too_high, any_too_high, waits_refusal, WaitsAboveZero}
use Rattle.plan_format.specs.Meaning.{signal_at, wait_at, IsSignal, Rising, GoodBefore, NotRising}
use Rattle.plan_format.specs.Meaning.{SignalsGood, TooHigh}
use Rattle.plan_format.proofs.Heights.{begins, ends, Over, over_in, in_over, over_highest}
use Rattle.plan_format.proofs.Heights.{highest_over, over_taken, taken_over, all_taken, taken_all, highest_more}

abbrev pub no_point : Point
no_point = record { semaphore = 0; value = 0 }

-- 7 for a first signal of 0
zero_signal : signals_number [] [] (no_point ∷ []) ≡ 7
unfolding signals_number highest highest_in
zero_signal = refl

module _ (p : Plan) where
  -- past the last operation there is no signal
  pub signal_inside : (i k : ℕ) → IsSignal p i k → i < count p
  unfolding count op
  signal_inside i k h =
      by_cases (ltb i (length p.operations)) (λ t. ltb-true i (length p.operations) t)
      (λ f. absurd (not-suc-le-zero (subst (λ (o : Operation). k < length o.signals)
      (get_or-eq_default p.operations empty_operation (ltb-false i (length p.operations) f)) h)))

  -- ---- rising: above the highest before
  module _ (i k : ℕ) where
    abbrev height : ℕ
    height =
        max (highest (signal_at p i k).semaphore (take i p.operations))
        (highest_in (signal_at p i k).semaphore (take k (op p i).signals))

    over_rises : height < (signal_at p i k).value → Rising p i k
    unfolding op
    over_rises h =
        let s = (signal_at p i k).semaphore in
        let v = (signal_at p i k).value in
        let a = highest_over s v (take i p.operations) (omega arith) in
        let b = in_over s v (take k (op p i).signals) (omega arith) in
        rises_by a.0 (all_taken s v p.operations i a.1) (over_taken s v (op p i).signals k b.1)
      where
        rises_by : 0 < (signal_at p i k).value →
            ((j : ℕ) → j < i → Over (signal_at p i k).semaphore (signal_at p i k).value (op p j).signals) →
            ((l : ℕ) → l < k → IsSignal p i l → (signal_at p i l).semaphore ≡ (signal_at p i k).semaphore →
            (signal_at p i l).value < (signal_at p i k).value) →
            Rising p i k
        rises_by z a b = record {
          above_zero = z;
          above_earlier = λ j l g w e. either w (λ lower. a j lower l g e)
              (λ same. subst (λ (m : ℕ). (signal_at p m l).value < (signal_at p i k).value) (sym same.0)
              (b l same.1 (subst (λ (m : ℕ). IsSignal p m l) same.0 g)
              (ap (λ (m : ℕ). (signal_at p m l).semaphore) (sym same.0) ∙ e)));
        }

    rises_over : Rising p i k → height < (signal_at p i k).value
    unfolding op
    rises_over r =
        let s = (signal_at p i k).semaphore in
        let v = (signal_at p i k).value in
        let a = over_highest s v (take i p.operations) r.above_zero
        (taken_all s v p.operations i (λ j lower l g. r.above_earlier j l g (inl lower))) in
        let b = over_in s v (take k (op p i).signals) r.above_zero
        (taken_over s v (op p i).signals k (λ l lower g. r.above_earlier i l g (inr (refl, lower)))) in
        omega arith

  -- ---- one operation's signals
  data OwnSays (i n : ℕ) : Type 0 where
    own_good : n ≡ 0 → ((l : ℕ) → IsSignal p i l → Rising p i l) → OwnSays i n
    own_seven : n ≡ 7 → (k : ℕ) → IsSignal p i k → (Rising p i k → ⊥) → ((l : ℕ) → l < k → Rising p i l) → OwnSays i n

  module _ (i : ℕ) where
    height_is : (k : ℕ) (x : Point) (own : List Point) → signal_at p i k ≡ x →
        highest_in x.semaphore own ≡ highest_in x.semaphore (take k (op p i).signals) →
        max (highest x.semaphore (take i p.operations)) (highest_in x.semaphore own) ≡ height i k
    height_is k x own here e =
        ap (λ (n : ℕ). max (highest x.semaphore (take i p.operations)) n) e
        ∙ ap
        (λ (z : Point). max (highest z.semaphore (take i p.operations))
        (highest_in z.semaphore (take k (op p i).signals))) (sym here)

    good_more : (k : ℕ) → ((l : ℕ) → l < k → Rising p i l) → Rising p i k → (l : ℕ) → l < suc k → Rising p i l
    good_more k h g l a =
        by_cases (eqb l k) (λ t. subst (λ (z : ℕ). Rising p i z) (sym (eqb-true l k t)) g)
        (λ f. h l (omega (arith, eqb-false l k f)))

    -- from place k on; `own` are the signals before it
    number_says : (k : ℕ) (own xs : List Point) → drop k (op p i).signals ≡ xs →
        ((s : ℕ) → highest_in s own ≡ highest_in s (take k (op p i).signals)) →
        ((l : ℕ) → l < k → Rising p i l) → OwnSays i (signals_number (take i p.operations) own xs)
    unfolding signals_number
    number_says k own [] e o good = own_good refl (λ l h. good l (omega (arith, ends (op p i).signals k e)))
    number_says k own (x ∷ xs) e o good =
        let w = begins no_point (op p i).signals k x xs e in
        let s = x.semaphore in
        let high = max (highest s (take i p.operations)) (highest_in s own) in
        let same : high ≡ height i k = height_is k x own w.here (o s) in
        let value : (signal_at p i k).value ≡ x.value = ap (λ (z : Point). z.value) w.here in
        by_cases (leb x.value high)
        (λ u. rw u (own_seven refl k w.inside
        (λ r. omega (arith, rises_over i k r, leb-true x.value high u)) good))
        (λ u. rw u (number_says (suc k) (x ∷ own) xs w.on
        (λ z. highest_more z (op p i).signals own k x w.inside w.here (o z))
        (good_more k good (over_rises i k (omega (arith, leb-false x.value high u))))))

  -- ---- all operations' signals
  pub data SignalsSay (f : Refusal) : Type 0 where
    signals_good : f ≡ none_given → SignalsGood p → SignalsSay f
    signals_seven : (i k : ℕ) → f ≡ refusal 7 i → NotRising p i k → SignalsSay f

  first_by : (i k : ℕ) → ((j l : ℕ) → j < i → IsSignal p j l → Rising p j l) → ((l : ℕ) → l < k → Rising p i l) →
      GoodBefore p i k
  first_by i k lower own j l g w =
      either w (λ a. lower j l a g) (λ a. subst (λ (z : ℕ). Rising p z l) (sym a.0) (own l a.1))

  signals_step : (i n : ℕ) (rest : Refusal) → ((j l : ℕ) → j < i → IsSignal p j l → Rising p j l) → OwnSays i n →
      (((l : ℕ) → IsSignal p i l → Rising p i l) → SignalsSay rest) → SignalsSay (cond (eqb n 0) rest (refusal n i))
  signals_step i n rest lower (own_good e h) on = rw (eq-eqb n 0 e) (on h)
  signals_step i n rest lower (own_seven e k g low own) on =
      rw e (signals_seven i k refl (record { signal = g; not_rising = low; first = first_by i k lower own }))

  lower_more : (i : ℕ) → ((j l : ℕ) → j < i → IsSignal p j l → Rising p j l) →
      ((l : ℕ) → IsSignal p i l → Rising p i l) →
      (j l : ℕ) → j < suc i → IsSignal p j l → Rising p j l
  lower_more i lower own j l a g =
      by_cases (eqb j i)
      (λ t. let e = eqb-true j i t in
      subst (λ (z : ℕ). Rising p z l) (sym e) (own l (subst (λ (z : ℕ). IsSignal p z l) e g)))
      (λ f. lower j l (omega (arith, eqb-false j i f)) g)

  signals_say : (i : ℕ) (os : List Operation) → drop i p.operations ≡ os →
      ((j l : ℕ) → j < i → IsSignal p j l → Rising p j l) →
      SignalsSay (signals_refusal i (take i p.operations) os)
  unfolding signals_refusal count op
  signals_say i [] e good =
      signals_good refl (λ j l g. good j l (omega (arith, ends p.operations i e, signal_inside j l g)) g)
  signals_say i (o ∷ os) e good =
      let w = begins empty_operation p.operations i o os e in
      let before = take i p.operations in
      subst (λ (z : Operation). SignalsSay (signals_refusal i before (z ∷ os))) w.here
      (signals_step i (signals_number before [] (op p i).signals)
      (signals_refusal (suc i) (before ++ (op p i ∷ [])) os) good
      (number_says i 0 [] (op p i).signals refl (λ s. refl) (λ l a. absurd (not-suc-le-zero a)))
      (λ own. subst (λ (z : List Operation). SignalsSay (signals_refusal (suc i) z os))
      (take-suc p.operations i empty_operation w.inside)
      (signals_say (suc i) os w.on (lower_more i good own))))

  -- ---- waits
  high_too : (i k : ℕ) → k < length (op p i).waits → too_high p (wait_at p i k) ≡ true → TooHigh p i k
  unfolding too_high op
  high_too i k inside h =
      let w = wait_at p i k in
      let over = highest_over w.semaphore w.value p.operations
      (ltb-true (highest w.semaphore p.operations) w.value h) in
      record { wait = inside; above_all = over.1 }

  too_is_high : (i k : ℕ) → 0 < (wait_at p i k).value → TooHigh p i k → too_high p (wait_at p i k) ≡ true
  unfolding too_high op
  too_is_high i k above t =
      let w = wait_at p i k in
      lt-ltb (highest w.semaphore p.operations) w.value
      (over_highest w.semaphore w.value p.operations above t.above_all)

  any_gives : (ws : List Point) → any_too_high p ws ≡ true →
      (k : ℕ) × (k < length ws) × (too_high p (get_or ws k no_point) ≡ true)
  unfolding any_too_high
  any_gives [] h = absurd (false≢true h)
  any_gives (w ∷ ws) h =
      either (or_cases (too_high p w) (any_too_high p ws) h) (λ t. (0, omega arith, t))
      (λ t. let r = any_gives ws t in (suc r.0, omega (arith, r.1), r.2))

  any_by : (ws : List Point) (k : ℕ) → k < length ws → too_high p (get_or ws k no_point) ≡ true →
      any_too_high p ws ≡ true
  unfolding any_too_high
  any_by [] k a h = absurd (not-suc-le-zero a)
  any_by (w ∷ ws) zero a h = or_left (too_high p w) (any_too_high p ws) h
  any_by (w ∷ ws) (suc k) a h = or_right (too_high p w) (any_too_high p ws) (any_by ws k (le_of_suc-le-suc a) h)

  pub data WaitsSay (f : Refusal) : Type 0 where
    waits_good : f ≡ none_given → ((i k : ℕ) → TooHigh p i k → ⊥) → WaitsSay f
    waits_eight : (i k : ℕ) → f ≡ refusal 8 i → TooHigh p i k → ((j l : ℕ) → j < i → TooHigh p j l → ⊥) → WaitsSay f

  -- past the last operation there is no wait
  pub wait_inside : (i k : ℕ) → k < length (op p i).waits → i < count p
  unfolding count op
  wait_inside i k h =
      by_cases (ltb i (length p.operations)) (λ a. ltb-true i (length p.operations) a)
      (λ f. absurd (not-suc-le-zero (subst (λ (o : Operation). k < length o.waits)
      (get_or-eq_default p.operations empty_operation (ltb-false i (length p.operations) f)) h)))

  waits_say : WaitsAboveZero p → (i : ℕ) (os : List Operation) → drop i p.operations ≡ os →
      ((j l : ℕ) → j < i → TooHigh p j l → ⊥) →
      WaitsSay (waits_refusal i p os)
  unfolding waits_refusal count op
  waits_say above i [] e low =
      waits_good refl (λ j l t. low j l (omega (arith, ends p.operations i e, wait_inside j l t.wait)) t)
  waits_say above i (o ∷ os) e low =
      let w = begins empty_operation p.operations i o os e in
      let same : any_too_high p (op p i).waits ≡ any_too_high p o.waits =
      ap (λ (z : Operation). any_too_high p z.waits) w.here in
      by_cases (any_too_high p o.waits)
      (λ t. let r = any_gives (op p i).waits (same ∙ t) in
      rw t (waits_eight i r.0 refl (high_too i r.0 r.1 r.2) low))
      (λ f. rw f (waits_say above (suc i) os w.on (λ j l a h. by_cases (eqb j i)
      (λ t. let here : TooHigh p i l = subst (λ (z : ℕ). TooHigh p z l) (eqb-true j i t) h in
      clash (any_too_high p (op p i).waits)
      (any_by (op p i).waits l here.wait (too_is_high i l (above i l here.wait) here)) (same ∙ f))
      (λ g. low j l (omega (arith, eqb-false j i g)) h))))

  -- ---- of a whole plan
  pub plan_signals_say : SignalsSay (signals_refusal 0 [] p.operations)
  plan_signals_say = signals_say 0 p.operations refl (λ j l a. absurd (not-suc-le-zero a))

  pub plan_waits_say : WaitsAboveZero p → WaitsSay (waits_refusal 0 p p.operations)
  plan_waits_say above = waits_say above 0 p.operations refl (λ j l a. absurd (not-suc-le-zero a))
