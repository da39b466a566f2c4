-- Readiness only grows with what has run, and after a run an operation is enabled exactly when all that is directly
-- before it has run. Assumes nothing.
use mathlib.Core.Path.{◌≡◌, refl, sym, subst}
use mathlib.Core.Bool.{Bool, true, false, ◌&&◌, ◌||◌, not, false≢true}
use mathlib.Core.List.Memᴰ
use mathlib.Core.List.{List, [], ◌∷◌, Memᴰ}
use Prim.Native.Nat.{ℕ, ◌≤◌, ◌<◌, zero-le, max}
use native.Mathlib.Omega.{arith}
use lib.Dec.{ltb, leb, eqb}
use borrow.Author.Tests.{ltb-true, leb-true, leb-false, eqb-true, eq-eqb, lt-ltb, not-true}
use Rattle.base_lists.specs.Lists.{member, all}
use Rattle.base_lists.proofs.Tests.{by_cases, clash, and_left, and_right, and_both, or_cases, or_left, or_right}
use Rattle.base_lists.proofs.Tests.{not_of_false, either}
use Rattle.base_lists.proofs.Members.{Sub, member_nil, member_here, member_there, member_cons}
use Rattle.base_lists.proofs.Places.{mem_place}
use Rattle.base_lists.proofs.Searches.{all_below_gives, all_below_by, all_gives, all_by}
use Rattle.order.specs.Runs.{runs}
use Rattle.order.specs.Closure.{once}
use Rattle.order.proofs.Extensions.{chain_steps}
use Rattle.plan_format.specs.Plan.{Point, Plan, count, op}
use Rattle.plan_format.specs.Sound.{highest_in, highest, any_too_high, waits_refusal, WaitsAboveZero}
use Rattle.plan_order.specs.Precedence.{Signal, Resolution, on, never, resolve, rests_on, any_rests_on}
use Rattle.plan_order.specs.Precedence.{same_queue, direct}
use Rattle.plan_order.specs.Runs.{reached, rested, wait_met, earlier_run, enabled}
use Rattle.plan_order.proofs.Signals.{signals_value, high_gives, highest_gives, too_high_none, waits_none}
use Rattle.plan_order.proofs.Signals.{value_inside}
use Rattle.plan_order.proofs.Resolution.{Rests, rests_somewhere, rests_it}

module _ (p : Plan) where
  -- ---- the value that a semaphore has reached
  pub reached_has : (s : ℕ) (r : List ℕ) (i : ℕ) → member i r ≡ true → highest_in s (op p i).signals ≤ reached p s r
  unfolding reached
  reached_has s [] i m = member_nil i m
  reached_has s (x ∷ xs) i m =
      either (member_cons i x xs m)
      (λ q. subst (λ (z : ℕ). highest_in s (op p z).signals ≤ max (highest_in s (op p x).signals) (reached p s xs)) q
      (omega arith))
      (λ m'. omega (arith, reached_has s xs i m'))

  pub reached_under : (s : ℕ) (r : List ℕ) (b : ℕ) →
      ((i : ℕ) → member i r ≡ true → highest_in s (op p i).signals ≤ b) → reached p s r ≤ b
  unfolding reached
  reached_under s [] b h = zero-le
  reached_under s (x ∷ xs) b h =
      omega (arith, h x (member_here x xs), reached_under s xs b (λ i m. h i (member_there i x xs m)))

  pub reached_grows : (s : ℕ) (r t : List ℕ) → Sub r t → reached p s r ≤ reached p s t
  reached_grows s r t b = reached_under s r (reached p s t) (λ i m. reached_has s t i (b i m))

  -- it comes from an operation of the run
  pub reached_gives : (s v : ℕ) (r : List ℕ) → 0 < v → v ≤ reached p s r →
      (k : ℕ) × (y : ℕ) × (member k r ≡ true) × (v ≤ y) × (signals_value s y (op p k).signals ≡ true)
  unfolding reached
  reached_gives s v [] a h = absurd (omega arith)
  reached_gives s v (x ∷ xs) a h =
      by_cases (leb v (reached p s xs))
      (λ t. let w = reached_gives s v xs a (leb-true v (reached p s xs) t) in
      (w.0, w.1, member_there w.0 x xs w.2, w.3, w.4))
      (λ f. let w = high_gives s v (op p x).signals a (omega (arith, leb-false v (reached p s xs) f)) in
      (x, w.0, member_here x xs, w.1, w.2))

  -- ---- enabled, taken apart and put together
  pub earlier_gives : (r : List ℕ) (j : ℕ) → earlier_run p r j ≡ true → (k : ℕ) → k < j →
      (op p k).queue ≡ (op p j).queue → member k r ≡ true
  unfolding earlier_run same_queue
  earlier_gives r j h k l q =
      let test = not (eqb (op p k).queue (op p j).queue) in
      either (or_cases test (member k r)
      (all_below_gives j (λ i. not (eqb (op p i).queue (op p j).queue) || member i r) h k l))
      (λ t. clash (eqb (op p k).queue (op p j).queue) (eq-eqb (op p k).queue (op p j).queue q)
      (not-true (eqb (op p k).queue (op p j).queue) t)) (λ t. t)

  pub earlier_by : (r : List ℕ) (j : ℕ) → ((k : ℕ) → k < j → (op p k).queue ≡ (op p j).queue → member k r ≡ true) →
      earlier_run p r j ≡ true
  unfolding earlier_run same_queue
  earlier_by r j h =
      all_below_by j (λ i. not (eqb (op p i).queue (op p j).queue) || member i r) (λ i l.
      by_cases (eqb (op p i).queue (op p j).queue)
      (λ t. or_right (not (eqb (op p i).queue (op p j).queue)) (member i r)
      (h i l (eqb-true (op p i).queue (op p j).queue t)))
      (λ f. or_left (not (eqb (op p i).queue (op p j).queue)) (member i r)
      (not_of_false (eqb (op p i).queue (op p j).queue) f)))

  -- ---- a wait that is met
  pub rested_has : (r : List ℕ) (z : Resolution) (i : ℕ) → rested r z ≡ true → rests_on z i ≡ true → member i r ≡ true
  unfolding rested rests_on
  rested_has r (on x) i m e = subst (λ (k : ℕ). member k r ≡ true) (eqb-true x.operation i e) m
  rested_has r never i m e = absurd (false≢true e)

  rested_grows : (r t : List ℕ) (z : Resolution) → Sub r t → rested r z ≡ true → rested t z ≡ true
  unfolding rested
  rested_grows r t (on x) b m = b x.operation m
  rested_grows r t never b m = m

  pub record Enabled (r : List ℕ) (j : ℕ) : Type 0 where
    pub earlier : (k : ℕ) → k < j → (op p k).queue ≡ (op p j).queue → member k r ≡ true
    pub waits : (w : Point) → Memᴰ w (op p j).waits → wait_met p r w ≡ true

  pub enabled_gives : (r : List ℕ) (j : ℕ) → enabled p r j ≡ true → Enabled r j
  unfolding enabled
  enabled_gives r j h =
      let a = earlier_run p r j in
      let b = all (λ w. wait_met p r w) (op p j).waits in
      record {
        earlier = earlier_gives r j (and_left a b h);
        waits = all_gives (λ w. wait_met p r w) (op p j).waits (and_right a b h);
      }

  pub enabled_by : (r : List ℕ) (j : ℕ) → Enabled r j → enabled p r j ≡ true
  unfolding enabled
  enabled_by r j h =
      and_both (earlier_run p r j) (all (λ w. wait_met p r w) (op p j).waits) (earlier_by r j h.earlier)
      (all_by (λ w. wait_met p r w) (op p j).waits h.waits)

  -- ---- readiness only grows
  pub grows : (r t : List ℕ) (j : ℕ) → Sub r t → enabled p r j ≡ true → enabled p t j ≡ true
  unfolding wait_met
  grows r t j b h =
      let e = enabled_gives r j h in
      enabled_by t j (record {
        earlier = λ k l q. b k (e.earlier k l q);
        waits = λ w m. rested_grows r t (resolve p w) b (e.waits w m);
      })

  -- a run has, with an operation, all that is earlier on its queue
  queue_before : (i j : ℕ) → Bool
  queue_before i j = ltb i j && eqb (op p i).queue (op p j).queue

  queue_asks : (r : List ℕ) (i j : ℕ) → runs (count p) (enabled p) [] r ≡ true → enabled p r j ≡ true →
      queue_before i j ≡ true → member i r ≡ true
  unfolding queue_before
  queue_asks r i j h e q =
      (enabled_gives r j e).earlier i (ltb-true i j (and_left (ltb i j) (eqb (op p i).queue (op p j).queue) q))
      (eqb-true (op p i).queue (op p j).queue (and_right (ltb i j) (eqb (op p i).queue (op p j).queue) q))

  pub queue_in : (r : List ℕ) (i j : ℕ) → runs (count p) (enabled p) [] r ≡ true → member j r ≡ true → i < j →
      (op p i).queue ≡ (op p j).queue → member i r ≡ true
  unfolding queue_before
  queue_in r i j h m l q =
      (chain_steps (count p) (enabled p) queue_before queue_asks r i j h m
      (once i j (and_both (ltb i j) (eqb (op p i).queue (op p j).queue) (lt-ltb i j l)
      (eq-eqb (op p i).queue (op p j).queue q)))).0

  -- ---- directly before, taken apart and put together
  pub direct_below : (i j : ℕ) → direct p i j ≡ true → (i < count p) × (j < count p)
  unfolding direct
  direct_below i j e =
      let ranges = ltb i (count p) && ltb j (count p) in
      let both = and_left ranges ((ltb i j && same_queue p i j) || any_rests_on p i (op p j).waits) e in (
        ltb-true i (count p) (and_left (ltb i (count p)) (ltb j (count p)) both),
        ltb-true j (count p) (and_right (ltb i (count p)) (ltb j (count p)) both),
      )

  any_gives : (i : ℕ) (ws : List Point) → any_rests_on p i ws ≡ true →
      (w : Point) × Memᴰ w ws × (rests_on (resolve p w) i ≡ true)
  unfolding any_rests_on
  any_gives i [] e = absurd (false≢true e)
  any_gives i (w ∷ ws) e =
      either (or_cases (rests_on (resolve p w) i) (any_rests_on p i ws) e) (λ t. (w, Memᴰ.head refl, t))
      (λ t. let g = any_gives i ws t in (g.0, Memᴰ.tail g.1, g.2))

  any_by : (i : ℕ) (ws : List Point) (w : Point) → Memᴰ w ws → rests_on (resolve p w) i ≡ true →
      any_rests_on p i ws ≡ true
  unfolding any_rests_on
  any_by i [] w m e = absurd (Memᴰ.not-nil m)
  any_by i (v ∷ vs) w m e =
      either (Memᴰ.cases_cons m)
      (λ q. or_left (rests_on (resolve p v) i) (any_rests_on p i vs)
      (subst (λ (z : Point). rests_on (resolve p z) i ≡ true) q e))
      (λ t. or_right (rests_on (resolve p v) i) (any_rests_on p i vs) (any_by i vs w t e))

  -- earlier on the queue, or a wait resolved to it
  pub data Why (i j : ℕ) : Type 0 where
    by_queue : i < j → (op p i).queue ≡ (op p j).queue → Why i j
    by_wait : (w : Point) → Memᴰ w (op p j).waits → rests_on (resolve p w) i ≡ true → Why i j

  pub direct_why : (i j : ℕ) → direct p i j ≡ true → Why i j
  unfolding direct same_queue
  direct_why i j e =
      let queue = ltb i j && eqb (op p i).queue (op p j).queue in
      either (or_cases queue (any_rests_on p i (op p j).waits)
      (and_right (ltb i (count p) && ltb j (count p)) (queue || any_rests_on p i (op p j).waits) e))
      (λ t. by_queue (ltb-true i j (and_left (ltb i j) (eqb (op p i).queue (op p j).queue) t))
      (eqb-true (op p i).queue (op p j).queue (and_right (ltb i j) (eqb (op p i).queue (op p j).queue) t)))
      (λ t. let g = any_gives i (op p j).waits t in by_wait g.0 g.1 g.2)

  pub direct_by : (i j : ℕ) → i < count p → j < count p → Why i j → direct p i j ≡ true
  unfolding direct same_queue
  direct_by i j a b y =
      let queue = ltb i j && eqb (op p i).queue (op p j).queue in
      and_both (ltb i (count p) && ltb j (count p)) (queue || any_rests_on p i (op p j).waits)
      (and_both (ltb i (count p)) (ltb j (count p)) (lt-ltb i (count p) a) (lt-ltb j (count p) b)) (one_of i j y)
    where
      one_of : (i j : ℕ) → Why i j →
          ((ltb i j && eqb (op p i).queue (op p j).queue) || any_rests_on p i (op p j).waits) ≡ true
      one_of i j (by_queue l q) =
          or_left (ltb i j && eqb (op p i).queue (op p j).queue) (any_rests_on p i (op p j).waits)
          (and_both (ltb i j) (eqb (op p i).queue (op p j).queue) (lt-ltb i j l)
          (eq-eqb (op p i).queue (op p j).queue q))
      one_of i j (by_wait w m t) =
          or_right (ltb i j && eqb (op p i).queue (op p j).queue) (any_rests_on p i (op p j).waits)
          (any_by i (op p j).waits w m t)

  -- ---- what is enabled has all that is directly before it in the run
  pub predecessors_run : (r : List ℕ) (i j : ℕ) → runs (count p) (enabled p) [] r ≡ true → enabled p r j ≡ true →
      direct p i j ≡ true → member i r ≡ true
  predecessors_run r i j h e d = of_why i j (direct_why i j d) (enabled_gives r j e)
    where
      of_why : (i j : ℕ) → Why i j → Enabled r j → member i r ≡ true
      of_why i j (by_queue l q) e = e.earlier i l q
      of_why i j (by_wait w m t) e = rested_has r (resolve p w) i (unfold wait_met in (e.waits w m)) t

  -- ---- without 8 and 16: what has all that is directly before it in a list is enabled by it
  pub record WaitsGood : Type 0 where
    pub above_zero : WaitsAboveZero p
    pub low_enough : (waits_refusal 0 p p.operations).number ≡ 0

  low_enough : (ws : List Point) → any_too_high p ws ≡ false → (w : Point) → Memᴰ w ws →
      w.value ≤ highest w.semaphore p.operations
  low_enough [] e w m = absurd (Memᴰ.not-nil m)
  low_enough (v ∷ vs) e w m =
      let t = too_high_none p v vs e in
      either (Memᴰ.cases_cons m)
      (λ q. subst (λ (z : Point). z.value ≤ highest z.semaphore p.operations) (sym q) t.0)
      (λ m'. low_enough vs t.1 w m')

  pub wait_above : WaitsAboveZero p → (j : ℕ) (w : Point) → Memᴰ w (op p j).waits → 0 < w.value
  wait_above above j w m =
      let k = mem_place (op p j).waits (record { semaphore = 0; value = 0 }) w m in
      subst (λ (z : Point). 0 < z.value) k.2 (above j k.0 k.1)

  module _ (waits_good : WaitsGood) where
    -- a wait of an operation of the plan rests on a signal
    pub own_rests : (j : ℕ) → j < count p → (w : Point) → Memᴰ w (op p j).waits →
        (x : Signal) × Rests p w x × (resolve p w ≡ on x)
    unfolding op count
    own_rests j l w m =
        let none = waits_none 0 p p.operations waits_good.low_enough j l in
        let s = w.semaphore in
        let g = highest_gives s w.value p.operations (wait_above waits_good.above_zero j w m)
        (low_enough (op p j).waits none w m) in
        rests_somewhere p w g.0 g.1 (value_inside s g.1 p.operations g.0 g.3) g.3 g.2

    own_rested : (r : List ℕ) (j : ℕ) → j < count p → (w : Point) → Memᴰ w (op p j).waits →
        ((i : ℕ) → i < count p → rests_on (resolve p w) i ≡ true → member i r ≡ true) → wait_met p r w ≡ true
    unfolding wait_met rested
    own_rested r j l w m h =
        let (x, t, e) = own_rests j l w m in rw e (h x.operation t.inside (rests_it p w x e))

    pub predecessors_suffice : (r : List ℕ) (j : ℕ) → j < count p →
        ((i : ℕ) → direct p i j ≡ true → member i r ≡ true) → enabled p r j ≡ true
    predecessors_suffice r j l h =
        enabled_by r j (record {
          earlier = λ k b q. h k (direct_by k j (omega arith) l (by_queue b q));
          waits = λ w m. own_rested r j l w m (λ i b t. h i (direct_by i j b l (by_wait w m t)));
        })
