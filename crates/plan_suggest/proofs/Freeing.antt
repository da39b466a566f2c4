-- Which waits free a buffer: by quantifiers; and, for a signal of a plan without broken marks whose last free is not
-- seen, exactly those for signals of operations at or after that free. Assumes nothing.
use mathlib.Core.Path.{◌≡◌, refl, sym, ◌∙◌, subst}
use mathlib.Core.Bool.{Bool, true, false≢true}
use mathlib.Core.Logic.{inl, inr, ◌↔◌}
use mathlib.Core.List.Memᴰ
use mathlib.Core.List.{List, Memᴰ}
use Prim.Native.Nat.{ℕ, ◌<◌}
use native.Mathlib.Nat.{le_refl, lt_irrefl}
use native.Mathlib.Omega.{arith}
use lib.Dec.{ltb, eqb}
use lib.ListN.{length}
use borrow.Author.Tests.{ltb-true, ltb-false, eqb-true, eqb-false}
use Rattle.base_lists.proofs.Tests.{by_cases, by_option, clash, is_false, either}
use Rattle.base_lists.proofs.Searches.{all_gives, all_by, highest_none}
use Rattle.base_lists.proofs.Places.{mem_at}
use Rattle.order.specs.Closure.{once}
use Rattle.plan_format.specs.Plan.{Point, Plan, count, op}
use Rattle.plan_format.specs.Sound.{Sound}
use Rattle.plan_format.specs.Meaning.{signal_at, IsSignal}
use Rattle.plan_format.proofs.RulesFirst.{signal_inside}
use Rattle.plan_order.specs.Precedence.{Resolution, on, never, resolve, rests_on, Before, before, at_or_before}
use Rattle.plan_order.specs.Holdings.{Placed, buffer_marks}
use Rattle.plan_order.specs.Reuse.{last_on}
use Rattle.plan_order.specs.Meaning.{Forced, Marked, LastMark, Seen}
use Rattle.plan_order.proofs.Signals.{signals_value, signal_above as above_earlier, rises}
use Rattle.plan_order.proofs.Readiness.{by_queue, direct_by}
use Rattle.plan_order.proofs.Precedence.{before_chain, chain_before, At, at_join, at_or_means}
use Rattle.plan_order.proofs.OrderMeaning.{signals_means, rests_means}
use Rattle.plan_order.proofs.MarksMeaning.{mark_marked, marked_mark}
use Rattle.plan_order.proofs.VerdictMeaning.{last_means, last_in}
use Rattle.plan_order.proofs.LastFree.{marked_by_free}
use Rattle.plan_order.proofs.Demand3.{rules_good}
use Rattle.plan_change.specs.Longer.{waiting, longer}
use Rattle.plan_change.proofs.Longer.{Because, same_queue, waited_for, BeforeLast, new_before, waiting_silent}
use Rattle.plan_change.proofs.Longer.{waiting_unmarked}
use Rattle.plan_change.proofs.LongerPasses.{last_marks}
use Rattle.plan_suggest.specs.Suggest.{frees}
use Rattle.plan_suggest.specs.Meaning.{WaitFrees}

-- ---- by quantifiers
module _ (p : Plan) (q b : ℕ) (w : Point) where
  abbrev there : Plan
  there = longer p q w

  abbrev first : Placed → Bool
  first m = before there m.by (count p)

  pub frees_means : (frees p q b w ≡ true) ↔ WaitFrees p q b w
  unfolding frees
  frees_means = (
    (λ h i marked. let x = marked_mark there b i marked in
        subst (λ (z : ℕ). Before there z (count p)) x.2
        (before_chain there x.0.by (count p) (all_gives first (buffer_marks there b) h x.0 x.1))),
    (λ h. all_by first (buffer_marks there b)
        (λ m t. chain_before there m.by (count p) (h m.by (mark_marked there b m t)))),
  )

  -- the new operation marks nothing
  pub same_marks : buffer_marks there b ≡ buffer_marks p b
  same_marks = last_marks p (waiting q w) (waiting_silent q w) (waiting_unmarked q w) b

-- ---- what a wait for a signal's value rests on
rests_one : (r : Resolution) (i j : ℕ) → rests_on r i ≡ true → rests_on r j ≡ true → i ≡ j
unfolding rests_on
rests_one (on x) i j a b = sym (eqb-true x.operation i a) ∙ eqb-true x.operation j b
rests_one never i j a b = absurd (false≢true a)

module _ (p : Plan) (sound : Sound p) (i k : ℕ) (signal : IsSignal p i k) where
  abbrev wait : Point
  wait = signal_at p i k

  pub value_there : signals_value wait.semaphore wait.value (op p i).signals ≡ true
  value_there =
      (signals_means p i wait.semaphore wait.value).1
      (wait, mem_at (op p i).signals (record { semaphore = 0; value = 0 }) k signal, refl, refl)

  -- R16: it is above 0
  pub signal_above : 0 < wait.value
  signal_above =
      let good = (rules_good p sound).0 in
      let inside = signal_inside p i k signal in
      omega (arith, above_earlier p good i wait.semaphore wait.value inside value_there)

  -- R17: on the signal's operation
  pub rests_there : rests_on (resolve p wait) i ≡ true
  rests_there =
      (rests_means p wait i).1 (record {
        value = wait.value;
        signalled = (wait, mem_at (op p i).signals (record { semaphore = 0; value = 0 }) k signal, refl, refl);
        enough = le_refl wait.value;
        least = λ n v s h. h;
        first = λ n s. by_cases (ltb n i)
            (λ t. absurd (lt_irrefl wait.value (rises p (rules_good p sound).0 n i wait.semaphore wait.value
            wait.value (ltb-true n i t) (signal_inside p i k signal)
            ((signals_means p n wait.semaphore wait.value).1 s) value_there)))
            (λ f. ltb-false n i f);
      })

-- ---- an operation at or before one of the queue is seen
queue_sees : (p : Plan) (q k : ℕ) → k < count p → (op p k).queue ≡ q → Seen p q k
unfolding last_on
queue_sees p q k l e =
    by_option (last_on p q)
    (λ n. absurd (eqb-false (op p k).queue q (highest_none (count p) (λ i. eqb (op p i).queue q) n k l) e))
    (λ j is. let last = (last_means p q j).0 is in (
      j,
      last,
      by_cases (ltb k j)
          (λ t. inr (once k j (direct_by p k j l last.operation (by_queue (ltb-true k j t) (e ∙ sym last.own)))))
          (λ f. by_cases (ltb j k) (λ t. absurd (last.last k (ltb-true j k t) l e))
          (λ g. inl (omega (arith, ltb-false k j f, ltb-false j k g)))),
    ))

-- ---- the last free decides
module _ (p : Plan) (sound : Sound p) (q b : ℕ)
    (forced : (k : ℕ) → k < length (buffer_marks p b) → Forced p b k)
    (m : Placed) (last : LastMark p b m) (free : m.kind ≡ 1) (unseen : Seen p q m.by → ⊥)
    (i k : ℕ) (signal : IsSignal p i k) where
  abbrev point : Point
  point = signal_at p i k

  abbrev there_after : Plan
  there_after = longer p q point

  in_longer : (j : ℕ) → Before there_after j (count p) ↔ BeforeLast p (waiting q point) (waiting_silent q point) j
  in_longer j = new_before p (waiting q point) (waiting_silent q point) j

  free_first : WaitFrees p q b point → At p m.by i
  unfolding waiting
  free_first h =
      let marked = mark_marked there_after b m
      (subst (λ (ms : List Placed). Memᴰ m ms) (sym (same_marks p q b point)) (last_in p q b m last)) in
      let w = (in_longer m.by).0 (h m.by marked) in
      of w.0 w.1 w.2 w.3
    where
      of : (n : ℕ) → n < count p → Because p (waiting q point) (waiting_silent q point) n → At p m.by n →
          At p m.by i
      of n l (same_queue e) at =
          let s = queue_sees p q n l e in
          absurd (unseen (s.0, s.1, at_join p m.by n s.0 at s.2))
      of n l (waited_for x t r) at =
          either (Memᴰ.cases_cons t)
          (λ e. let r' : rests_on (resolve p point) n ≡ true =
          subst (λ (z : Point). rests_on (resolve p z) n ≡ true) e r in
          subst (λ (z : ℕ). At p m.by z) (rests_one (resolve p point) n i r' (rests_there p sound i k signal)) at)
          (λ u. absurd (Memᴰ.not-nil u))

  first_frees : At p m.by i → WaitFrees p q b point
  unfolding waiting
  first_frees at j marked =
      let x = marked_mark there_after b j marked in
      let here : Marked p b j = subst (λ (z : ℕ). Marked p b z) x.2
      (mark_marked p b x.0 (subst (λ (ms : List Placed). Memᴰ x.0 ms) (same_marks p q b point) x.1)) in
      let before_free = marked_by_free p b forced m last free j here in
      (in_longer j).1 (
        i,
        signal_inside p i k signal,
        waited_for point (Memᴰ.head refl) (rests_there p sound i k signal),
        at_join p j m.by i before_free at,
      )

  pub frees_exactly : WaitFrees p q b point ↔ At p m.by i
  frees_exactly = (free_first, first_frees)

  pub frees_same : frees p q b point ≡ at_or_before p m.by i
  frees_same =
      let means = frees_means p q b point in
      let at = at_or_means p m.by i in
      by_cases (frees p q b point)
      (λ t. t ∙ sym (at.1 (frees_exactly.0 (means.0 t))))
      (λ f. f ∙ sym (is_false (at_or_before p m.by i)
      (λ t. clash (frees p q b point) (means.1 (frees_exactly.1 (at.0 t))) f)))
