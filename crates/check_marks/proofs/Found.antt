-- What the two passes find is the lowest operation with a broken mark. Assumes nothing.
use mathlib.Core.Path.{◌≡◌, refl, sym, ap, ◌∙◌, subst}
use mathlib.Core.Bool.{Bool, true, false, not, cond}
use mathlib.Core.Logic.{◌⊎◌, inl, inr}
use mathlib.Core.List.Memᴰ
use mathlib.Core.List.{List, [], ◌∷◌, ◌++◌, Memᴰ}
use mathlib.Core.Option.{Option, none, some}
use Prim.Native.Nat.{ℕ, ◌≤◌, ◌<◌, min}
use native.Mathlib.Omega.{arith}
use lib.Dec.{ltb, eqb}
use lib.ListN.{length, length-set, length-replicate, get_or-replicate}
use lib.Seq.{get_or-set_same, get_or-set_other}
use borrow.Author.Tests.{ltb-true, ltb-false, eqb-true, eqb-false, eq-eqb, ne_eqb}
use Rattle.std.specs.Prelude.{unwrap_or, IfSome}
use Rattle.std.specs.Bool.{then_some}
use Rattle.std.specs.Prelude as option
use Rattle.base_lists.specs.Lists.{place_or}
use Rattle.base_lists.proofs.Tests.{by_cases, by_option, clash, either}
use Rattle.plan_format.specs.Sizes.{most_buffers, no_operation}
use Rattle.plan_format.specs.Plan.{Plan, count}
use Rattle.plan_format.specs.Sound.{Sound}
use Rattle.plan_order.specs.Precedence.{before, at_or_before}
use Rattle.plan_order.specs.Runs.{is_full}
use Rattle.plan_order.specs.Holdings.{is_free, freed_by, free_after, Ask, use_asks, later_asks, asked_of, met, all_asks}
use Rattle.plan_order.specs.Holdings.{broken}
use Rattle.plan_order.proofs.Keeping.{asked_marks, all_asks_has, broken_some, broken_none}
use Rattle.check_columns.specs.Columns.{QueueColumn, Marked, plan_marks, RowColumns}
use Rattle.check_marks.specs.Given.{MarksGiven}
use Rattle.check_columns.specs.Shown.{shown_from}
use Rattle.check_marks.specs.Passes.{none_noted, noted, free_in, noted_back, late, early, first_late, first_early}
use Rattle.check_marks.specs.Passes.{first_broken}
use Rattle.check_columns.proofs.Marks.{place, of_buffer, Each, Known, marks_known, Rising, marks_rising, marks_shown}
use Rattle.check_marks.proofs.Order.{late_right, late_nothing, early_nothing, early_right}
use Rattle.check_marks.proofs.Asks.{after, of_uses, of_reuses, none_yet, all_asks_split, uses_all, reuses_all}
use Rattle.check_marks.proofs.Asks.{uses_rising, reuses_rising}

-- ---- the first of a list that is not met
module _ (met : Ask → Bool) where
  unfoldable first_unmet : (n : ℕ) → List Ask → ℕ
  first_unmet n [] = n
  first_unmet n (a ∷ xs) = cond (met a) (first_unmet n xs) (asked_of a)

  unmet_append : (n : ℕ) (xs ys : List Ask) → first_unmet n (xs ++ ys) ≡ first_unmet (first_unmet n ys) xs
  unfolding first_unmet
  unmet_append n [] ys = refl
  unmet_append n (a ∷ xs) ys = rw (unmet_append n xs ys)

  unmet_found : (n : ℕ) (xs : List Ask) →
      (first_unmet n xs ≡ n) ⊎ ((a : Ask) × Memᴰ a xs × (met a ≡ false) × (asked_of a ≡ first_unmet n xs))
  unfolding first_unmet
  unmet_found n [] = inl refl
  unmet_found n (a ∷ xs) =
      by_cases (met a)
      (λ t. rw t (either (unmet_found n xs) (λ e. inl e) (λ w. inr (w.0, Memᴰ.tail w.1, w.2, w.3))))
      (λ f. rw f (inr (a, Memᴰ.head refl, f, refl)))

  rising_least : (i : ℕ) (xs : List Ask) (a : Ask) → Rising (λ a. asked_of a) i xs → Memᴰ a xs → i ≤ asked_of a
  rising_least i [] a r m = absurd (Memᴰ.not-nil m)
  rising_least i (y ∷ ys) a r m =
      either (Memᴰ.cases_cons m) (λ e. omega (arith, r.0, ap (λ (z : Ask). asked_of z) e))
      (λ t. omega (arith, r.0, rising_least (asked_of y) ys a r.1 t))

  unmet_least : (i n : ℕ) (xs : List Ask) (a : Ask) → Rising (λ a. asked_of a) i xs → Memᴰ a xs → met a ≡ false →
      first_unmet n xs ≤ asked_of a
  unfolding first_unmet
  unmet_least i n [] a r m e = absurd (Memᴰ.not-nil m)
  unmet_least i n (y ∷ ys) a r m e =
      by_cases (met y)
      (λ t. rw t (either (Memᴰ.cases_cons m) (λ q. clash (met y) t (subst (λ (z : Ask). met z ≡ false) q e))
      (λ u. unmet_least (asked_of y) n ys a r.1 u e)))
      (λ f. rw f (either (Memᴰ.cases_cons m) (λ q. omega (arith, ap (λ (z : Ask). asked_of z) q))
      (λ u. rising_least (asked_of y) ys a r.1 u)))

-- ---- the table
unfoldable code : Option ℕ → ℕ
code none = no_operation
code (some g) = g

record Shows (table : List ℕ) (last : ℕ → Option ℕ) : Type 0 where
  size : length table ≡ most_buffers
  frees : (b : ℕ) → b < most_buffers → free_in table b ≡ code (last b)

shows_none : Shows none_noted (λ b. none)
unfolding code
shows_none = record {
  size = length-replicate {A = ℕ} most_buffers no_operation;
  frees = λ b l. get_or-replicate most_buffers b no_operation 0 l;
}

module _ (last : ℕ → Option ℕ) (m : Marked) where
  after_free : (b : ℕ) → eqb m.buffer b ≡ true → eqb m.kind 1 ≡ true → after last m b ≡ some m.by
  unfolding after free_after is_free
  after_free b q t = rw q (rw t)

  after_use : (b : ℕ) → eqb m.kind 1 ≡ false → after last m b ≡ last b
  unfolding after free_after is_free
  after_use b f = by_cases (eqb m.buffer b) (λ q. rw q (rw f)) (λ q. rw q)

  after_other : (b : ℕ) → eqb m.buffer b ≡ false → after last m b ≡ last b
  unfolding after
  after_other b q = rw q

  -- a free is noted as its buffer's free; nothing else changes a free
  shows_noted : (table : List ℕ) → m.buffer < most_buffers → Shows table last → Shows (noted m table) (after last m)
  unfolding noted code
  shows_noted table l s =
      let at = m.buffer in
      let new = cond (eqb m.kind 1) m.by (free_in table at) in
      let own : free_in (noted m table) at ≡ code (after last m at) =
      get_or-set_same table at new 0 (omega (arith, s.size))
      ∙ by_cases (eqb m.kind 1) (λ t. rw (t, after_free at (eq-eqb at at refl) t))
      (λ f. rw (f, after_use at f) (s.frees at l)) in
      record {
        size = length-set table at new ∙ s.size;
        frees = λ b k. by_cases (eqb at b)
            (λ q. subst (λ (z : ℕ). free_in (noted m table) z ≡ code (after last m z)) (eqb-true at b q) own)
            (λ q. get_or-set_other table at b new 0 (omega (arith, eqb-false at b q)) ∙ s.frees b k
            ∙ rw (after_other b q));
      }

-- the next free of each buffer is the free of the holding of its next mark
freed_after : (m : Marked) (ms : List Marked) (b : ℕ) →
    freed_by (of_buffer b (m ∷ ms)) ≡ after (λ b. freed_by (of_buffer b ms)) m b
unfolding of_buffer after freed_by free_after
freed_after m ms b = by_cases (eqb m.buffer b) (λ t. rw t) (λ f. rw f)

-- the broken mark's operation is one of the plan
broken_inside : (p : Plan) (i : ℕ) → broken p ≡ some i → i < count p
broken_inside p i e =
    let w = (broken_some p i e).0 in omega (arith, w.1.asked, (asked_marks p w.1.buffer w.0 w.1.among).inside)

-- ---- the passes find the first that is not met
module _ (p : Plan) (sound : Sound p) (few : length p.sizes ≤ 256) (f : List ℕ) (full : is_full p f ≡ true)
    (queue rows : List ℕ)
    (queues_shown : QueueColumn p queue) (rows_shown : RowColumns p (λ j. j < count p) rows) where
  abbrev forced : Ask → Bool
  forced a = met (λ i j. before p i j) a

  -- a free, where there is one, is by an operation
  abbrev Inside : Option ℕ → Type 0
  Inside none = Unit {0}
  Inside (some g) = g < count p

  inside_after : (last : ℕ → Option ℕ) (m : Marked) → m.by < count p → ((b : ℕ) → Inside (last b)) → (b : ℕ) →
      Inside (after last m b)
  unfolding after free_after
  inside_after last m l h b =
      by_cases (eqb m.buffer b) (λ t. rw t (by_cases (is_free (place m)) (λ u. rw u l) (λ u. rw u (h b))))
      (λ t. rw t (h b))

  inside_freed : (ms : List Marked) → Each (Known p) ms → (b : ℕ) → Inside (freed_by (of_buffer b ms))
  unfolding of_buffer freed_by
  inside_freed [] k b = tt
  inside_freed (m ∷ ms) k b =
      rw (freed_after m ms b) (inside_after (λ b. freed_by (of_buffer b ms)) m k.0.by (inside_freed ms k.1) b)

  -- ---- uses
  free_first : (m : Marked) (o : Option ℕ) (n : ℕ) → is_free (place m) ≡ true →
      first_unmet forced n (use_asks (place m) o) ≡ n
  unfolding first_unmet use_asks
  free_first m none n t = refl
  free_first m (some g) n t = rw t

  use_first : (m : Marked) (o : Option ℕ) (n : ℕ) → m.by < count p → Inside o → is_free (place m) ≡ false →
      first_unmet forced n (use_asks (place m) o) ≡ cond (late queue rows m.by (code o)) m.by n
  unfolding first_unmet use_asks code
  use_first m none n a b t = rw (late_nothing p sound queue rows queues_shown rows_shown m.by)
  use_first m (some g) n a b t =
      rw (t, late_right p sound queue rows queues_shown rows_shown m.by g a b) (one (at_or_before p m.by g) refl)
    where
      one : (t : Bool) → at_or_before p m.by g ≡ t →
          cond (forced (record { first = m.by; then = g; same_allowed = true })) n
          (asked_of (record { first = m.by; then = g; same_allowed = true })) ≡
          cond (not (at_or_before p m.by g)) m.by n
      one true e = unfold met asked_of at_or_before in (rw e)
      one false e = unfold met asked_of at_or_before in (rw e)

  frees_shown : (ms : List Marked) → Each (Known p) ms → Shows (noted_back ms) (λ b. freed_by (of_buffer b ms))
  unfolding noted_back of_buffer freed_by
  frees_shown [] k = shows_none
  frees_shown (m ∷ ms) k =
      let s = shows_noted (λ b. freed_by (of_buffer b ms)) m (noted_back ms) (omega (arith, k.0.buffer))
      (frees_shown ms k.1) in
      record { size = s.size; frees = λ b l. s.frees b l ∙ ap (λ (o : Option ℕ). code o) (sym (freed_after m ms b)) }

  uses_found : (n : ℕ) (ms : List Marked) → Each (Known p) ms →
      first_late queue rows n ms ≡ first_unmet forced n (of_uses ms)
  unfolding first_late of_uses first_unmet is_free
  uses_found n [] k = refl
  uses_found n (m ∷ ms) k =
      let o = freed_by (of_buffer m.buffer (m ∷ ms)) in
      let rest = first_unmet forced n (of_uses ms) in
      let split = unmet_append forced n (use_asks (place m) o) (of_uses ms) in
      by_cases (eqb m.kind 1)
      (λ t. rw (ne_eqb m.kind 0 (omega (arith, eqb-true m.kind 1 t)), uses_found n ms k.1)
      (sym (split ∙ free_first m o rest t)))
      (λ t. let own = (frees_shown ms k.1).frees m.buffer (omega (arith, k.0.buffer))
      ∙ ap (λ (o : Option ℕ). code o)
      (sym (freed_after m ms m.buffer ∙ after_use (λ b. freed_by (of_buffer b ms)) m m.buffer t)) in
      rw (eq-eqb m.kind 0 (omega (arith, eqb-false m.kind 1 t, k.0.kind)), own, uses_found n ms k.1)
      (sym (split ∙ use_first m o rest k.0.by (inside_freed (m ∷ ms) k m.buffer) t)))

  -- ---- marks of later holdings
  reuse_first : (m : Marked) (o : Option ℕ) (n : ℕ) → m.by < count p → Inside o →
      first_unmet forced n (later_asks (place m) o) ≡ cond (early queue rows (code o) m.by) m.by n
  unfolding first_unmet later_asks code met asked_of
  reuse_first m none n a b = rw (early_nothing p sound queue rows queues_shown rows_shown m.by)
  reuse_first m (some g) n a b =
      rw (early_right p sound queue rows queues_shown rows_shown f full g m.by b a)
      (by_cases (before p g m.by) (λ t. rw t) (λ t. rw t))

  reuses_found : (n : ℕ) (ms : List Marked) (table : List ℕ) (last : ℕ → Option ℕ) → Shows table last →
      ((b : ℕ) → Inside (last b)) → Each (Known p) ms →
      first_early queue rows n table ms ≡ first_unmet forced n (of_reuses last ms)
  unfolding first_early of_reuses first_unmet
  reuses_found n [] table last s h k = refl
  reuses_found n (m ∷ ms) table last s h k =
      let low : m.buffer < 256 = omega (arith, k.0.buffer) in
      rw (
        s.frees m.buffer low,
        reuses_found n ms (noted m table) (after last m) (shows_noted last m table low s)
            (inside_after last m k.0.by h) k.1,
      )
      (sym (unmet_append forced n (later_asks (place m) (last m.buffer)) (of_reuses (after last m) ms)
      ∙ reuse_first m (last m.buffer) (first_unmet forced n (of_reuses (after last m) ms)) k.0.by
      (h m.buffer)))

  -- ---- the lower of the two
  abbrev found : List Ask → ℕ
  found xs = first_unmet forced (count p) xs

  module _ (xs : List Ask) (among : (a : Ask) → Memᴰ a xs → Memᴰ a (all_asks p)) where
    none_found : ◌≡◌ {A = Option ℕ} (broken p) none → found xs ≡ count p
    none_found e =
        either (unmet_found forced (count p) xs) (λ q. q)
        (λ w. clash (forced w.0) (broken_none p e w.0 (among w.0 w.1)) w.2)

    none_lower : (i : ℕ) → i < count p → broken p ≡ some i → i ≤ found xs
    none_lower i l e =
        either (unmet_found forced (count p) xs) (λ q. omega arith)
        (λ w. by_cases (ltb (found xs) i)
        (λ t. clash (forced w.0)
        ((broken_some p i e).1 w.0 (among w.0 w.1) (omega (arith, w.3, ltb-true (found xs) i t))) w.2)
        (λ t. ltb-false (found xs) i t))

  lowest_found : min (found (of_uses (plan_marks p))) (found (of_reuses none_yet (plan_marks p))) ≡
      place_or (count p) (broken p)
  unfolding place_or
  lowest_found =
      let us = of_uses (plan_marks p) in
      let rs = of_reuses none_yet (plan_marks p) in
      let known = marks_known p sound in
      by_option (broken p)
      (λ e. rw e (omega (arith, none_found us (uses_all p known) e, none_found rs (reuses_all p known) e)))
      (λ i e. let s = broken_some p i e in
      let a = s.0.0 in
      let b = s.0.1 in
      let inside = broken_inside p i e in
      let first = none_lower us (uses_all p known) i inside e in
      let second = none_lower rs (reuses_all p known) i inside e in
      rw e (either (all_asks_split p a (all_asks_has p b.buffer a b.known b.among))
      (λ m. omega (
        arith,
        b.asked,
        unmet_least forced 0 (count p) us a (uses_rising (plan_marks p) 0 (marks_rising p)) m b.unforced,
      ))
      (λ m. omega (
        arith,
        b.asked,
        unmet_least forced 0 (count p) rs a (reuses_rising (plan_marks p) none_yet 0 (marks_rising p)) m b.unforced,
      ))))

-- ---- the lower of the two
-- what is handed back for the lower number, which is n for none
pub lower_found : (n o many held cut x y lowest : ℕ) (queue mark operation rows : List ℕ)
    (r : option.Option ℕ) → o ≡ n →
    held ≡ min (length mark) (length operation) → cut ≡ min many held →
    x ≡ first_late queue rows o (shown_from mark operation cut 0) →
    y ≡ first_early queue rows o none_noted (shown_from mark operation cut 0) →
    lowest ≡ min x y → r ≡ then_some (not (eqb lowest o)) lowest →
    unwrap_or r n ≡ first_broken queue rows n many mark operation
unfolding first_broken
lower_found n o many held cut x y lowest queue mark operation rows r n_is h c l e low r_is =
    let all : lowest ≡ first_broken queue rows n many mark operation = rw (low, l, e, c, h, n_is) in
    by_cases (eqb lowest o)
    (λ t. rw (r_is, t) (sym n_is ∙ sym (eqb-true lowest o t) ∙ all))
    (λ f. rw (r_is, f) all)

-- and the number for none is not handed back
pub lower_apart : (n o lowest : ℕ) (r : option.Option ℕ) → o ≡ n → r ≡ then_some (not (eqb lowest o)) lowest →
    IfSome r (λ i. i ≡ n → ⊥)
lower_apart n o lowest r n_is r_is =
    by_cases (eqb lowest o)
    (λ t. rw (r_is, t) tt)
    (λ f. rw (r_is, f) (λ e. eqb-false lowest o f (e ∙ sym n_is)))

pub broken_found : (p : Plan) (n many : ℕ) (queue mark operation rows : List ℕ) →
    MarksGiven p n many queue mark operation rows →
    first_broken queue rows n many mark operation ≡ place_or n (broken p)
unfolding first_broken
broken_found p n many queue mark operation rows c =
    let known = marks_known p c.sound in
    let all : min many (min (length mark) (length operation)) ≡ many =
    omega (arith, c.marks_shown.room, c.marks_shown.operation_room) in
    rw (
      all,
      ← c.many,
      marks_shown p many mark operation c.sound c.few_buffers c.marks_shown,
      uses_found p c.sound c.few_buffers c.run c.full queue rows c.queues_shown c.rows_shown (count p)
          (plan_marks p) known,
      reuses_found p c.sound c.few_buffers c.run c.full queue rows c.queues_shown c.rows_shown
          (count p) (plan_marks p) none_noted none_yet shows_none (λ b. tt) known,
    )
    (lowest_found p c.sound c.few_buffers c.run c.full queue rows c.queues_shown c.rows_shown)

module _ {p : Plan} {n many : ℕ} {queue mark operation rows : List ℕ} where
  pub plans_by : {r : ℕ} → r ≡ first_broken queue rows n many mark operation →
      MarksGiven p n many queue mark operation rows → r ≡ place_or n (broken p)
  plans_by e c = e ∙ broken_found _ _ _ _ _ _ _ c

  -- an operation other than n is one of the plan
  pub below_by : (r : option.Option ℕ) → unwrap_or r n ≡ first_broken queue rows n many mark operation →
      IfSome r (λ i. i ≡ n → ⊥) → MarksGiven p n many queue mark operation rows → IfSome r (λ i. i < n)
  unfolding place_or
  below_by option.None e apart c = tt
  below_by (option.Some i) e apart c =
      let here = e ∙ broken_found _ _ _ _ _ _ _ c in
      by_option (broken p)
      (λ z. absurd (apart (rw z at here)))
      (λ j z. omega (arith, rw z at here, broken_inside p j z, c.many))
