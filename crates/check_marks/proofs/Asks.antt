-- What keeping asks, by the marks of all buffers in plan order: of each use against the next free of its buffer, and of
-- each mark against the last free of its buffer before it. Assumes nothing.
use mathlib.Core.Path.{◌≡◌, refl, sym, subst}
use mathlib.Core.Bool.{false, cond}
use mathlib.Core.Logic.{◌⊎◌, inl, inr}
use mathlib.Core.List.{List, [], ◌∷◌, ◌++◌, Memᴰ}
use mathlib.Core.Option.{Option, none, some}
use Prim.Native.Nat.{ℕ, ◌≤◌, ◌<◌}
use lib.Dec.{eqb}
use lib.ListN.{length}
use borrow.Author.Tests.{eqb-true, eq-eqb}
use Rattle.base_lists.proofs.Tests.{by_cases, either}
use Rattle.plan_format.specs.Plan.{Plan}
use Rattle.plan_order.specs.Holdings.{is_free, freed_by, free_after, Ask, use_asks, later_asks, asks_from, asks}
use Rattle.plan_order.specs.Holdings.{asked_of, all_asks}
use Rattle.plan_order.proofs.Keeping.{all_asks_gives, all_asks_has}
use Rattle.check_columns.specs.Columns.{Marked, plan_marks}
use Rattle.check_columns.proofs.Marks.{place, of_buffer, of_plan, Each, Known, Rising, rising_down}

-- ---- the last free of each buffer, after one more mark
unfoldable pub after : (last : ℕ → Option ℕ) → Marked → ℕ → Option ℕ
after last m b = cond (eqb m.buffer b) (free_after (last b) (place m)) (last b)

abbrev pub none_yet : ℕ → Option ℕ
none_yet b = none

-- what is asked of uses, and of marks of later holdings
unfoldable pub of_uses : List Marked → List Ask
of_uses [] = []
of_uses (m ∷ ms) = use_asks (place m) (freed_by (of_buffer m.buffer (m ∷ ms))) ++ of_uses ms

unfoldable pub of_reuses : (last : ℕ → Option ℕ) → List Marked → List Ask
of_reuses last [] = []
of_reuses last (m ∷ ms) = later_asks (place m) (last m.buffer) ++ of_reuses (after last m) ms

-- what is asked of a buffer's marks from a place on: of a mark of the buffer, and of the rest
module _ (last : ℕ → Option ℕ) (m : Marked) (ms : List Marked) where
  asks_here :
      asks_from (last m.buffer) (of_buffer m.buffer (m ∷ ms))
      ≡ use_asks (place m) (freed_by (of_buffer m.buffer (m ∷ ms))) ++ later_asks (place m) (last m.buffer)
      ++ asks_from (after last m m.buffer) (of_buffer m.buffer ms)
  unfolding of_buffer asks_from after
  asks_here = rw (eq-eqb m.buffer m.buffer refl)

  asks_there : (b : ℕ) → eqb m.buffer b ≡ false →
      asks_from (last b) (of_buffer b (m ∷ ms)) ≡ asks_from (after last m b) (of_buffer b ms)
  unfolding of_buffer after
  asks_there b f = rw f

  asks_rest : (b : ℕ) (a : Ask) → Memᴰ a (asks_from (after last m b) (of_buffer b ms)) →
      Memᴰ a (asks_from (last b) (of_buffer b (m ∷ ms)))
  asks_rest b a e =
      by_cases (eqb m.buffer b)
      (λ t. subst (λ (z : ℕ). Memᴰ a (asks_from (last z) (of_buffer z (m ∷ ms))))
      (eqb-true m.buffer b t) (rw asks_here
      (mathlib.Core.List.Memᴰ.append_right
      (use_asks (place m) (freed_by (of_buffer m.buffer (m ∷ ms))) ++ later_asks (place m) (last m.buffer))
      (subst (λ (z : ℕ). Memᴰ a (asks_from (after last m z) (of_buffer z ms)))
      (sym (eqb-true m.buffer b t)) e))))
      (λ f. rw (asks_there b f) e)

-- ---- both ways
pub asks_split : (ms : List Marked) (last : ℕ → Option ℕ) (b : ℕ) (a : Ask) →
    Memᴰ a (asks_from (last b) (of_buffer b ms)) →
    Memᴰ a (of_uses ms) ⊎ Memᴰ a (of_reuses last ms)
unfolding of_uses of_reuses of_buffer asks_from
asks_split [] last b a e = absurd (mathlib.Core.List.Memᴰ.not-nil e)
asks_split (m ∷ ms) last b a e =
    let u = use_asks (place m) (freed_by (of_buffer m.buffer (m ∷ ms))) in
    let l = later_asks (place m) (last m.buffer) in
    let rest : Memᴰ a (asks_from (after last m b) (of_buffer b ms)) →
    Memᴰ a (of_uses (m ∷ ms)) ⊎ Memᴰ a (of_reuses last (m ∷ ms)) =
    λ t. either (asks_split ms (after last m) b a t) (λ v. inl (mathlib.Core.List.Memᴰ.append_right u v))
    (λ v. inr (mathlib.Core.List.Memᴰ.append_right l v)) in
    by_cases (eqb m.buffer b)
    (λ t. let same = eqb-true m.buffer b t in
    let here = rw (asks_here last m ms)
    at (subst (λ (z : ℕ). Memᴰ a (asks_from (last z) (of_buffer z (m ∷ ms)))) (sym same) e) in
    either (mathlib.Core.List.Memᴰ.append_cases (u ++ l) here)
    (λ h. either (mathlib.Core.List.Memᴰ.append_cases u h) (λ v.
    inl (mathlib.Core.List.Memᴰ.append_left (of_uses ms) v))
    (λ v. inr (mathlib.Core.List.Memᴰ.append_left (of_reuses (after last m) ms) v)))
    (λ h. rest (subst (λ (z : ℕ). Memᴰ a (asks_from (after last m z) (of_buffer z ms))) same h)))
    (λ f. rest (rw (asks_there last m ms b f) at e))

module _ (p : Plan) where
  abbrev Asked : (last : ℕ → Option ℕ) → List Marked → Ask → Type 0
  Asked last ms a = (b : ℕ) × (b < length p.sizes) × Memᴰ a (asks_from (last b) (of_buffer b ms))

  uses_asked : (ms : List Marked) (last : ℕ → Option ℕ) (a : Ask) → Each (Known p) ms → Memᴰ a (of_uses ms) →
      Asked last ms a
  unfolding of_uses
  uses_asked [] last a k e = absurd (mathlib.Core.List.Memᴰ.not-nil e)
  uses_asked (m ∷ ms) last a k e =
      let u = use_asks (place m) (freed_by (of_buffer m.buffer (m ∷ ms))) in
      let l = later_asks (place m) (last m.buffer) in
      either (mathlib.Core.List.Memᴰ.append_cases u e)
      (λ t. (
        m.buffer,
        k.0.buffer,
        rw (asks_here last m ms)
            (mathlib.Core.List.Memᴰ.append_left (asks_from (after last m m.buffer) (of_buffer m.buffer ms))
            (mathlib.Core.List.Memᴰ.append_left l t)),
      ))
      (λ t. let w = uses_asked ms (after last m) a k.1 t in (w.0, w.1, asks_rest last m ms w.0 a w.2))

  reuses_asked : (ms : List Marked) (last : ℕ → Option ℕ) (a : Ask) → Each (Known p) ms →
      Memᴰ a (of_reuses last ms) → Asked last ms a
  unfolding of_reuses
  reuses_asked [] last a k e = absurd (mathlib.Core.List.Memᴰ.not-nil e)
  reuses_asked (m ∷ ms) last a k e =
      let u = use_asks (place m) (freed_by (of_buffer m.buffer (m ∷ ms))) in
      let l = later_asks (place m) (last m.buffer) in
      either (mathlib.Core.List.Memᴰ.append_cases l e)
      (λ t. (
        m.buffer,
        k.0.buffer,
        rw (asks_here last m ms)
            (mathlib.Core.List.Memᴰ.append_left (asks_from (after last m m.buffer) (of_buffer m.buffer ms))
            (mathlib.Core.List.Memᴰ.append_right u t)),
      ))
      (λ t. let w = reuses_asked ms (after last m) a k.1 t in (w.0, w.1, asks_rest last m ms w.0 a w.2))

  pub all_asks_split : (a : Ask) → Memᴰ a (all_asks p) →
      Memᴰ a (of_uses (plan_marks p)) ⊎ Memᴰ a (of_reuses none_yet (plan_marks p))
  unfolding asks
  all_asks_split a e =
      let w = all_asks_gives p a e in asks_split (plan_marks p) none_yet w.0 a (rw (of_plan p w.0) w.2)

  asked_all : (a : Ask) → Asked none_yet (plan_marks p) a → Memᴰ a (all_asks p)
  unfolding asks
  asked_all a w = all_asks_has p w.0 a w.1 (rw (of_plan p w.0) at w.2)

  pub uses_all : Each (Known p) (plan_marks p) → (a : Ask) → Memᴰ a (of_uses (plan_marks p)) →
      Memᴰ a (all_asks p)
  uses_all k a e = asked_all a (uses_asked (plan_marks p) none_yet a k e)

  pub reuses_all : Each (Known p) (plan_marks p) → (a : Ask) → Memᴰ a (of_reuses none_yet (plan_marks p)) →
      Memᴰ a (all_asks p)
  reuses_all k a e = asked_all a (reuses_asked (plan_marks p) none_yet a k e)

-- ---- in the order of their marks' operations
rising_use : (m : Marked) (o : Option ℕ) (i : ℕ) (rest : List Ask) → i ≤ m.by → Rising (λ a. asked_of a) m.by rest →
    Rising (λ a. asked_of a) i (use_asks (place m) o ++ rest)
unfolding use_asks asked_of
rising_use m none i rest l h = rising_down (λ a. asked_of a) m.by i rest l h
rising_use m (some f) i rest l h =
    by_cases (is_free (place m)) (λ t. rw t (rising_down (λ a. asked_of a) m.by i rest l h)) (λ n. rw n (l, h))

rising_later : (m : Marked) (o : Option ℕ) (i : ℕ) (rest : List Ask) → i ≤ m.by →
    Rising (λ a. asked_of a) m.by rest → Rising (λ a. asked_of a) i (later_asks (place m) o ++ rest)
unfolding later_asks asked_of
rising_later m none i rest l h = rising_down (λ a. asked_of a) m.by i rest l h
rising_later m (some f) i rest l h = (l, h)

pub uses_rising : (ms : List Marked) (i : ℕ) → Rising (λ m. m.by) i ms → Rising (λ a. asked_of a) i (of_uses ms)
unfolding of_uses
uses_rising [] i h = tt
uses_rising (m ∷ ms) i h =
    rising_use m (freed_by (of_buffer m.buffer (m ∷ ms))) i (of_uses ms) h.0 (uses_rising ms m.by h.1)

pub reuses_rising : (ms : List Marked) (last : ℕ → Option ℕ) (i : ℕ) → Rising (λ m. m.by) i ms →
    Rising (λ a. asked_of a) i (of_reuses last ms)
unfolding of_reuses
reuses_rising [] last i h = tt
reuses_rising (m ∷ ms) last i h =
    rising_later m (last m.buffer) i (of_reuses (after last m) ms) h.0
    (reuses_rising ms (after last m) m.by h.1)
