-- What keeping asks is asked of operations that mark the buffer; what before forces every full run keeps, and what it
-- does not force some full run breaks. Assumes nothing.
use mathlib.Core.Path.{◌≡◌, refl, sym, subst}
use mathlib.Core.Bool.{Bool, true, false, ◌&&◌, ◌||◌, not, true≢false}
use mathlib.Core.List.Memᴰ
use mathlib.Core.List.{List, [], ◌∷◌, ◌++◌, Memᴰ}
use mathlib.Core.Option.{Option, none, some}
use Prim.Native.Nat.{ℕ, suc, ◌+◌, ◌<◌, zero-le}
use native.Mathlib.Nat.{le_refl, zero-add}
use native.Mathlib.Omega.{arith}
use lib.Dec.{ltb, eqb}
use lib.ListN.{length, get_or}
use borrow.Author.Tests.{eqb-true, eqb-false, eq-eqb, lt-ltb, le-ltb, not-true, not-false}
use Rattle.base_lists.specs.Lists.{all}
use Rattle.base_lists.proofs.Tests.{by_cases, clash, or_cases, or_left, or_right, either}
use Rattle.base_lists.proofs.Searches.{all_gives, all_by, all_fails, all_no, lowest_some, lowest_none}
use Rattle.base_lists.proofs.Tables.{join_gives, join_has}
use Rattle.order.specs.Runs.{step_of}
use Rattle.plan_format.specs.Plan.{Mark, Operation, Plan, empty_operation, count, op}
use Rattle.plan_order.specs.Precedence.{before}
use Rattle.plan_order.specs.Runs.{is_full, ahead}
use Rattle.plan_order.specs.Holdings.{Placed, placed, marks_of, marks_from, buffer_marks, marks_buffer, is_free}
use Rattle.plan_order.specs.Holdings.{freed_by, free_after, Ask, use_asks, later_asks, asks_from, asks, asked_of}
use Rattle.plan_order.specs.Holdings.{met, keeps, all_asks, has_broken, broken}
use Rattle.plan_order.proofs.Readiness.{WaitsGood}
use Rattle.plan_order.proofs.Precedence.{before_steps, unordered}

-- ---- a fact of every mark's operation
abbrev Each : (P : ℕ → Type 0) → List Placed → Type 0
Each P [] = Unit {0}
Each P (m ∷ ms) = P m.by × Each P ms

abbrev May : (P : ℕ → Type 0) → Option ℕ → Type 0
May P none = Unit {0}
May P (some j) = P j

each_append : (P : ℕ → Type 0) (ms ns : List Placed) → Each P ms → Each P ns → Each P (ms ++ ns)
each_append P [] ns a b = b
each_append P (m ∷ ms) ns a b = (a.0, each_append P ms ns a.1 b)

each_freed : (P : ℕ → Type 0) (ms : List Placed) → Each P ms → May P (freed_by ms)
unfolding freed_by
each_freed P [] a = tt
each_freed P (m ∷ ms) a = by_cases (is_free m) (λ t. rw t a.0) (λ f. rw f (each_freed P ms a.1))

after_may : (P : ℕ → Type 0) (g : Option ℕ) (m : Placed) → May P g → P m.by → May P (free_after g m)
unfolding free_after
after_may P g m a b = by_cases (is_free m) (λ t. rw t b) (λ f. rw f a)

marks_each : (P : ℕ → Type 0) (i b : ℕ) (ms : List Mark) → (0 < length (marks_of i b ms) → P i) →
    Each P (marks_of i b ms)
unfolding marks_of placed
marks_each P i b [] h = tt
marks_each P i b (m ∷ ms) h =
    by_cases (eqb m.buffer b)
    (λ t. let h' : 0 < suc (length (marks_of i b ms)) → P i = rw t at h in
    rw t (h' (omega arith), marks_each P i b ms (λ l. h' (omega arith))))
    (λ f. rw f (marks_each P i b ms (rw f at h)))

from_each : (P : ℕ → Type 0) (i b : ℕ) (os : List Operation) →
    ((k : ℕ) → k < length os → 0 < length (marks_of (i + k) b (get_or os k empty_operation).marks) → P (i + k)) →
    Each P (marks_from i b os)
unfolding marks_from
from_each P i b [] h = tt
from_each P i b (o ∷ os) h =
    each_append P (marks_of i b o.marks) (marks_from (suc i) b os)
    (marks_each P i b o.marks
    (subst (λ (z : ℕ). 0 < length (marks_of z b o.marks) → P z) (omega arith) (h 0 (omega arith))))
    (from_each P (suc i) b os
    (λ k l. subst (λ (z : ℕ). 0 < length (marks_of z b (get_or os k empty_operation).marks) → P z) (omega arith)
    (h (suc k) (omega arith))))

-- an operation of the plan that marks the buffer
pub record Marks (p : Plan) (b i : ℕ) : Type 0 where
  pub inside : i < count p
  pub marking : marks_buffer p i b ≡ true

buffer_each : (p : Plan) (b : ℕ) → Each (Marks p b) (buffer_marks p b)
unfolding buffer_marks marks_buffer count op
buffer_each p b =
    from_each (Marks p b) 0 b p.operations (λ k l h.
    subst (λ (z : ℕ). Marks p b z) (sym (zero-add k)) (record {
      inside = l;
      marking = lt-ltb 0 (length (marks_of k b (op p k).marks))
          (subst (λ (z : ℕ). 0 < length (marks_of z b (op p k).marks)) (zero-add k) h);
    }))

-- both ends of what is asked satisfy what every mark's operation does
module _ (P : ℕ → Type 0) where
  abbrev Both : Ask → Type 0
  Both a = P a.first × P a.then

  use_both : (m : Placed) (o : Option ℕ) → P m.by → May P o → (a : Ask) → Memᴰ a (use_asks m o) → Both a
  unfolding use_asks
  use_both m none x y a e = absurd (Memᴰ.not-nil e)
  use_both m (some f) x y a e =
      by_cases (is_free m) (λ t. absurd (Memᴰ.not-nil (rw t at e)))
      (λ n. either (Memᴰ.cases_cons (rw n at e)) (λ q. subst (λ (z : Ask). Both z) (sym q) (x, y))
      (λ z. absurd (Memᴰ.not-nil z)))

  later_both : (m : Placed) (o : Option ℕ) → P m.by → May P o → (a : Ask) → Memᴰ a (later_asks m o) → Both a
  unfolding later_asks
  later_both m none x y a e = absurd (Memᴰ.not-nil e)
  later_both m (some f) x y a e =
      either (Memᴰ.cases_cons e) (λ q. subst (λ (z : Ask). Both z) (sym q) (y, x))
      (λ z. absurd (Memᴰ.not-nil z))

  asks_both : (g : Option ℕ) (ms : List Placed) → May P g → Each P ms → (a : Ask) →
      Memᴰ a (asks_from g ms) → Both a
  unfolding asks_from
  asks_both g [] x y a e = absurd (Memᴰ.not-nil e)
  asks_both g (m ∷ ms) x y a e =
      let u = use_asks m (freed_by (m ∷ ms)) in
      either (Memᴰ.append_cases (u ++ later_asks m g) e)
      (λ t. either (Memᴰ.append_cases u t)
      (λ v. use_both m (freed_by (m ∷ ms)) y.0 (each_freed P (m ∷ ms) y) a v) (λ v. later_both m g y.0 x a v))
      (λ t. asks_both (free_after g m) ms (after_may P g m x y.0) y.1 a t)

pub asks_mark : (p : Plan) (b : ℕ) (a : Ask) → Memᴰ a (asks p b) → Marks p b a.first × Marks p b a.then
unfolding asks
asks_mark p b a e = asks_both (Marks p b) none (buffer_marks p b) tt (buffer_each p b) a e

-- the operation of which it is asked marks the buffer
pub asked_marks : (p : Plan) (b : ℕ) (a : Ask) → Memᴰ a (asks p b) → Marks p b (asked_of a)
unfolding asked_of
asked_marks p b a e =
    let w = asks_mark p b a e in
    by_cases a.same_allowed (λ t. rw t w.0) (λ f. rw f w.1)

-- ---- what is asked of all buffers
pub all_asks_gives : (p : Plan) (a : Ask) → Memᴰ a (all_asks p) →
    (b : ℕ) × (b < length p.sizes) × Memᴰ a (asks p b)
unfolding all_asks
all_asks_gives p a e =
    let w = join_gives (λ b. asks p b) (length p.sizes) 0 a e in (w.0, omega (arith, w.2), w.3)

pub all_asks_has : (p : Plan) (b : ℕ) (a : Ask) → b < length p.sizes → Memᴰ a (asks p b) →
    Memᴰ a (all_asks p)
unfolding all_asks
all_asks_has p b a l e = join_has (λ b. asks p b) (length p.sizes) 0 b a zero-le (omega arith) e

-- ---- met by one relation, so by a larger one; not met
pub met_more : (f g : ℕ → ℕ → Bool) (a : Ask) → (f a.first a.then ≡ true → g a.first a.then ≡ true) →
    met f a ≡ true → met g a ≡ true
unfolding met
met_more f g a h e =
    let same = a.same_allowed && eqb a.first a.then in
    either (or_cases same (f a.first a.then) e) (λ t. or_left same (g a.first a.then) t)
    (λ t. or_right same (g a.first a.then) (h t))

pub not_met : (f g : ℕ → ℕ → Bool) (a : Ask) → met f a ≡ false →
    (f a.first a.then ≡ false) × (g a.first a.then ≡ false → met g a ≡ false)
unfolding met
not_met f g a e =
    let same = a.same_allowed && eqb a.first a.then in
    by_cases same (λ t. absurd (true≢false (let z : true ≡ false = rw t at e in z))) (λ n. (rw n at e, λ h. rw n h))

-- ---- broken marks
module _ (p : Plan) where
  abbrev forced : ℕ → ℕ → Bool
  forced i j = before p i j

  -- the operation has a mark of which something is asked that before does not force
  pub record Breaks (i : ℕ) (a : Ask) : Type 0 where
    pub buffer : ℕ
    pub known : buffer < length p.sizes
    pub among : Memᴰ a (asks p buffer)
    pub asked : asked_of a ≡ i
    pub unforced : met forced a ≡ false

  broken_gives : (i : ℕ) → has_broken p (all_asks p) i ≡ true → (a : Ask) × Breaks i a
  unfolding has_broken
  broken_gives i e =
      let test : Ask → Bool = λ a. not (eqb (asked_of a) i) || met forced a in
      let w = all_fails test (all_asks p) (not-true (all test (all_asks p)) e) in
      let a = w.0 in
      let g = all_asks_gives p a w.1 in
      by_cases (eqb (asked_of a) i)
      (λ t. (
        a,
        record {
          buffer = g.0;
          known = g.1;
          among = g.2;
          asked = eqb-true (asked_of a) i t;
          unforced = rw t at w.2;
        },
      ))
      (λ f. absurd (true≢false (let z : true ≡ false = rw f at w.2 in z)))

  unbroken_forces : (i : ℕ) → has_broken p (all_asks p) i ≡ false → (a : Ask) → Memᴰ a (all_asks p) →
      asked_of a ≡ i → met forced a ≡ true
  unfolding has_broken
  unbroken_forces i e a m q =
      let test : Ask → Bool = λ a. not (eqb (asked_of a) i) || met forced a in
      let t = all_gives test (all_asks p) (not-false (all test (all_asks p)) e) a m in
      either (or_cases (not (eqb (asked_of a) i)) (met forced a) t)
      (λ n. clash (eqb (asked_of a) i) (eq-eqb (asked_of a) i q) (not-true (eqb (asked_of a) i) n)) (λ u. u)

  pub broken_some : (i : ℕ) → broken p ≡ some i →
      ((a : Ask) × Breaks i a) × ((a : Ask) → Memᴰ a (all_asks p) → asked_of a < i → met forced a ≡ true)
  unfolding broken
  broken_some i e =
      let w = lowest_some (count p) (λ i. has_broken p (all_asks p) i) i e in
      (broken_gives i w.passes, λ a m l. unbroken_forces (asked_of a) (w.lower (asked_of a) l) a m refl)

  pub broken_none : ◌≡◌ {A = Option ℕ} (broken p) none → (a : Ask) → Memᴰ a (all_asks p) → met forced a ≡ true
  unfolding broken
  broken_none e a m =
      let g = all_asks_gives p a m in
      unbroken_forces (asked_of a) (lowest_none (count p)
      (λ i. has_broken p (all_asks p) i) e (asked_of a) (asked_marks p g.0 a g.2).inside) a m refl

  -- what before forces holds in every full run
  pub forced_met : (r : List ℕ) → is_full p r ≡ true → (a : Ask) → met forced a ≡ true →
      met (λ i j. ahead r i j) a ≡ true
  unfolding ahead
  forced_met r full a e =
      met_more forced (λ i j. ahead r i j) a
      (λ t. lt-ltb (step_of 0 r a.first) (step_of 0 r a.then) (before_steps p r full a.first a.then t)) e

  module _ (waits_good : WaitsGood p) (std : List ℕ)
      (std_full : is_full p std ≡ true) where
    -- a full run that does not have i ahead of j, where before does not force it
    not_ahead : (i j : ℕ) → j < count p → before p i j ≡ false →
        (r : List ℕ) × (is_full p r ≡ true) × (ahead r i j ≡ false)
    unfolding ahead
    not_ahead i j b n =
        by_cases (eqb i j)
        (λ t. (
          std,
          std_full,
          subst (λ (z : ℕ). ltb (step_of 0 std i) (step_of 0 std z) ≡ false) (eqb-true i j t)
              (le-ltb (step_of 0 std i) (step_of 0 std i) (le_refl (step_of 0 std i))),
        ))
        (λ f. let w = unordered p waits_good std std_full i j b (eqb-false i j f) n in
        (w.0, w.1, le-ltb (step_of 0 w.0 i) (step_of 0 w.0 j) (omega (arith, w.2))))

    -- what before does not force some full run breaks
    pub unforced_breaks : (b : ℕ) (a : Ask) → Memᴰ a (asks p b) → met forced a ≡ false →
        (r : List ℕ) × (is_full p r ≡ true) × (met (λ i j. ahead r i j) a ≡ false)
    unforced_breaks b a m e =
        let n = not_met forced forced a e in
        let w = not_ahead a.first a.then (asks_mark p b a m).1.inside n.0 in
        (w.0, w.1, (not_met forced (λ i j. ahead w.0 i j) a e).1 w.2)

-- ---- keeping, by what is asked
pub keeps_gives : (p : Plan) (r : List ℕ) (b : ℕ) → keeps p r b ≡ true → (a : Ask) → Memᴰ a (asks p b) →
    met (λ i j. ahead r i j) a ≡ true
unfolding keeps
keeps_gives p r b h a m = all_gives (λ a. met (λ i j. ahead r i j) a) (asks p b) h a m

pub keeps_by : (p : Plan) (r : List ℕ) (b : ℕ) →
    ((a : Ask) → Memᴰ a (asks p b) → met (λ i j. ahead r i j) a ≡ true) → keeps p r b ≡ true
unfolding keeps
keeps_by p r b h = all_by (λ a. met (λ i j. ahead r i j) a) (asks p b) h

pub keeps_no : (p : Plan) (r : List ℕ) (b : ℕ) (a : Ask) → Memᴰ a (asks p b) → met (λ i j. ahead r i j) a ≡ false →
    keeps p r b ≡ false
unfolding keeps
keeps_no p r b a m e = all_no (λ a. met (λ i j. ahead r i j) a) (asks p b) a m e
