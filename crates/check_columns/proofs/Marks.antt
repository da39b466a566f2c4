-- The marks of a plan: in range, in plan order, and those that the columns show. Assumes nothing.
use mathlib.Core.Path.{◌≡◌, refl, ap, ◌∙◌, subst}
use mathlib.Core.Bool.{cond}
use mathlib.Core.List.{List, [], ◌∷◌, ◌++◌}
use Prim.Native.Nat.{ℕ, zero, suc, ◌+◌, ◌-◌, ◌*◌, ◌/◌, ◌%◌, ◌≤◌, ◌<◌}
use native.Mathlib.Nat.{le_refl, zero-add, not-suc-le-zero, le_of_suc-le-suc}
use native.Mathlib.Numerals.{add-one}
use native.Mathlib.Omega.{arith}
use lib.Dec.{eqb}
use lib.ListN.{length, get_or}
use lib.Seq.{ext_get_or}
use Rattle.base_lists.specs.Lists.{tabulate_from}
use Rattle.base_lists.proofs.Tests.{by_cases}
use Rattle.base_lists.proofs.Tables.{tabulate_length, tabulate_at}
use Rattle.plan_format.specs.Sizes.{most_buffers, most_operations}
use Rattle.plan_format.specs.Plan.{Mark, Operation, Plan, empty_operation, count, op}
use Rattle.plan_format.specs.Sound.{Sound}
use Rattle.plan_order.specs.Holdings.{Placed, placed, marks_of, marks_from, buffer_marks}
use Rattle.check_columns.specs.Columns.{Marked, no_mark, marked_of, marked_from, plan_marks, MarkColumns}
use Rattle.check_columns.specs.Shown.{mark_codes, mark_of, shown_from}

-- ---- a fact of every mark
abbrev pub Each : (P : Marked → Type 0) → List Marked → Type 0
Each P [] = Unit {0}
Each P (m ∷ ms) = P m × Each P ms

module _ (P : Marked → Type 0) where
  each_append : (ms ns : List Marked) → Each P ms → Each P ns → Each P (ms ++ ns)
  each_append [] ns a b = b
  each_append (m ∷ ms) ns a b = (a.0, each_append ms ns a.1 b)

  each_of : (i : ℕ) (ms : List Mark) →
      ((k : ℕ) → k < length ms →
      P (record {
        by = i;
        buffer = (get_or ms k (record { buffer = 0; kind = 0 })).buffer;
        kind = (get_or ms k (record { buffer = 0; kind = 0 })).kind;
      })) →
      Each P (marked_of i ms)
  unfolding marked_of
  each_of i [] h = tt
  each_of i (m ∷ ms) h = (h 0 (omega arith), each_of i ms (λ k l. h (suc k) (omega arith)))

  each_from : (i : ℕ) (os : List Operation) →
      ((k : ℕ) → k < length os → Each P (marked_of (i + k) (get_or os k empty_operation).marks)) →
      Each P (marked_from i os)
  unfolding marked_from
  each_from i [] h = tt
  each_from i (o ∷ os) h =
      each_append (marked_of i o.marks) (marked_from (suc i) os)
      (subst (λ (z : ℕ). Each P (marked_of z o.marks)) (omega arith) (h 0 (omega arith)))
      (each_from (suc i) os
      (λ k l. subst (λ (z : ℕ). Each P (marked_of z (get_or os k empty_operation).marks)) (omega arith)
      (h (suc k) (omega arith))))

  pub each_at : (ms : List Marked) → Each P ms → (k : ℕ) → k < length ms → P (get_or ms k no_mark)
  each_at [] a k l = absurd (not-suc-le-zero l)
  each_at (m ∷ ms) a zero l = a.0
  each_at (m ∷ ms) a (suc k) l = each_at ms a.1 k (le_of_suc-le-suc l)

-- what a mark names is in the plan
pub record Known (p : Plan) (m : Marked) : Type 0 where
  pub by : m.by < count p
  pub buffer : m.buffer < length p.sizes
  pub kind : m.kind < 2

pub marks_known : (p : Plan) → Sound p → Each (Known p) (plan_marks p)
unfolding plan_marks count op
marks_known p sound =
    each_from (Known p) 0 p.operations (λ k l. rw (zero-add k)
    (each_of (Known p) k (op p k).marks
    (λ j b. record { by = l; buffer = (sound.in_range k l).marks j b; kind = (sound.in_range k l).kinds j b })))

-- ---- in order of a key, from a number on
abbrev pub Rising : {A : Type 0} → (key : A → ℕ) → ℕ → List A → Type 0
Rising key i [] = Unit {0}
Rising key i (x ∷ xs) = (i ≤ key x) × Rising key (key x) xs

pub rising_down : {A : Type 0} (key : A → ℕ) (i j : ℕ) (xs : List A) → j ≤ i → Rising key i xs → Rising key j xs
rising_down key i j [] l h = tt
rising_down key i j (x ∷ xs) l h = (omega arith, h.1)

rising_of : (i : ℕ) (ms : List Mark) (rest : List Marked) → Rising (λ m. m.by) i rest →
    Rising (λ m. m.by) i (marked_of i ms ++ rest)
unfolding marked_of
rising_of i [] rest h = h
rising_of i (m ∷ ms) rest h = (le_refl i, rising_of i ms rest h)

rising_from : (i : ℕ) (os : List Operation) → Rising (λ m. m.by) i (marked_from i os)
unfolding marked_from
rising_from i [] = tt
rising_from i (o ∷ os) =
    rising_of i o.marks (marked_from (suc i) os)
    (rising_down (λ m. m.by) (suc i) i (marked_from (suc i) os) (omega arith) (rising_from (suc i) os))

pub marks_rising : (p : Plan) → Rising (λ m. m.by) 0 (plan_marks p)
unfolding plan_marks
marks_rising p = rising_from 0 p.operations

-- ---- the columns show the marks
same_mark : (x : Marked) (m i : ℕ) → m ≡ 2 * x.buffer + x.kind → i ≡ x.by → x.buffer < most_buffers → x.kind < 2 →
    x.by < most_operations → mark_of (m % mark_codes) (i % most_operations) ≡ x
same_mark x m i e f l h u =
    let o : i % most_operations ≡ x.by = omega arith in
    let b : m % mark_codes / 2 ≡ x.buffer = omega arith in
    let k : m % mark_codes % 2 ≡ x.kind = omega arith in
    λ j. record { by = o j; buffer = b j; kind = k j }

pub marks_shown : (p : Plan) (many : ℕ) (mark operation : List ℕ) → Sound p → length p.sizes ≤ most_buffers →
    MarkColumns p many mark operation →
    shown_from mark operation many 0 ≡ plan_marks p
marks_shown p many mark operation sound few c =
    let f : ℕ → Marked = λ k. mark_of (get_or mark k 0 % mark_codes) (get_or operation k 0 % most_operations) in
    let long = tabulate_length f many 0 in
    ext_get_or no_mark (tabulate_from many 0 f) (plan_marks p) (long ∙ c.all) (λ k l.
    let b : k < many = omega (arith, long) in
    let m = each_at (Known p) (plan_marks p) (marks_known p sound) k (omega (arith, c.all)) in
    tabulate_at f many 0 k no_mark b ∙ ap f (zero-add k)
    ∙ same_mark (get_or (plan_marks p) k no_mark) (get_or mark k 0) (get_or operation k 0) (c.marks k b)
    (c.operations k b)
    (omega (arith, m.buffer)) m.kind (omega (arith, m.by, sound.few_operations)))

-- one mark after the other
module _ (mark operation : List ℕ) where
  pub shown_none : (many k : ℕ) → many ≤ k → shown_from mark operation (many - k) k ≡ []
  unfolding tabulate_from
  shown_none many k l = let e : many - k ≡ 0 = omega arith in rw e

  pub shown_next : (many k : ℕ) → k < many →
      shown_from mark operation (many - k) k ≡
      mark_of (get_or mark k 0 % mark_codes) (get_or operation k 0 % most_operations)
      ∷ shown_from mark operation (many - (k + 1)) (k + 1)
  unfolding tabulate_from
  shown_next many k l = let e : many - k ≡ suc (many - (k + 1)) = omega arith in rw (e, add-one k)

-- ---- the marks of one buffer
abbrev pub place : Marked → Placed
place m = record { by = m.by; kind = m.kind }

unfoldable pub of_buffer : (b : ℕ) → List Marked → List Placed
of_buffer b [] = []
of_buffer b (m ∷ ms) = cond (eqb m.buffer b) (place m ∷ of_buffer b ms) (of_buffer b ms)

pub of_append : (b : ℕ) (ms ns : List Marked) → of_buffer b (ms ++ ns) ≡ of_buffer b ms ++ of_buffer b ns
unfolding of_buffer
of_append b [] ns = refl
of_append b (m ∷ ms) ns = by_cases (eqb m.buffer b) (λ t. rw (t, of_append b ms ns)) (λ f. rw (f, of_append b ms ns))

of_marked : (i b : ℕ) (ms : List Mark) → of_buffer b (marked_of i ms) ≡ marks_of i b ms
unfolding of_buffer marked_of marks_of placed
of_marked i b [] = refl
of_marked i b (m ∷ ms) = by_cases (eqb m.buffer b) (λ t. rw (t, of_marked i b ms)) (λ f. rw (f, of_marked i b ms))

of_from : (i b : ℕ) (os : List Operation) → of_buffer b (marked_from i os) ≡ marks_from i b os
unfolding of_buffer marked_from marks_from
of_from i b [] = refl
of_from i b (o ∷ os) = of_append b (marked_of i o.marks) (marked_from (suc i) os)
    ∙ rw (of_marked i b o.marks, of_from (suc i) b os)

pub of_plan : (p : Plan) (b : ℕ) → of_buffer b (plan_marks p) ≡ buffer_marks p b
unfolding plan_marks buffer_marks
of_plan p b = of_from 0 b p.operations
