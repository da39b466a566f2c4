-- What some operations add to a column, as the plan's lists say it. Assumes nothing.
use mathlib.Core.Path.{◌≡◌, refl, sym, ap, ap₂, ◌∙◌, subst}
use mathlib.Core.List.{List, [], ◌∷◌, ◌++◌, map}
use Prim.Native.Nat.{ℕ, zero, suc, ◌+◌, ◌*◌, ◌%◌, ◌≤◌, ◌<◌}
use native.Mathlib.Nat.{not-suc-le-zero, le_of_suc-le-suc, mul-suc}
use native.Mathlib.Omega.{arith}
use lib.Dec.{ltb}
use lib.ListN.{length, get_or, drop, length-append, get_or-append, get_or-eq_default}
use lib.Seq.{get_or-append-add, drop-drop}
use borrow.Author.Tests.{ltb-true, ltb-false}
use Rattle.base_lists.specs.Lists.{tabulate_from}
use Rattle.base_lists.proofs.Stores.{map_append, tabulate_map}
use Rattle.base_lists.proofs.Tables.{tabulate_length, tabulate_at}
use Rattle.base_lists.proofs.Tests.{by_cases}
use Rattle.plan_format.specs.Sizes.{no_wait}
use Rattle.plan_format.specs.Plan.{Point, Mark, Operation, empty_operation, operation_long, operations_in}
use Rattle.plan_order.specs.Precedence.{Signal, no_signal, signals_of, signals_from}
use Rattle.check_columns.specs.Columns.{no_point, Marked, no_mark, marked_of, marked_from}
use Rattle.check_columns.specs.Filling.{three, Part, wait_count, signal_count, mark_count, signals_at, marks_at}
use Rattle.check_columns.specs.Filling.{first_at, second_at, next_at, queue_part, wait_semaphore_part}
use Rattle.check_columns.specs.Filling.{wait_value_part, signal_semaphore_part, signal_value_part}
use Rattle.check_columns.specs.Filling.{signal_operation_part, mark_part, mark_operation_part, parts}
use Rattle.check_columns.proofs.Operations.{plain_mark, Fits, here, next_is, queue_is, waits_many, signals_many}
use Rattle.check_columns.proofs.Operations.{marks_many, wait_semaphore_is, wait_value_is, signal_semaphore_is}
use Rattle.check_columns.proofs.Operations.{signal_value_is, mark_buffer_is, mark_kind_is}

-- ---- lists of operations, one after the other
unfoldable pub joined : {A : Type 0} → (of : ℕ → Operation → List A) → (i : ℕ) → List Operation → List A
joined of i [] = []
joined of i (o ∷ os) = of i o ++ joined of (suc i) os

module _ {A : Type 0} (of : ℕ → Operation → List A) where
  -- at most so many each
  pub joined_few : (c i : ℕ) (os : List Operation) →
      ((j : ℕ) → j < length os → length (of (i + j) (get_or os j empty_operation)) ≤ c) →
      length (joined of i os) ≤ c * length os
  unfolding joined
  joined_few c i [] h = omega arith
  joined_few c i (o ∷ os) h =
      let first : length (of i o) ≤ c = subst (λ (z : ℕ). length (of z o) ≤ c) (omega arith) (h 0 (omega arith)) in
      omega (
        arith,
        length-append (of i o) (joined of (suc i) os),
        mul-suc c (length os),
        joined_few c (suc i) os
            (λ j l. subst (λ (z : ℕ). length (of z (get_or os j empty_operation)) ≤ c) (omega arith)
            (h (suc j) (omega arith))),
      )

  -- as many each
  module _ (width : ℕ) (even : (i : ℕ) (o : Operation) → length (of i o) ≡ width) where
    pub joined_long : (i : ℕ) (os : List Operation) → length (joined of i os) ≡ width * length os
    unfolding joined
    joined_long i [] = omega arith
    joined_long i (o ∷ os) = omega (
      arith,
      length-append (of i o) (joined of (suc i) os),
      even i o,
      joined_long (suc i) os,
      mul-suc width (length os),
    )

    pub joined_at : (i : ℕ) (os : List Operation) (j c : ℕ) (d : A) → j < length os → c < width →
        get_or (joined of i os) (width * j + c) d ≡ get_or (of (i + j) (get_or os j empty_operation)) c d
    unfolding joined
    joined_at i [] j c d l b = absurd (not-suc-le-zero l)
    joined_at i (o ∷ os) zero c d l b =
        ap (λ (z : ℕ). get_or (of i o ++ joined of (suc i) os) z d) (let e : width * 0 + c ≡ c = omega arith in e)
        ∙ get_or-append (of i o) (joined of (suc i) os) d c (omega (arith, even i o))
        ∙ ap (λ (z : ℕ). get_or (of z o) c d) (let e : i ≡ i + 0 = omega arith in e)
    joined_at i (o ∷ os) (suc j) c d l b =
        ap (λ (z : ℕ). get_or (of i o ++ joined of (suc i) os) z d)
        (let e : width * suc j + c ≡ length (of i o) + (width * j + c) = omega (arith, even i o, mul-suc width j) in e)
        ∙ get_or-append-add (of i o) (joined of (suc i) os) (width * j + c) d
        ∙ joined_at (suc i) os j c d (le_of_suc-le-suc l) b
        ∙ ap (λ (z : ℕ). get_or (of z (get_or os j empty_operation)) c d) (let e : suc i + j ≡ i + suc j =
        omega arith in e)

-- ---- parts of operations that fit are what the operations say
module _ (X : List ℕ) {A : Type 0} (f : Part) (h : A → ℕ) (of : ℕ → Operation → List A)
    (same : (i at : ℕ) → Fits (here X at) → f i at ≡ map h (of i (here X at))) where
  pub parts_map : (n i at : ℕ) → ((j : ℕ) → j < n → Fits (get_or (operations_in n (drop at X)) j empty_operation)) →
      parts X f n i at ≡ map h (joined of i (operations_in n (drop at X)))
  unfolding parts joined operations_in
  parts_map zero i at fit = refl
  parts_map (suc n) i at fit =
      let fits = fit 0 (omega arith) in
      let on : drop (next_at X at) X ≡ drop (operation_long (drop at X)) (drop at X) =
      ap (λ (z : ℕ). drop z X) (next_is X at fits) ∙ sym (drop-drop (operation_long (drop at X)) at X) in
      let rest = parts_map n (suc i) (next_at X at) (rw on (λ j l. fit (suc j) (omega arith))) in
      ap₂ (λ (x y : List ℕ). x ++ y) (same i at fits) (rw on at rest)
      ∙ sym (map_append h (of i (here X at))
      (joined of (suc i) (operations_in n (drop (operation_long (drop at X)) (drop at X)))))

-- ---- each column
signal_at : (i a : ℕ) (xs : List Point) (j : ℕ) → j < length xs →
    get_or (signals_of i a xs) j no_signal ≡ record {
      operation = i;
      position = a + j;
      semaphore = (get_or xs j no_point).semaphore;
      value = (get_or xs j no_point).value;
    }
unfolding signals_of
signal_at i a [] j l = absurd (not-suc-le-zero l)
signal_at i a (x ∷ xs) zero l = let e : a ≡ a + 0 = omega arith in
    λ k. record { operation = i; position = e k; semaphore = x.semaphore; value = x.value }
signal_at i a (x ∷ xs) (suc j) l =
    signal_at i (suc a) xs j (le_of_suc-le-suc l)
    ∙ (let e : suc a + j ≡ a + suc j = omega arith in
    λ k.
    record {
      operation = i;
      position = e k;
      semaphore = (get_or xs j no_point).semaphore;
      value = (get_or xs j no_point).value;
    })

pub signals_long : (i a : ℕ) (xs : List Point) → length (signals_of i a xs) ≡ length xs
unfolding signals_of
signals_long i a [] = refl
signals_long i a (x ∷ xs) = ap suc (signals_long i (suc a) xs)

marked_at : (i : ℕ) (ms : List Mark) (j : ℕ) → j < length ms →
    get_or (marked_of i ms) j no_mark ≡
    record { by = i; buffer = (get_or ms j plain_mark).buffer; kind = (get_or ms j plain_mark).kind }
unfolding marked_of
marked_at i [] j l = absurd (not-suc-le-zero l)
marked_at i (m ∷ ms) zero l = refl
marked_at i (m ∷ ms) (suc j) l = marked_at i ms j (le_of_suc-le-suc l)

pub marked_long : (i : ℕ) (ms : List Mark) → length (marked_of i ms) ≡ length ms
unfolding marked_of
marked_long i [] = refl
marked_long i (m ∷ ms) = ap suc (marked_long i ms)

abbrev pub three_waits : ℕ → Operation → List Point
three_waits i o = tabulate_from 3 0 (λ j. get_or o.waits j no_point)

abbrev pub its_signals : ℕ → Operation → List Signal
its_signals i o = signals_of i 0 o.signals

abbrev pub its_marks : ℕ → Operation → List Marked
its_marks i o = marked_of i o.marks

abbrev pub code_of : Marked → ℕ
code_of m = 2 * m.buffer + m.kind

pub signals_joined : (i : ℕ) (os : List Operation) → joined its_signals i os ≡ signals_from i os
unfolding joined signals_from
signals_joined i [] = refl
signals_joined i (o ∷ os) = rw (signals_joined (suc i) os)

pub marks_joined : (i : ℕ) (os : List Operation) → joined its_marks i os ≡ marked_from i os
unfolding joined marked_from
marks_joined i [] = refl
marks_joined i (o ∷ os) = rw (marks_joined (suc i) os)

-- each of three numbers is the wait's, and past the last wait what means none
three_is : (h : Point → ℕ) (number : ℕ → ℕ) (many : ℕ) (xs : List Point) → h no_point ≡ no_wait → many ≡ length xs →
    ((j : ℕ) → j < length xs → number j ≡ h (get_or xs j no_point)) → (j : ℕ) →
    three many number j ≡ h (get_or xs j no_point)
three_is h number many xs z e same j =
    by_cases (ltb j many) (λ t. rw t (same j (omega (arith, ltb-true j many t))))
    (λ f. rw f (sym (ap h (get_or-eq_default xs no_point (omega (arith, ltb-false j many f))) ∙ z)))

waits_map : (f : ℕ → ℕ) (h : Point → ℕ) (i : ℕ) (o : Operation) → ((j : ℕ) → f j ≡ h (get_or o.waits j no_point)) →
    tabulate_from 3 0 f ≡ map h (three_waits i o)
waits_map f h i o same =
    let g : ℕ → Point = λ j. get_or o.waits j no_point in
    tabulate_map f h no_point 3 (three_waits i o) (tabulate_length g 3 0)
    (λ j l. same j ∙ sym (ap h (tabulate_at g 3 0 j no_point l ∙ ap g (let e : 0 + j ≡ j = omega arith in e))))

module _ (X : List ℕ) (i at : ℕ) (fits : Fits (here X at)) where
  abbrev o : Operation
  o = here X at

  pub queue_same : queue_part X i at ≡ map (λ o. o.queue) (o ∷ [])
  queue_same =
      ap (λ (z : ℕ). z ∷ [])
      (let e : get_or X at 0 % 65536 ≡ o.queue = omega (arith, fits.queue, queue_is X at fits) in e)

  -- a semaphore that is waited for, or 0
  low : (j : ℕ) → (get_or o.waits j no_point).semaphore < 65536
  low j =
      by_cases (ltb j (length o.waits)) (λ t. fits.wait_semaphores j (ltb-true j (length o.waits) t))
      (λ f. rw (get_or-eq_default o.waits no_point (ltb-false j (length o.waits) f)) (omega arith))

  pub wait_semaphore_same : wait_semaphore_part X i at ≡ map (λ x. x.semaphore) (three_waits i o)
  wait_semaphore_same =
      waits_map (λ j. three (wait_count X at) (first_at X (at + 1)) j % 65536) (λ x. x.semaphore) i o
      (λ j. omega (
        arith,
        low j,
        three_is (λ x. x.semaphore) (first_at X (at + 1)) (wait_count X at) o.waits refl (waits_many X at fits)
            (wait_semaphore_is X at fits) j,
      ))

  pub wait_value_same : wait_value_part X i at ≡ map (λ x. x.value) (three_waits i o)
  wait_value_same =
      waits_map (three (wait_count X at) (second_at X (at + 1))) (λ x. x.value) i o
      (three_is (λ x. x.value) (second_at X (at + 1)) (wait_count X at) o.waits refl (waits_many X at fits)
      (wait_value_is X at fits))

  signals_map : (f : ℕ → ℕ) (h : Signal → ℕ) →
      ((j : ℕ) → j < length o.signals →
      f j ≡
      h (record {
        operation = i;
        position = 0 + j;
        semaphore = (get_or o.signals j no_point).semaphore;
        value = (get_or o.signals j no_point).value;
      })) →
      tabulate_from (signal_count X at) 0 f ≡ map h (its_signals i o)
  signals_map f h same =
      let many = signals_many X at fits in
      tabulate_map f h no_signal (signal_count X at) (its_signals i o) (signals_long i 0 o.signals ∙ sym many)
      (λ j l. let b : j < length o.signals = omega (arith, many) in
      same j b ∙ sym (ap h (signal_at i 0 o.signals j b)))

  pub signal_semaphore_same : signal_semaphore_part X i at ≡ map (λ x. x.semaphore) (its_signals i o)
  signal_semaphore_same =
      signals_map (λ j. first_at X (signals_at X at) j % 65536) (λ x. x.semaphore)
      (λ j l. omega (arith, fits.signal_semaphores j l, signal_semaphore_is X at fits j l))

  pub signal_value_same : signal_value_part X i at ≡ map (λ x. x.value) (its_signals i o)
  signal_value_same = signals_map (second_at X (signals_at X at)) (λ x. x.value) (signal_value_is X at fits)

  pub signal_operation_same : signal_operation_part X i at ≡ map (λ x. x.operation) (its_signals i o)
  signal_operation_same = signals_map (λ j. i) (λ x. x.operation) (λ j l. refl)

  marks_map : (f : ℕ → ℕ) (h : Marked → ℕ) →
      ((j : ℕ) → j < length o.marks →
      f j ≡
      h (record { by = i; buffer = (get_or o.marks j plain_mark).buffer; kind = (get_or o.marks j plain_mark).kind })) →
      tabulate_from (mark_count X at) 0 f ≡ map h (its_marks i o)
  marks_map f h same =
      let many = marks_many X at fits in
      tabulate_map f h no_mark (mark_count X at) (its_marks i o) (marked_long i o.marks ∙ sym many)
      (λ j l. let b : j < length o.marks = omega (arith, many) in same j b ∙ sym (ap h (marked_at i o.marks j b)))

  pub mark_same : mark_part X i at ≡ map code_of (its_marks i o)
  mark_same =
      marks_map (λ j. 2 * (first_at X (marks_at X at) j % 256) + second_at X (marks_at X at) j % 2) code_of
      (λ j l.
      omega (arith, fits.buffers j l, fits.kinds j l, mark_buffer_is X at fits j l, mark_kind_is X at fits j l))

  pub mark_operation_same : mark_operation_part X i at ≡ map (λ m. m.by) (its_marks i o)
  mark_operation_same = marks_map (λ j. i) (λ m. m.by) (λ j l. refl)
