-- Operations among numbers: what is read of one in range, cut to a few bits, is what is there. Assumes nothing.
use mathlib.Core.Path.{◌≡◌, refl, sym, ap, ◌∙◌}
use mathlib.Core.List.{List}
use Prim.Native.Nat.{ℕ, zero, suc, ◌+◌, ◌*◌, ◌≤◌, ◌<◌}
use native.Mathlib.Nat.{not-suc-le-zero, le_of_suc-le-suc}
use native.Mathlib.Omega.{arith}
use lib.ListN.{length, get_or, drop}
use lib.Seq.{get_or-drop}
use Rattle.plan_format.specs.Plan.{Point, Mark, Operation, points_in, marks_in, heading, operation_in, operation_long}
use Rattle.plan_format.specs.Plan.{operations_in}
use Rattle.check_columns.specs.Columns.{no_point}
use Rattle.check_columns.specs.Filling.{first_at, second_at, wait_count, signals_at, signal_count, marks_at}
use Rattle.check_columns.specs.Filling.{mark_count, next_at}

abbrev pub plain_mark : Mark
plain_mark = record { buffer = 0; kind = 0 }

-- ---- points and marks in a list of numbers
pub points_long : (k : ℕ) (xs : List ℕ) → length (points_in k xs) ≡ k
unfolding points_in
points_long zero xs = refl
points_long (suc k) xs = ap suc (points_long k (drop 2 xs))

pub marks_long : (k : ℕ) (xs : List ℕ) → length (marks_in k xs) ≡ k
unfolding marks_in
marks_long zero xs = refl
marks_long (suc k) xs = ap suc (marks_long k (drop 2 xs))

pub operations_long : (n : ℕ) (xs : List ℕ) → length (operations_in n xs) ≡ n
unfolding operations_in
operations_long zero xs = refl
operations_long (suc n) xs = ap suc (operations_long n (drop (operation_long xs) xs))

-- numbers further on
past : (xs : List ℕ) (j c : ℕ) → get_or (drop 2 xs) (2 * j + c) 0 ≡ get_or xs (2 * suc j + c) 0
past xs j c = get_or-drop 2 xs (2 * j + c) 0 ∙ ap (λ (z : ℕ). get_or xs z 0) (omega arith)

pub point_semaphore : (k : ℕ) (xs : List ℕ) (j : ℕ) → j < k →
    (get_or (points_in k xs) j no_point).semaphore ≡ get_or xs (2 * j + 0) 0
unfolding points_in
point_semaphore zero xs j l = absurd (not-suc-le-zero l)
point_semaphore (suc k) xs zero l = refl
point_semaphore (suc k) xs (suc j) l = point_semaphore k (drop 2 xs) j (le_of_suc-le-suc l) ∙ past xs j 0

pub point_value : (k : ℕ) (xs : List ℕ) (j : ℕ) → j < k →
    (get_or (points_in k xs) j no_point).value ≡ get_or xs (2 * j + 1) 0
unfolding points_in
point_value zero xs j l = absurd (not-suc-le-zero l)
point_value (suc k) xs zero l = refl
point_value (suc k) xs (suc j) l = point_value k (drop 2 xs) j (le_of_suc-le-suc l) ∙ past xs j 1

pub mark_buffer : (k : ℕ) (xs : List ℕ) (j : ℕ) → j < k →
    (get_or (marks_in k xs) j plain_mark).buffer ≡ get_or xs (2 * j + 0) 0
unfolding marks_in
mark_buffer zero xs j l = absurd (not-suc-le-zero l)
mark_buffer (suc k) xs zero l = refl
mark_buffer (suc k) xs (suc j) l = mark_buffer k (drop 2 xs) j (le_of_suc-le-suc l) ∙ past xs j 0

pub mark_kind : (k : ℕ) (xs : List ℕ) (j : ℕ) → j < k → (get_or (marks_in k xs) j plain_mark).kind ≡ get_or xs
    (2 * j + 1) 0
unfolding marks_in
mark_kind zero xs j l = absurd (not-suc-le-zero l)
mark_kind (suc k) xs zero l = refl
mark_kind (suc k) xs (suc j) l = mark_kind k (drop 2 xs) j (le_of_suc-le-suc l) ∙ past xs j 1

-- ---- an operation that loses nothing by the cut
pub record Fits (o : Operation) : Type 0 where
  pub queue : o.queue < 65536
  pub waits : length o.waits ≤ 3
  pub signals : length o.signals ≤ 3
  pub marks : length o.marks ≤ 7
  pub wait_semaphores : (j : ℕ) → j < length o.waits → (get_or o.waits j no_point).semaphore < 65536
  pub signal_semaphores : (j : ℕ) → j < length o.signals → (get_or o.signals j no_point).semaphore < 65536
  pub buffers : (j : ℕ) → j < length o.marks → (get_or o.marks j plain_mark).buffer < 256
  pub kinds : (j : ℕ) → j < length o.marks → (get_or o.marks j plain_mark).kind < 2

-- the operation at a place of the numbers
module _ (X : List ℕ) (at : ℕ) where
  abbrev pub here : Operation
  here = operation_in (drop at X)

  abbrev w : ℕ
  w = get_or (drop at X) 1 0

  abbrev s : ℕ
  s = get_or (drop at X) (2 + 2 * w) 0

  abbrev m : ℕ
  m = get_or (drop at X) (3 + 2 * w + 2 * s) 0

  queue_here : here.queue ≡ get_or X at 0
  unfolding operation_in
  queue_here = get_or-drop at X 0 0 ∙ ap (λ (z : ℕ). get_or X z 0) (omega arith)

  waits_here : here.waits ≡ points_in w (drop 2 (drop at X))
  unfolding operation_in heading
  waits_here = refl

  signals_here : here.signals ≡ points_in s (drop (3 + 2 * w) (drop at X))
  unfolding operation_in heading
  signals_here = refl

  marks_here : here.marks ≡ marks_in m (drop (4 + 2 * w + 2 * s) (drop at X))
  unfolding operation_in heading
  marks_here = refl

  long_here : operation_long (drop at X) ≡ 4 + 2 * w + 2 * s + 2 * m
  unfolding operation_long heading
  long_here = refl

  -- a number past a part's start
  number_at : (c k place : ℕ) → place ≡ at + (c + k) → get_or (drop c (drop at X)) k 0 ≡ get_or X place 0
  number_at c k place e = get_or-drop c (drop at X) k 0 ∙ get_or-drop at X (c + k) 0 ∙
      ap (λ (z : ℕ). get_or X z 0) (sym e)

  module _ (fits : Fits here) where
    w_few : w ≤ 3
    w_few = omega (arith, fits.waits, ap (λ (z : List Point). length z) waits_here, points_long w (drop 2 (drop at X)))

    s_few : s ≤ 3
    s_few = omega (
      arith,
      fits.signals,
      ap (λ (z : List Point). length z) signals_here,
      points_long s (drop (3 + 2 * w) (drop at X)),
    )

    m_few : m ≤ 7
    m_few = omega (
      arith,
      fits.marks,
      ap (λ (z : List Mark). length z) marks_here,
      marks_long m (drop (4 + 2 * w + 2 * s) (drop at X)),
    )

    wait_count_is : wait_count X at ≡ w
    unfolding wait_count
    wait_count_is = omega (arith, w_few, get_or-drop at X 1 0)

    signals_at_is : signals_at X at ≡ at + (2 + 2 * w)
    unfolding signals_at
    signals_at_is = omega (arith, wait_count_is)

    signal_count_is : signal_count X at ≡ s
    unfolding signal_count
    signal_count_is = omega (arith, s_few, get_or-drop at X (2 + 2 * w) 0, ap (λ (z : ℕ). get_or X z 0) signals_at_is)

    marks_at_is : marks_at X at ≡ at + (3 + 2 * w + 2 * s)
    unfolding marks_at
    marks_at_is = omega (arith, signals_at_is, signal_count_is)

    mark_count_is : mark_count X at ≡ m
    unfolding mark_count
    mark_count_is = omega (
      arith,
      m_few,
      get_or-drop at X (3 + 2 * w + 2 * s) 0,
      ap (λ (z : ℕ). get_or X z 0) marks_at_is,
    )

    pub next_is : next_at X at ≡ at + operation_long (drop at X)
    unfolding next_at
    next_is = omega (arith, marks_at_is, mark_count_is, long_here)

    -- ---- counts and numbers, by the operation
    pub queue_is : get_or X at 0 ≡ here.queue
    queue_is = sym queue_here

    pub waits_many : wait_count X at ≡ length here.waits
    waits_many = wait_count_is ∙ sym (ap (λ (z : List Point). length z) waits_here ∙ points_long w (drop 2 (drop at X)))

    pub signals_many : signal_count X at ≡ length here.signals
    signals_many = signal_count_is
        ∙ sym (ap (λ (z : List Point). length z) signals_here ∙ points_long s (drop (3 + 2 * w) (drop at X)))

    pub marks_many : mark_count X at ≡ length here.marks
    marks_many =
        mark_count_is
        ∙ sym (ap (λ (z : List Mark). length z) marks_here ∙ marks_long m (drop (4 + 2 * w + 2 * s) (drop at X)))

    pub wait_semaphore_is : (j : ℕ) → j < length here.waits →
        first_at X (at + 1) j ≡ (get_or here.waits j no_point).semaphore
    wait_semaphore_is j l =
        let b : j < w = omega (arith, waits_many, wait_count_is) in
        sym (ap (λ (z : List Point). (get_or z j no_point).semaphore) waits_here
        ∙ point_semaphore w (drop 2 (drop at X)) j b ∙ number_at 2 (2 * j + 0) (at + 1 + 1 + 2 * j) (omega arith))

    pub wait_value_is : (j : ℕ) → j < length here.waits →
        second_at X (at + 1) j ≡ (get_or here.waits j no_point).value
    wait_value_is j l =
        let b : j < w = omega (arith, waits_many, wait_count_is) in
        sym (ap (λ (z : List Point). (get_or z j no_point).value) waits_here ∙ point_value w (drop 2 (drop at X)) j b
        ∙ number_at 2 (2 * j + 1) (at + 1 + 2 + 2 * j) (omega arith))

    pub signal_semaphore_is : (j : ℕ) → j < length here.signals →
        first_at X (signals_at X at) j ≡ (get_or here.signals j no_point).semaphore
    signal_semaphore_is j l =
        let b : j < s = omega (arith, signals_many, signal_count_is) in
        sym (ap (λ (z : List Point). (get_or z j no_point).semaphore) signals_here
        ∙ point_semaphore s (drop (3 + 2 * w) (drop at X)) j b
        ∙ number_at (3 + 2 * w) (2 * j + 0) (signals_at X at + 1 + 2 * j) (omega (arith, signals_at_is)))

    pub signal_value_is : (j : ℕ) → j < length here.signals →
        second_at X (signals_at X at) j ≡ (get_or here.signals j no_point).value
    signal_value_is j l =
        let b : j < s = omega (arith, signals_many, signal_count_is) in
        sym (ap (λ (z : List Point). (get_or z j no_point).value) signals_here
        ∙ point_value s (drop (3 + 2 * w) (drop at X)) j b
        ∙ number_at (3 + 2 * w) (2 * j + 1) (signals_at X at + 2 + 2 * j) (omega (arith, signals_at_is)))

    pub mark_buffer_is : (j : ℕ) → j < length here.marks →
        first_at X (marks_at X at) j ≡ (get_or here.marks j plain_mark).buffer
    mark_buffer_is j l =
        let b : j < m = omega (arith, marks_many, mark_count_is) in
        sym (ap (λ (z : List Mark). (get_or z j plain_mark).buffer) marks_here
        ∙ mark_buffer m (drop (4 + 2 * w + 2 * s) (drop at X)) j b
        ∙ number_at (4 + 2 * w + 2 * s) (2 * j + 0) (marks_at X at + 1 + 2 * j) (omega (arith, marks_at_is)))

    pub mark_kind_is : (j : ℕ) → j < length here.marks →
        second_at X (marks_at X at) j ≡ (get_or here.marks j plain_mark).kind
    mark_kind_is j l =
        let b : j < m = omega (arith, marks_many, mark_count_is) in
        sym (ap (λ (z : List Mark). (get_or z j plain_mark).kind) marks_here
        ∙ mark_kind m (drop (4 + 2 * w + 2 * s) (drop at X)) j b
        ∙ number_at (4 + 2 * w + 2 * s) (2 * j + 1) (marks_at X at + 2 + 2 * j) (omega (arith, marks_at_is)))
