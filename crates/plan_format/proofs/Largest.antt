-- A largest plan: every list as long as its limit allows; so the greatest sizes of every form are reached. Assumes
-- nothing.
use mathlib.Core.Path.{◌≡◌, refl, ap, ◌∙◌}
use mathlib.Core.List.{List, [], ◌∷◌, flat_map}
use Prim.Native.Nat.{ℕ, zero, suc, ◌+◌, ◌*◌, ◌≤◌, ◌<◌}
use native.Mathlib.Nat.{suc-mul}
use native.Mathlib.Omega.{arith}
use lib.Dec.{lit<, lit≤}
use lib.ListN.{length, get_or, replicate, length-append, length-replicate}
use Rattle.base_lists.specs.Lists.{tabulate_from}
use Rattle.base_lists.proofs.Tables.{tabulate_length, tabulate_at}
use Rattle.plan_format.specs.Sizes.{most_queues, most_semaphores, most_buffers, most_operations, most_waits}
use Rattle.plan_format.specs.Sizes.{most_signals, most_marks, least_wait, least_signal}
use Rattle.plan_format.specs.Refusal.{none_given}
use Rattle.plan_format.specs.Grammar.{digits, most_bytes, most_numbers, Scan, scan}
use Rattle.plan_format.specs.Form.{Form, second_form, form_with, point, mark, operation, plan_grammar}
use Rattle.plan_format.specs.Plan.{Point, Mark, Operation, Plan}
use Rattle.plan_format.specs.Limits.{Each, InBytes, PointWithin, MarkWithin, OperationWithin, Within}
use Rattle.plan_format.specs.Limits.{counted_numbers, one_number, point_numbers, mark_numbers, operation_numbers}
use Rattle.plan_format.specs.Limits.{numbers_of, counted_bytes, point_bytes, mark_bytes, operation_bytes}
use Rattle.plan_format.specs.Limits.{sections_bytes, stored_by, form_of, bytes_of}
use Rattle.plan_format.specs.Promise.{GreatestSizes}
use Rattle.plan_format.proofs.Bytes.{length_digits}
use Rattle.plan_format.proofs.Taking.{takes_plans}
use Rattle.plan_format.proofs.Forms.{second_stored}
use Rattle.plan_format.proofs.Sizes.{second_sized, scanned_sizes, listed_sizes}

-- ---- lists of one thing, and their lengths
each_replicate : {A : Type 0} (W : A → Type 0) (n : ℕ) (x : A) → W x → Each W (replicate n x)
each_replicate W zero x w = tt
each_replicate W (suc n) x w = (w, each_replicate W n x w)

flat_long : {A : Type 0} (f : A → List ℕ) (k : ℕ) → ((x : A) → length (f x) ≡ k) → (xs : List A) →
    length (flat_map f xs) ≡ length xs * k
unfolding flat_map
flat_long f k e [] = omega arith
flat_long f k e (x ∷ xs) =
    length-append (f x) (flat_map f xs) ∙ omega (arith, e x, flat_long f k e xs, suc-mul (length xs) k)

-- ---- the largest plan with so many semaphores
abbrev largest_point : Point
largest_point = record { semaphore = 0; value = least_wait }

abbrev largest_mark : Mark
largest_mark = record { buffer = 0; kind = 0 }

abbrev largest_operation : Operation
largest_operation = record {
  queue = 0;
  waits = replicate most_waits largest_point;
  signals = replicate most_signals largest_point;
  marks = replicate most_marks largest_mark;
}

axes : List ℕ
axes = tabulate_from most_queues 0 (λ i. i)

pub largest : (semaphores : ℕ) → Plan
largest s = record {
  axes = axes;
  owners = replicate s 0;
  sizes = replicate most_buffers 0;
  operations = replicate most_operations largest_operation;
}

each_tabulate : (W : ℕ → Type 0) (n i : ℕ) → ((k : ℕ) → k < i + n → W k) → Each W (tabulate_from n i (λ k. k))
unfolding tabulate_from
each_tabulate W zero i h = tt
each_tabulate W (suc n) i h = (h i (omega arith), each_tabulate W n (suc i) (λ k l. h k (omega arith)))

axes_long : length axes ≡ most_queues
unfolding axes
axes_long = tabulate_length (λ i. i) most_queues 0

axis_at : (i : ℕ) → i < length axes → get_or axes i 0 ≡ i
unfolding axes
axis_at i l = tabulate_at (λ k. k) most_queues 0 i 0 (omega (arith, axes_long)) ∙ omega arith

operation_within : (q s b : ℕ) → 0 < q → 0 < s → 0 < b → OperationWithin InBytes q s b largest_operation
operation_within q s b lq ls lb =
    let a_point : (l : ℕ) → l ≤ least_wait → PointWithin InBytes s l largest_point =
    λ l h. record { semaphore = ls; value = lit< tt; not_below = h } in
    record {
      queue = lq;
      few_waits = lit≤ tt;
      waits = each_replicate (PointWithin InBytes s least_wait) most_waits largest_point
          (a_point least_wait (lit≤ tt));
      few_signals = lit≤ tt;
      signals = each_replicate (PointWithin InBytes s least_signal) most_signals largest_point
          (a_point least_signal (lit≤ tt));
      few_marks = lit≤ tt;
      marks = each_replicate (MarkWithin b) most_marks largest_mark (record { buffer = lb; kind = lit≤ tt });
    }

pub largest_within : (s : ℕ) → 0 < s → s ≤ most_semaphores → Within (largest s)
unfolding largest
largest_within s some few =
    let q = length axes in
    let m = length (replicate {A = ℕ} s 0) in
    let n = length (replicate {A = ℕ} most_buffers 0) in
    let l = length-replicate {A = ℕ} s 0 in
    let b = length-replicate {A = ℕ} most_buffers 0 in
    record {
      few_queues = omega (arith, axes_long);
      axes = unfold axes in (each_tabulate (InBytes 8) most_queues 0 (λ k h. omega arith));
      axes_distinct = λ i k h m e. omega (arith, e, axis_at i (omega arith), axis_at k m);
      few_semaphores = omega (arith, l);
      owners = each_replicate (λ v. v < q) s 0 (omega (arith, axes_long));
      few_buffers = omega (arith, b);
      sizes = each_replicate (InBytes 4) most_buffers 0 (lit< tt);
      few_operations = omega (arith, length-replicate most_operations largest_operation);
      operations = each_replicate (OperationWithin InBytes q m n) most_operations largest_operation
          (operation_within q m n (omega (arith, axes_long)) (omega (arith, l)) (omega (arith, b)));
    }

-- ---- its sizes
-- the bytes of a list after its count, and its numbers
counted_long : {A : Type 0} (w : ℕ) (f : A → List ℕ) (k : ℕ) → ((x : A) → length (f x) ≡ k) → (xs : List A) →
    length (counted_bytes w f xs) ≡ w + length xs * k
unfolding counted_bytes
counted_long w f k e xs = length-append (digits w (length xs)) (flat_map f xs)
    ∙ omega (arith, length_digits w (length xs), flat_long f k e xs)

numbers_long : {A : Type 0} (f : A → List ℕ) (k : ℕ) → ((x : A) → length (f x) ≡ k) → (xs : List A) →
    length (counted_numbers f xs) ≡ 1 + length xs * k
unfolding counted_numbers
numbers_long f k e xs = omega (arith, flat_long f k e xs)

-- as many of one thing
same_long : {A : Type 0} (f : A → List ℕ) (n : ℕ) (x : A) → length (flat_map f (replicate n x)) ≡ n * length (f x)
unfolding flat_map
same_long f zero x = omega arith
same_long f (suc n) x =
    length-append (f x) (flat_map f (replicate n x)) ∙ omega (arith, same_long f n x, suc-mul n (length (f x)))

one_long : (v : ℕ) → length (one_number v) ≡ 1
unfolding one_number
one_long v = refl

module _ (w : ℕ) where
  point_long : (x : Point) → length (point_bytes w x) ≡ w + 8
  unfolding point_bytes
  point_long x = length-append (digits w x.semaphore) (digits 8 x.value)
      ∙ omega (arith, length_digits w x.semaphore, length_digits 8 x.value)

  mark_long : (m : Mark) → length (mark_bytes m) ≡ 3
  unfolding mark_bytes
  mark_long m = length-append (digits 2 m.buffer) (digits 1 m.kind)
      ∙ omega (arith, length_digits 2 m.buffer, length_digits 1 m.kind)

  operation_long : length (operation_bytes w largest_operation)
      ≡ 4 + (most_waits + most_signals) * (w + 8) + most_marks * 3
  unfolding operation_bytes
  operation_long =
      simp length-append
      (omega (
        arith,
        length_digits 1 0,
        counted_long 1 (point_bytes w) (w + 8) point_long (replicate most_waits largest_point),
        counted_long 1 (point_bytes w) (w + 8) point_long (replicate most_signals largest_point),
        counted_long 1 mark_bytes 3 mark_long (replicate most_marks largest_mark),
      ))

two_long : (x : Point) → length (point_numbers x) ≡ 2
unfolding point_numbers
two_long x = refl

pair_long : (m : Mark) → length (mark_numbers m) ≡ 2
unfolding mark_numbers
pair_long m = refl

block_long : length (operation_numbers largest_operation) ≡ 4 + 2 * (most_waits + most_signals + most_marks)
unfolding operation_numbers
block_long =
    simp length-append
    (omega (
      arith,
      numbers_long point_numbers 2 two_long (replicate most_waits largest_point),
      numbers_long point_numbers 2 two_long (replicate most_signals largest_point),
      numbers_long mark_numbers 2 pair_long (replicate most_marks largest_mark),
    ))

module _ (F : Form) where
  abbrev width : ℕ
  width = F.semaphore_width

  abbrev many : ℕ
  many = F.semaphores_most

  pub largest_bytes : length (stored_by F (largest many)) ≡ length F.lead + most_bytes (plan_grammar F)
  unfolding stored_by sections_bytes largest most_bytes plan_grammar operation point mark counted_bytes
  largest_bytes =
      simp length-append
      (omega (
        arith,
        length_digits 1 (length axes),
        flat_long (digits 8) 8 (length_digits 8) axes,
        axes_long,
        length_digits width (length (replicate {A = ℕ} many 0)),
        flat_long (digits 1) 1 (length_digits 1) (replicate many 0),
        length-replicate {A = ℕ} many 0,
        length_digits 2 (length (replicate {A = ℕ} most_buffers 0)),
        flat_long (digits 4) 4 (length_digits 4) (replicate most_buffers 0),
        length-replicate {A = ℕ} most_buffers 0,
        length_digits 2 (length (replicate most_operations largest_operation)),
        same_long (operation_bytes width) most_operations largest_operation,
        operation_long width,
      ))

  pub largest_numbers : length (numbers_of (largest many)) ≡ most_numbers (plan_grammar F)
  unfolding numbers_of largest most_numbers plan_grammar operation point mark counted_numbers
  largest_numbers =
      simp length-append
      (omega (
        arith,
        flat_long one_number 1 one_long axes,
        axes_long,
        flat_long one_number 1 one_long (replicate many 0),
        length-replicate {A = ℕ} many 0,
        flat_long one_number 1 one_long (replicate most_buffers 0),
        length-replicate {A = ℕ} most_buffers 0,
        same_long operation_numbers most_operations largest_operation,
        block_long,
      ))

-- ---- the greatest sizes
owners_long : (s : ℕ) → length (largest s).owners ≡ s
unfolding largest
owners_long s = length-replicate {A = ℕ} s 0

pub greatest_sizes : GreatestSizes
unfolding scan none_given bytes_of form_of second_form
greatest_sizes =
    let stored = takes_plans.every in
    let m = most_semaphores in
    let own : form_with (length (largest m).owners) ≡ second_form =
    ap form_with (owners_long m) ∙ second_stored.own m (record { least = lit≤ tt; most = lit≤ tt }) in
    record {
      bytes = λ p w. (scanned_sizes (bytes_of p) (ap (λ (s : Scan). s.fault.number) (stored p w).read)).0;
      numbers = λ p w. (listed_sizes (numbers_of p) (ap (λ (s : Scan). s.fault.number) (stored p w).taken)).0;
      reached = (
        largest m,
        largest_within m (lit< tt) (lit≤ tt),
        ap (λ (F : Form). length (stored_by F (largest m))) own ∙ largest_bytes second_form ∙ second_sized.bytes_most,
        largest_numbers second_form ∙ second_sized.numbers_most,
      );
    }
