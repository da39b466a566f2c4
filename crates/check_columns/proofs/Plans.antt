-- Columns filled from the numbers of a plan show the plan. Assumes nothing.
use mathlib.Core.Path.{◌≡◌, refl, sym, ap, ◌∙◌, subst}
use mathlib.Core.List.{List, [], ◌∷◌, map}
use Prim.Native.Nat.{ℕ, ◌+◌, ◌*◌, ◌≤◌, ◌<◌}
use native.Mathlib.Omega.{arith}
use lib.ListN.{length, get_or, drop, length-map, get_or-map, get_or-eq_default}
use lib.Seq.{sets, length-sets}
use Rattle.base_lists.proofs.Stores.{sets_at}
use Rattle.base_lists.proofs.Tables.{tabulate_length, tabulate_at}
use Rattle.plan_format.specs.Sizes.{most_signals, most_marks, no_wait}
use Rattle.plan_format.specs.Plan.{Point, Operation, Plan, empty_operation, count, op, operations_in}
use Rattle.plan_order.specs.Precedence.{Signal, no_signal, plan_signals}
use Rattle.check_columns.specs.Columns.{Columns, no_point, Marked, no_mark, plan_marks, QueueColumn}
use Rattle.check_columns.specs.Columns.{wait_at, WaitColumns, SignalColumns, MarkColumns}
use Rattle.plan_format.specs.Limits.{Limits}
use Rattle.plan_format.proofs.Positions.{in_range, few_waits as few_waits_of, few_signals as few_signals_of}
use Rattle.plan_format.proofs.Positions.{few_marks as few_marks_of}
use Rattle.check_columns.specs.Shown.{ColumnsOf, PlacesFor}
use Rattle.check_columns.specs.Filling.{Part, parts, queue_part, wait_semaphore_part, wait_value_part}
use Rattle.check_columns.specs.Filling.{signal_semaphore_part, signal_value_part, signal_operation_part}
use Rattle.check_columns.specs.Filling.{mark_part, mark_operation_part}
use Rattle.check_columns.proofs.Limits.{few_queues, few_operations}
use Rattle.check_columns.proofs.Operations.{Fits, here, operations_long}
use Rattle.check_columns.proofs.Lists.{joined, joined_few, joined_long, joined_at, parts_map, signals_long}
use Rattle.check_columns.proofs.Lists.{marked_long, three_waits, its_signals, its_marks, code_of, signals_joined}
use Rattle.check_columns.proofs.Lists.{marks_joined, queue_same, wait_semaphore_same, wait_value_same}
use Rattle.check_columns.proofs.Lists.{signal_semaphore_same, signal_value_same, signal_operation_same}
use Rattle.check_columns.proofs.Lists.{mark_same, mark_operation_same}
use Rattle.check_columns.proofs.Parts.{Column, column_end, column_count, Filling}

-- ---- a column that holds what a list says
module _ {X : List ℕ} {f : Part} {n first : ℕ} {before now : List ℕ} {i at place : ℕ} {A : Type 0} (done : n ≤ i)
    (b : Column X f n first before now i at place)
    (h : A → ℕ) (d : A) (ys : List A) (says : parts X f n 0 first ≡ map h ys) where
  parts_long : length (parts X f n 0 first) ≡ length ys
  parts_long = ap (λ (z : List ℕ). length z) says ∙ length-map ys h

  column_shows : h d ≡ 0 → length ys ≤ length before → (k : ℕ) → k < length ys → get_or now k 0 ≡ h (get_or ys k d)
  column_shows z few k l =
      ap (λ (y : List ℕ). get_or y k 0) (column_end done b ∙ ap (λ (y : List ℕ). sets before 0 y) says)
      ∙ sets_at before (map h ys) k 0 (omega (arith, few, length-map ys h)) (omega (arith, length-map ys h))
      ∙ subst (λ (v : ℕ). get_or (map h ys) k v ≡ h (get_or ys k d)) z (get_or-map h ys k d)

  column_many : place ≡ length ys
  column_many = column_count done b ∙ parts_long

-- a column is as long as before
column_long : {X : List ℕ} {f : Part} {n first : ℕ} {before now : List ℕ} {i at place : ℕ} → n ≤ i →
    Column X f n first before now i at place → length now ≡ length before
column_long {X} {f} {n} {first} {before} done b =
    ap (λ (z : List ℕ). length z) (column_end done b) ∙ length-sets before 0 (parts X f n 0 first)

-- ---- a plan whose operations are among the numbers
module _ (p : Plan) (limits : Limits p) (X : List ℕ) (n first : ℕ)
    (stored_as : p.operations ≡ operations_in n (drop first X)) where
  many_is : count p ≡ n
  unfolding count
  many_is = ap (λ (z : List Operation). length z) stored_as ∙ operations_long n (drop first X)

  plan_fits : (j : ℕ) → j < count p → Fits (op p j)
  plan_fits j l =
      let r = in_range limits j l in
      record {
        queue = omega (arith, r.queue, few_queues limits);
        waits = few_waits_of limits j l;
        signals = omega (arith, few_signals_of limits j l);
        marks = omega (arith, few_marks_of limits j l);
        wait_semaphores = λ k b. omega (arith, r.waits k b, limits.few_semaphores);
        signal_semaphores = λ k b. omega (arith, r.signals k b, limits.few_semaphores);
        buffers = λ k b. omega (arith, r.marks k b, limits.few_buffers);
        kinds = r.kinds;
      }

  all_fit : (j : ℕ) → j < n → Fits (get_or (operations_in n (drop first X)) j empty_operation)
  unfolding op
  all_fit j l =
      subst (λ (z : List Operation). Fits (get_or z j empty_operation)) stored_as (plan_fits j (omega (arith, many_is)))

  -- a column's parts, by the plan's operations
  says : {A : Type 0} (f : Part) (h : A → ℕ) (of : ℕ → Operation → List A) →
      ((i at : ℕ) → Fits (here X at) → f i at ≡ map h (of i (here X at))) →
      parts X f n 0 first ≡ map h (joined of 0 p.operations)
  says f h of same = parts_map X f h of same n 0 first all_fit
      ∙ ap (λ (z : List Operation). map h (joined of 0 z)) (sym stored_as)

  module _ {cs₀ cs : Columns} {i at signals marks : ℕ} (done : n ≤ i)
      (b : Filling X n first cs₀ cs i at signals marks) (places : PlacesFor n cs₀) where
    queue_shown : QueueColumn p cs.queue
    unfolding QueueColumn count op
    queue_shown j l =
        let of : ℕ → Operation → List Operation = λ i o. o ∷ [] in
        let long = joined_long of 1 (λ i o. refl) 0 p.operations in
        let e : 1 * j + 0 ≡ j = omega arith in
        column_shows done b.queues (λ o. o.queue) empty_operation (joined of 0 p.operations)
        (says (queue_part X) (λ o. o.queue) of (λ i at f. queue_same X i at f)) refl
        (omega (arith, long, many_is, places.queues)) j (omega (arith, long))
        ∙ ap (λ (o : Operation). o.queue)
        (subst (λ (z : ℕ). get_or (joined of 0 p.operations) z empty_operation ≡
        get_or p.operations j empty_operation) e
        (joined_at of 1 (λ i o. refl) 0 p.operations j 0 empty_operation l (omega arith)))

    -- a number of a wait
    wait_shown : (h : Point → ℕ) → h no_point ≡ 0 → {f : Part} {before now : List ℕ} → parts X f n 0 first ≡ map h
        (joined three_waits 0 p.operations) → Column X f n first before now i at (3 * i) →
        3 * n ≤ length before → (j k : ℕ) → j < count p → k < 3 → get_or now (3 * j + k) 0 ≡ h (wait_at p j k)
    unfolding count op wait_at
    wait_shown h z s c room j k l u =
        let even : (i : ℕ) (o : Operation) → length (three_waits i o) ≡ 3 =
        λ i o. tabulate_length (λ j. get_or o.waits j no_point) 3 0 in
        let long = joined_long three_waits 3 even 0 p.operations in
        let o = get_or p.operations j empty_operation in
        column_shows done c h no_point (joined three_waits 0 p.operations) s z
        (omega (arith, long, many_is, room)) (3 * j + k) (omega (arith, long))
        ∙ ap h (joined_at three_waits 3 even 0 p.operations j k no_point l u
        ∙ tabulate_at (λ j. get_or o.waits j no_point) 3 0 k no_point u
        ∙ ap (λ (z : ℕ). get_or o.waits z no_point) (let e : 0 + k ≡ k = omega arith in e))

    value_at : (j k : ℕ) → j < count p → k < 3 → get_or cs.wait_value (3 * j + k) 0 ≡ (wait_at p j k).value
    value_at = wait_shown (λ x. x.value) refl
        (says (wait_value_part X) (λ x. x.value) three_waits (λ i at f. wait_value_same X i at f)) b.wait_values
        places.wait_values

    missing : (j k : ℕ) → length (op p j).waits ≤ k → (wait_at p j k).value ≡ no_wait
    unfolding wait_at
    missing j k past = ap (λ (x : Point). x.value) (get_or-eq_default (op p j).waits no_point past)

    waits_shown : WaitColumns p cs.wait_semaphore cs.wait_value
    waits_shown = record {
      semaphore_room = omega (arith, many_is, column_long done b.wait_semaphores, places.wait_semaphores);
      value_room = omega (arith, many_is, column_long done b.wait_values, places.wait_values);
      few = few_waits_of limits;
      semaphores = λ i k l u. wait_shown (λ x. x.semaphore) refl
          (says (wait_semaphore_part X) (λ x. x.semaphore) three_waits (λ i at f. wait_semaphore_same X i at f))
          b.wait_semaphores places.wait_semaphores i k l (omega (arith, few_waits_of limits i l));
      values = λ i k l u. value_at i k l (omega (arith, few_waits_of limits i l));
      absent = λ i k l past few. value_at i k l few ∙ missing i k past;
    }

    all_signals : joined its_signals 0 p.operations ≡ plan_signals p
    unfolding plan_signals
    all_signals = signals_joined 0 p.operations

    few_signals : length (plan_signals p) ≤ most_signals * n
    unfolding count op
    few_signals =
        omega (
          arith,
          ap (λ (z : List Signal). length z) all_signals,
          many_is,
          joined_few its_signals 2 0 p.operations
              (λ j l. omega (arith, signals_long (0 + j) 0 (op p j).signals, few_signals_of limits j l)),
        )

    signals_says : (f : Part) (h : Signal → ℕ) →
        ((i at : ℕ) → Fits (here X at) → f i at ≡ map h (its_signals i (here X at))) →
        parts X f n 0 first ≡ map h (plan_signals p)
    signals_says f h same = says f h its_signals same ∙ ap (λ (z : List Signal). map h z) all_signals

    signals_shown : SignalColumns p signals cs.signal_semaphore cs.signal_value cs.signal_operation
    signals_shown =
        let s = signals_says (signal_semaphore_part X) (λ x. x.semaphore) (λ i at f. signal_semaphore_same X i at f) in
        let v = signals_says (signal_value_part X) (λ x. x.value) (λ i at f. signal_value_same X i at f) in
        let o = signals_says (signal_operation_part X) (λ x. x.operation) (λ i at f. signal_operation_same X i at f) in
        let many = column_many done b.signal_semaphores (λ x. x.semaphore) no_signal (plan_signals p) s in
        let room : length (plan_signals p) ≤ length cs₀.signal_semaphore =
        omega (arith, few_signals, places.signal_semaphores) in
        let value_room : length (plan_signals p) ≤ length cs₀.signal_value =
        omega (arith, few_signals, places.signal_values) in
        let operation_room : length (plan_signals p) ≤ length cs₀.signal_operation =
        omega (arith, few_signals, places.signal_operations) in
        record {
          few = omega (arith, many, few_signals, many_is, few_operations limits);
          semaphore_room = omega (arith, many, column_long done b.signal_semaphores, room);
          value_room = omega (arith, many, column_long done b.signal_values, value_room);
          operation_room = omega (arith, many, column_long done b.signal_operations, operation_room);
          all = many;
          semaphores = λ k l. column_shows done b.signal_semaphores
              (λ x. x.semaphore) no_signal (plan_signals p) s refl room k (omega (arith, many));
          values = λ k l. column_shows done b.signal_values
              (λ x. x.value) no_signal (plan_signals p) v refl value_room k (omega (arith, many));
          operations = λ k l. column_shows done b.signal_operations
              (λ x. x.operation) no_signal (plan_signals p) o refl operation_room k (omega (arith, many));
        }

    all_marks : joined its_marks 0 p.operations ≡ plan_marks p
    unfolding plan_marks
    all_marks = marks_joined 0 p.operations

    few_marks : length (plan_marks p) ≤ most_marks * n
    unfolding count op
    few_marks =
        omega (
          arith,
          ap (λ (z : List Marked). length z) all_marks,
          many_is,
          joined_few its_marks 4 0 p.operations
              (λ j l. omega (arith, marked_long (0 + j) (op p j).marks, few_marks_of limits j l)),
        )

    marks_says : (f : Part) (h : Marked → ℕ) →
        ((i at : ℕ) → Fits (here X at) → f i at ≡ map h (its_marks i (here X at))) →
        parts X f n 0 first ≡ map h (plan_marks p)
    marks_says f h same = says f h its_marks same ∙ ap (λ (z : List Marked). map h z) all_marks

    marks_shown : MarkColumns p marks cs.mark cs.mark_operation
    marks_shown =
        let m = marks_says (mark_part X) code_of (λ i at f. mark_same X i at f) in
        let o = marks_says (mark_operation_part X) (λ x. x.by) (λ i at f. mark_operation_same X i at f) in
        let many = column_many done b.codes_of_marks code_of no_mark (plan_marks p) m in
        let room : length (plan_marks p) ≤ length cs₀.mark = omega (arith, few_marks, places.marks) in
        let operation_room : length (plan_marks p) ≤ length cs₀.mark_operation =
        omega (arith, few_marks, places.mark_operations) in
        record {
          room = omega (arith, many, column_long done b.codes_of_marks, room);
          operation_room = omega (arith, many, column_long done b.mark_operations, operation_room);
          all = many;
          marks = λ k l. column_shows done b.codes_of_marks code_of no_mark (plan_marks p) m refl room k
              (omega (arith, many));
          operations = λ k l. column_shows done b.mark_operations
              (λ x. x.by) no_mark (plan_marks p) o refl operation_room k (omega (arith, many));
        }

    pub filling_end : ColumnsOf p signals marks cs
    filling_end = record {
      queues_shown = queue_shown;
      waits_shown = waits_shown;
      signals_shown = signals_shown;
      marks_shown = marks_shown;
    }
