-- Refusals 10, 17 and 11 from what the passes find, and what a plan without refusals 1 to 9 and 16 is answered and
-- leaves. Assumes nothing.
use mathlib.Core.Path.{◌≡◌, sym, ap, ◌∙◌, subst}
use mathlib.Core.Bool.{Bool, true}
use mathlib.Core.List.{List}
use mathlib.Core.Option.{Option, none, some}
use Prim.Native.Nat.{ℕ, ◌+◌, ◌*◌, ◌/◌, ◌%◌, ◌≤◌, ◌<◌}
use native.Mathlib.Nat.{div-add-mod}
use native.Mathlib.Omega.{arith}
use lib.ListN.{length, get_or, take, replicate, length-replicate}
use lib.Seq.{ext_get_or, get_or-take, length-take-le}
use Rattle.std.specs.Prelude.{Result, is_ok, ⊤}
use Rattle.base_lists.specs.Lists.{member, in_front, lowest_below, place_or}
use Rattle.base_lists.proofs.Tests.{by_cases, by_option, clash}
use Rattle.base_lists.proofs.Fronts.{front_alike}
use Rattle.base_lists.proofs.Searches.{lowest_some}
use Rattle.plan_format.specs.Sizes.{most_semaphores, row_width}
use Rattle.plan_format.specs.Refusal.{Refusal, refusal, none_given, given}
use Rattle.plan_format.specs.Plan.{Plan, count, op, queues}
use Rattle.plan_format.specs.Sound.{Sound, rules_refusal}
use Rattle.plan_format.specs.Stored.{Tells}
use Rattle.plan_format.specs.Told.{Refused}
use Rattle.plan_format.proofs.Telling.{told, tells}
use Rattle.plan_format.proofs.Judged.{zero_not_given, not_given_zero}
use Rattle.plan_order.specs.Check.{room_refusal, refused_at, order_refusal, zeros, rows_and_run, Outcome, outcome}
use Rattle.plan_order.specs.Check.{or_then, plan_outcome, table_left, list_left, left_in, Says, PlanCheckSays}
use Rattle.plan_order.specs.Holdings.{broken}
use Rattle.plan_order.specs.Handovers.{disordered}
use Rattle.plan_order.specs.Rows.{rows}
use Rattle.plan_order.specs.Runs.{standard, missing}
use Rattle.plan_order.proofs.Rows.{row_at, rows_at, rows_length}
use Rattle.plan_order.proofs.Standard.{standard_full, missing_some, missing_none, full_run, full_has}
use Rattle.check_columns.specs.Columns.{RowColumns}
use Rattle.check_run.specs.Run.{RowsOf, Ran}
use Rattle.check_handover.specs.Given.{HandoversGiven}
use Rattle.check_marks.specs.Given.{MarksGiven}
use Rattle.check_passes.specs.Answering.{OrderColumns}
use Rattle.check_passes.specs.Leaving.{ResultsRoom, ResultsLeft}
use Rattle.check_passes.specs.Given.{JudgeGiven}
use Rattle.check_passes.proofs.Results.{told_of, passed_by, refused_as}
use Rattle.check_passes.proofs.Untouched.{room_enough}

-- ---- the standard run of a sound plan is full, or an operation is missing
module _ (p : Plan) (sound : Sound p) where
  known : (j : ℕ) → j < count p → (op p j).queue < queues p
  known j l = (sound.in_range j l).queue

  pub none_missing : count p ≤ length (standard p) → ◌≡◌ {A = Option ℕ} (missing p) none
  none_missing l =
      by_option (missing p) (λ e. e)
      (λ j e. let w = missing_some p known j e in
      clash (member j (standard p)) (full_has p (standard p) (standard_full p known l) j w.0) w.1)

  all_rows : (rows_now : List ℕ) → count p ≤ length (standard p) → RowsOf p (standard p) rows_now →
      RowColumns p (λ j. j < count p) rows_now
  unfolding RowColumns
  all_rows rows_now l filled j q b c = filled.ran j q (full_has p (standard p) (standard_full p known l) j b) c

-- ---- refusals 10, 17 and 11
found : (n i : ℕ) (o : Option ℕ) → i ≡ place_or n o → i < n → o ≡ some i
unfolding place_or
found n i o e l =
    by_option o (λ z. absurd (let h : i ≡ n = rw z at e in omega arith))
    (λ j z. let h : i ≡ j = rw z at e in z ∙ ap some (sym h))

nothing_found : (n i : ℕ) (o : Option ℕ) → ((j : ℕ) → o ≡ some j → j < n) → i ≡ place_or n o → n ≤ i →
    ◌≡◌ {A = Option ℕ} o none
unfolding place_or
nothing_found n i o small e l =
    by_option o (λ z. z) (λ j z. absurd (let h : i ≡ j = rw z at e in omega (arith, small j z)))

module _ {p : Plan} {n ran : ℕ} {cs : OrderColumns} {rows_now : List ℕ}
    (shown : JudgeGiven p n ran cs rows_now) where
  pub stuck_told : {i : ℕ} → ran < n → i ≡ place_or n (missing p) → Tells (order_refusal p) 0 (told 10 i)
  unfolding order_refusal refused_at place_or
  stuck_told {i} l e =
      by_option (missing p)
      (λ z. absurd (omega (arith, missing_none p (known p shown.sound) z, shown.long, shown.many)))
      (λ j z. let h : i ≡ j = rw z at e in tells (rw z (ap (λ (k : ℕ). refusal 10 k) (sym h))))

  -- a full run
  module _ (all : n ≤ ran) where
    whole : count p ≤ length (standard p)
    whole = omega (arith, shown.long, shown.many)

    none_missed : ◌≡◌ {A = Option ℕ} (missing p) none
    none_missed = none_missing p shown.sound whole

    pub handovers_given : HandoversGiven p n cs.semaphores cs.signals cs.owned cs.queue
        cs.signal_semaphore cs.signal_operation rows_now
    handovers_given = record {
      sound = shown.sound;
      many = shown.many;
      own_semaphores = shown.shown.own_semaphores;
      few_semaphores = subst (λ (k : ℕ). k ≤ most_semaphores) shown.shown.own_semaphores shown.few_semaphores;
      only_owners = shown.shown.only_owners;
      queues_shown = shown.shown.queues_shown;
      values = shown.shown.values;
      signals_shown = shown.shown.signals_shown;
      rows_shown = all_rows p shown.sound rows_now whole shown.filled;
    }

    pub marks_given : MarksGiven p n cs.marks cs.queue cs.mark cs.mark_operation rows_now
    marks_given = record {
      sound = shown.sound;
      many = shown.many;
      few_buffers = shown.few_buffers;
      queues_shown = shown.shown.queues_shown;
      marks_shown = shown.shown.marks_shown;
      rows_shown = all_rows p shown.sound rows_now whole shown.filled;
      run = standard p;
      full = standard_full p (known p shown.sound) whole;
    }

    below_many : (test : ℕ → Bool) (j : ℕ) → lowest_below (count p) test ≡ some j → j < n
    below_many test j e = subst (λ (k : ℕ). j < k) shown.many (lowest_some (count p) test j e).inside

    disordered_small : (j : ℕ) → disordered p ≡ some j → j < n
    unfolding disordered
    disordered_small j e = below_many _ j e

    broken_small : (j : ℕ) → broken p ≡ some j → j < n
    unfolding broken
    broken_small j e = below_many _ j e

    module _ {u : ℕ} (out : u ≡ place_or n (disordered p)) where
      pub disordered_told : u < n → Tells (order_refusal p) 0 (told 17 u)
      unfolding order_refusal refused_at
      disordered_told b = tells (rw (none_missed, found n u (disordered p) out b))

      module _ (turned : n ≤ u) where
        in_turn : ◌≡◌ {A = Option ℕ} (disordered p) none
        in_turn = nothing_found n u (disordered p) disordered_small out turned

        pub broken_told : {i : ℕ} → i < n → i ≡ place_or n (broken p) → Tells (order_refusal p) 0 (told 11 i)
        unfolding order_refusal refused_at
        broken_told {i} b e = tells (rw (none_missed, in_turn, found n i (broken p) e b))

        pub passed_told : {i : ℕ} → n ≤ i → i ≡ place_or n (broken p) → Tells (order_refusal p) 0 (told 0 0)
        unfolding order_refusal refused_at none_given refusal
        passed_told {i} b e =
            tells (rw (none_missed, in_turn, nothing_found n i (broken p) broken_small e b))

passed_means : (p : Plan) → (order_refusal p).number ≡ 0 →
    (◌≡◌ {A = Option ℕ} (missing p) none) × (order_refusal p ≡ none_given)
unfolding order_refusal refused_at refusal
passed_means p e =
    by_option (missing p)
    (λ m. by_option (disordered p)
    (λ d. by_option (broken p) (λ b. (m, rw (m, d, b)))
    (λ i b. absurd (let z : 11 ≡ 0 = rw (m, d, b) at e in omega arith)))
    (λ i d. absurd (let z : 17 ≡ 0 = rw (m, d) at e in omega arith)))
    (λ i m. absurd (let z : 10 ≡ 0 = rw m at e in omega arith))

-- ---- what is left
rows_taken : (p : Plan) (rows_now : List ℕ) → row_width * count p ≤ length rows_now →
    RowColumns p (λ j. j < count p) rows_now → take (row_width * count p) rows_now ≡ rows p
unfolding RowColumns
rows_taken p rows_now room shows =
    let long = length-take-le (row_width * count p) rows_now room in
    ext_get_or 0 (take (row_width * count p) rows_now) (rows p) (long ∙ sym (rows_length p))
    (λ k l. let inside : k < row_width * count p = omega (arith, long) in
    let place : row_width * (k / row_width) + k % row_width ≡ k = div-add-mod k row_width in
    let j_inside : k / row_width < count p = omega arith in
    let q_inside : k % row_width < row_width = omega arith in
    get_or-take (row_width * count p) rows_now k 0 inside
    ∙ ap (λ (x : ℕ). get_or rows_now x 0) (sym place)
    ∙ shows (k / row_width) (k % row_width) j_inside q_inside
    ∙ row_at p (k / row_width) (k % row_width) q_inside
    ∙ sym (rows_at p (k / row_width) (k % row_width) j_inside q_inside)
    ∙ ap (λ (x : ℕ). get_or (rows p) x 0) place)

module _ (p : Plan) {n ran : ℕ} {rows_now : List ℕ} (r : Result ⊤ Refused) {t t' l l₁ l' : List ℕ}
    (sound : Sound p) (many : count p ≡ n) (room : ResultsRoom n t l)
    (run : Ran p n ran rows_now l l₁) (told_is : Tells (order_refusal p) 0 (told_of r))
    (left : ResultsLeft (is_ok r) n rows_now t t' l₁ l') where
  ordered : plan_outcome p (length t) (length l) ≡
      or_then (outcome (order_refusal p) zeros) (outcome none_given rows_and_run)
  unfolding plan_outcome or_then outcome refusal
  ordered =
      let enough : (room_refusal (count p) (length t) (length l)).number ≡ 0 =
      ap (λ (k : ℕ). (room_refusal k (length t) (length l)).number) many
      ∙ ap (λ (f : Refusal). f.number) (room_enough n (length t) (length l) room.in_table room.in_list) in
      rw (
        zero_not_given (rules_refusal p) sound.rules,
        zero_not_given (room_refusal (count p) (length t) (length l)) enough,
      )

  refused_says : given (order_refusal p) ≡ true → PlanCheckSays p (told_of r) t t' l l'
  unfolding PlanCheckSays or_then outcome table_left list_left left_in
  refused_says g =
      let z : (told_of r).number ≡ 0 → ⊥ = λ e.
      clash (given (order_refusal p)) g (zero_not_given (order_refusal p) (sym told_is.number ∙ e)) in
      let same : plan_outcome p (length t) (length l) ≡ outcome (order_refusal p) zeros = ordered ∙ rw g in
      subst (λ (o : Outcome). Says o 0 p (told_of r) t t' l l') (sym same)
      (record {
        tells = told_is;
        table_holds = left.refused_table (refused_as r z)
            ∙ ap (λ (k : ℕ). in_front (replicate (row_width * k) 0) t) (sym many);
        list_holds = left.refused_list (refused_as r z) ∙ front_alike (replicate (2 * n) 0) l₁ l
            (rw length-replicate run.listed.past)
            ∙ ap (λ (k : ℕ). in_front (replicate (2 * k) 0) l) (sym many);
      })

  passed_says : (order_refusal p).number ≡ 0 → PlanCheckSays p (told_of r) t t' l l'
  unfolding PlanCheckSays or_then outcome table_left list_left left_in
  passed_says e =
      let z = told_is.number ∙ e in
      let some_run = missing_none p (known p sound) (passed_means p e).0 in
      let full = (full_run p (standard p) (standard_full p (known p sound) some_run)).1 in
      let taken = rows_taken p rows_now (rw many (left.long (passed_by r z)))
      (all_rows p sound rows_now some_run run.filled) in
      let same : plan_outcome p (length t) (length l) ≡ outcome none_given rows_and_run =
      ordered ∙ rw (zero_not_given (order_refusal p) e) in
      subst (λ (o : Outcome). Says o 0 p (told_of r) t t' l l') (sym same)
      (record {
        tells = subst (λ (f : Refusal). Tells f 0 (told_of r)) (passed_means p e).1 told_is;
        table_holds = left.passed_table (passed_by r z)
            ∙ ap (λ (x : List ℕ). in_front x t) (ap (λ (k : ℕ). take (row_width * k) rows_now) (sym many) ∙ taken);
        list_holds = left.passed_list (passed_by r z) ∙ run.whole (run.many ∙ full ∙ many);
      })

  pub order_says : PlanCheckSays p (told_of r) t t' l l'
  order_says =
      by_cases (given (order_refusal p)) refused_says (λ f. passed_says (not_given_zero (order_refusal p) f))
