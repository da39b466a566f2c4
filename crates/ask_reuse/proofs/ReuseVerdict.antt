-- The verdict by columns and rows is the plan's. Assumes nothing.
use mathlib.Core.Path.{◌≡◌, refl, sym, ap, ◌∙◌, subst}
use mathlib.Core.Bool.{Bool}
use mathlib.Core.List.{List, [], ◌∷◌, ◌++◌, append-nil}
use Rattle.std.specs.Prelude.{Some}
use mathlib.Core.Option.{Option, none, some}
use Prim.Native.Nat.{ℕ, zero, suc, ◌/◌, ◌%◌, ◌<◌}
use native.Mathlib.Nat.{zero-add}
use native.Mathlib.Omega.{arith}
use lib.Dec.{eqb}
use lib.ListN.{length, get_or}
use borrow.Author.Tests.{lt-ltb}
use Rattle.base_lists.specs.Lists.{tabulate_from, highest_below}
use Rattle.base_lists.proofs.Tests.{by_cases, by_option}
use Rattle.base_lists.proofs.Searches.{highest_some, highest_same}
use Rattle.base_lists.proofs.Tables.{tabulate_last}
use Rattle.plan_format.specs.Sizes.{most_operations}
use Rattle.plan_format.specs.Plan.{Plan, count, op}
use Rattle.plan_order.specs.Holdings.{Placed, is_free, buffer_marks}
use Rattle.plan_order.specs.Reuse.{last_on, seen_by, last_mark, verdict_on, verdict}
use Rattle.plan_order.specs.Meaning.{Forced}
use Rattle.plan_order.specs.declared.Verdict.{Verdict}
use Rattle.plan_order.specs.declared.Verdict.TheVariants.{Fresh}
use Rattle.plan_order.proofs.VerdictMeaning.{last_some}
use Rattle.plan_order.proofs.LastFree.{all_by_last}
use Rattle.check_columns.specs.Columns.{Marked, QueueColumn, plan_marks}
use Rattle.check_columns.specs.Shown.{mark_codes, mark_of, shown_from}
use Rattle.check_columns.proofs.Marks.{Known, each_at, marks_known, marks_shown, place, of_buffer, of_append, of_plan}
use Rattle.check_columns.proofs.Ordered.{ordered_right}
use Rattle.ask_reuse.specs.ReusePass.{VerdictGiven, last_shown, last_marked, seen, verdict_after, verdict_at}
use Rattle.ask_reuse.specs.ReusePass.{marked_by, judged_at, judged_by, JudgedRight}
use Rattle.ask_reuse.specs.declared.Judged.{Judged}

-- ---- the queue's last operation
last_of : (p : Plan) (queue : List ℕ) (q : ℕ) → QueueColumn p queue →
    last_shown queue q (count p) ≡ last_on p q
unfolding last_shown last_on QueueColumn
last_of p queue q shown =
    highest_same (count p) (λ i. eqb (get_or queue i 0) q) (λ i. eqb (op p i).queue q)
    (λ i l. ap (λ (z : ℕ). eqb z q) (shown i l))

module _ {p : Plan} {n marks : ℕ} {queue mark operation rows : List ℕ}
    (shown : VerdictGiven p n marks queue mark operation rows) where
  seen_right : (q i : ℕ) → i < count p →
      seen queue rows (last_on p q) i ≡ seen_by p (last_on p q) i
  unfolding seen seen_by last_on
  seen_right q i l =
      by_option (last_on p q) (λ e. rw e)
      (λ j e. let inside : j < count p = (highest_some (count p) (λ i. eqb (op p i).queue q) j e).inside in
      rw (
        e,
        lt-ltb j most_operations (omega (arith, shown.sound.few_operations)),
        ordered_right p shown.sound queue rows shown.queues_shown shown.rows_shown i j l inside,
      ))

-- ---- the verdict by the last mark
by_last : (seen : ℕ → Bool) → (last_mark : Option Placed) → Verdict
by_last f none = Fresh
by_last f (some m) = verdict_after (is_free m) (f m.by)

-- in a plan without broken marks it is the plan's
last_verdict : (p : Plan) (q b : ℕ) → ((k : ℕ) → k < length (buffer_marks p b) → Forced p b k) →
    by_last (seen_by p (last_on p q)) (last_mark (buffer_marks p b)) ≡ verdict p q b
unfolding by_last verdict verdict_on verdict_after
last_verdict p q b forced =
    by_option (last_mark (buffer_marks p b)) (λ e. rw e)
    (λ m e. by_cases (is_free m) (λ t. rw (e, t, all_by_last p b forced q m e t)) (λ f. rw (e, f)))

-- the last mark on a buffer, by its place in the columns
module _ (mark operation : List ℕ) where
  shown : ℕ → Marked
  shown k = mark_of (get_or mark k 0 % mark_codes) (get_or operation k 0 % most_operations)

  abbrev first : (n : ℕ) → List Marked
  first n = shown_from mark operation n 0

  placed_at : Option ℕ → Option Placed
  placed_at none = none
  placed_at (some k) = some (place (shown k))

  module _ (b : ℕ) where
    one_more : (n : ℕ) → of_buffer b (first (suc n)) ≡ of_buffer b (first n) ++ of_buffer b (shown n ∷ [])
    unfolding shown
    one_more n =
        ap (of_buffer b) (tabulate_last shown n 0 ∙ ap (λ (z : ℕ). first n ++ (shown z ∷ [])) (zero-add n))
        ∙ of_append b (first n) (shown n ∷ [])

    last_placed : (n : ℕ) → last_mark (of_buffer b (first n)) ≡ placed_at (last_marked mark b n)
    unfolding tabulate_from of_buffer last_mark last_marked highest_below shown placed_at
    last_placed zero = refl
    last_placed (suc n) =
        by_cases (eqb (get_or mark n 0 % mark_codes / 2) b)
        (λ t. rw (one_more n, t, last_some (of_buffer b (first n)) (place (shown n))))
        (λ e. rw (one_more n, e, append-nil (of_buffer b (first n))) (last_placed n))

  verdict_placed : (f : ℕ → Bool) (o : Option ℕ) → by_last f (placed_at o) ≡ verdict_at f mark operation o
  unfolding by_last placed_at verdict_at shown is_free
  verdict_placed f none = refl
  verdict_placed f (some k) = refl

  operation_placed : (o : Option ℕ) (m : Placed) → placed_at o ≡ some m → marked_by operation o ≡ Some m.by
  unfolding placed_at marked_by shown
  operation_placed none m e = absurd (let z : ◌≡◌ {A = ℕ} 0 1 = cc in omega arith)
  operation_placed (some k) m e = let same : place (shown k) ≡ m = cc in ap (λ (z : Placed). Some z.by) same

-- ---- the verdict by columns and rows
at_same : (f g : ℕ → Bool) (mark operation : List ℕ) (b n : ℕ) →
    ((k : ℕ) → k < n → f (get_or operation k 0 % most_operations) ≡ g (get_or operation k 0 % most_operations)) →
    verdict_at f mark operation (last_marked mark b n) ≡ verdict_at g mark operation (last_marked mark b n)
unfolding verdict_at last_marked
at_same f g mark operation b n h =
    by_option (last_marked mark b n) (λ e. rw e)
    (λ k e. rw (e, h k (highest_some n (λ k. eqb (get_or mark k 0 % mark_codes / 2) b) k e).inside))

module _ {p : Plan} {n marks : ℕ} {queue mark operation rows : List ℕ}
    (shown : VerdictGiven p n marks queue mark operation rows) where
  -- a mark is of an operation of the plan
  by_inside : (k : ℕ) → k < marks → get_or operation k 0 % most_operations < count p
  by_inside k l =
      let known = marks_known p shown.sound in
      let m = (each_at (Known p) (plan_marks p) known k (omega (arith, shown.marks_shown.all))).by in
      omega (arith, m, shown.marks_shown.operations k l, shown.sound.few_operations)

  marks_are : (b : ℕ) → of_buffer b (shown_from mark operation marks 0) ≡ buffer_marks p b
  marks_are b =
      ap (of_buffer b) (marks_shown p marks mark operation shown.sound shown.few_buffers shown.marks_shown)
      ∙ of_plan p b

  last_are : (b : ℕ) → last_mark (buffer_marks p b) ≡ placed_at mark operation (last_marked mark b marks)
  last_are b = ap last_mark (sym (marks_are b)) ∙ last_placed mark operation b marks

  verdict_is : (q b : ℕ) → b < length p.sizes → {r : Judged} →
      r ≡ judged_by queue mark operation rows q b n marks → r.verdict ≡ verdict p q b
  unfolding judged_by judged_at
  verdict_is q b known e =
      let sees : ℕ → Bool = seen_by p (last_on p q) in
      let last_right = ap (last_shown queue q) (sym shown.many) ∙ last_of p queue q shown.queues_shown in
      ap (λ (z : Judged). z.verdict) e
      ∙ ap (λ (z : Option ℕ). verdict_at (seen queue rows z) mark operation (last_marked mark b marks)) last_right
      ∙ at_same (seen queue rows (last_on p q)) sees mark operation b marks
      (λ k l. seen_right shown q (get_or operation k 0 % most_operations) (by_inside k l))
      ∙ sym (verdict_placed mark operation sees (last_marked mark b marks))
      ∙ ap (by_last sees) (sym (last_are b))
      ∙ last_verdict p q b (λ k l. shown.forced b k known l)

  -- the operation of the last mark
  operation_is : (q b : ℕ) {r : Judged} → r ≡ judged_by queue mark operation rows q b n marks → (m : Placed) →
      last_mark (buffer_marks p b) ≡ some m → r.operation ≡ Some m.by
  unfolding judged_by judged_at
  operation_is q b e m last =
      ap (λ (z : Judged). z.operation) e ∙
      operation_placed mark operation (last_marked mark b marks) m (sym (last_are b) ∙ last)

  operation_inside : (b : ℕ) (m : Placed) → last_mark (buffer_marks p b) ≡ some m → m.by < count p
  unfolding last_marked placed_at shown
  operation_inside b m last =
      by_option (last_marked mark b marks)
      (λ nowhere. let z : ◌≡◌ {A = Option Placed} none (some m) =
      sym (ap (placed_at mark operation) nowhere) ∙ sym (last_are b) ∙ last in
      absurd (let y : ◌≡◌ {A = ℕ} 0 1 = cc in omega arith))
      (λ k is. let inside = (highest_some marks (λ k. eqb (get_or mark k 0 % mark_codes / 2) b) k is).inside in
      let placed : some (place (mark_of (get_or mark k 0 % mark_codes) (get_or operation k 0 % most_operations))) ≡
      some m = sym (ap (placed_at mark operation) is) ∙ sym (last_are b) ∙ last in
      let same : place (mark_of (get_or mark k 0 % mark_codes) (get_or operation k 0 % most_operations)) ≡ m = cc in
      subst (λ (z : ℕ). z < count p) (ap (λ (z : Placed). z.by) same) (by_inside k inside))

  pub judged_right : (q b : ℕ) → b < length p.sizes → {r : Judged} →
      r ≡ judged_by queue mark operation rows q b n marks → JudgedRight p q b r
  judged_right q b known e = record {
    verdict = verdict_is q b known e;
    operation = λ m last. (operation_is q b e m last, operation_inside b m last);
  }
