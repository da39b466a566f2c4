-- A buffer whose last mark is a free, in a plan without broken marks: every operation with a mark on it is at or before
-- that free, so a queue that sees the free sees them all, and the verdict goes by the last mark alone. Assumes nothing.
use mathlib.Core.Path.{◌≡◌, ap, ◌∙◌, subst, subst₂}
use mathlib.Core.Bool.{Bool, true}
use mathlib.Core.Logic.{inl, inr, ◌↔◌}
use mathlib.Core.List.{[], ◌∷◌}
use mathlib.Core.Option.{some}
use Prim.Native.Nat.{ℕ, zero, suc, ◌+◌, ◌-◌, ◌≤◌, ◌<◌}
use native.Mathlib.Omega.{arith}
use lib.Dec.{eqb}
use lib.ListN.{length, length-append}
use lib.Seq.{get_or-append_seam}
use borrow.Author.Tests.{eqb-true, eqb-false}
use Rattle.base_lists.specs.Lists.{all}
use Rattle.base_lists.proofs.Tests.{by_cases, by_option}
use Rattle.base_lists.proofs.Searches.{all_by, all_no}
use Rattle.base_lists.proofs.Places.{mem_place}
use Rattle.plan_format.specs.Refusal.{Refusal, refusal, none_given}
use Rattle.plan_format.specs.Plan.{Plan}
use Rattle.plan_order.specs.Holdings.{Placed, is_free, buffer_marks}
use Rattle.plan_order.specs.Check.{order_refusal}
use Rattle.plan_order.specs.Reuse.{number_of, last_on, seen_by, last_mark, verdict_on, verdict}
use Rattle.plan_order.specs.FiveVerdicts.{five_on, five_verdict}
use Rattle.plan_order.specs.Meaning.{mark_at, Frees, NoFree, Forced, AllForced, Marked, LastMark, Seen}
use Rattle.plan_order.specs.Meaning.{FreeUnseen, When}
use Rattle.plan_order.specs.declared.Verdict.TheVariants.{NotOrdered}
use Rattle.plan_order.proofs.Precedence.{At, at_join}
use Rattle.plan_order.proofs.Demand3.{Ordered, stuck_there, disordered_there, broken_there, in_order}
use Rattle.plan_order.proofs.Demand3.{order_cases}
use Rattle.plan_order.proofs.AskedMarks.{free_kind}
use Rattle.plan_order.proofs.KeepsMeaning.{unbroken_means}
use Rattle.plan_order.proofs.MarksMeaning.{mark_marked, marked_mark}
use Rattle.plan_order.proofs.VerdictMeaning.{seen_means, some_last, last_in}

-- a plan whose order is not refused has no broken mark
order_forced : (p : Plan) (f : Refusal) → Ordered p f → f.number ≡ 0 → AllForced p
unfolding refusal none_given
order_forced p f (stuck_there i m) z = absurd (omega arith)
order_forced p f (disordered_there i m d) z = absurd (omega arith)
order_forced p f (broken_there i m d e) z = absurd (omega arith)
order_forced p f (in_order m d e) z = (unbroken_means p).0 e

pub passed_forced : (p : Plan) → (order_refusal p).number ≡ 0 → AllForced p
passed_forced p z = order_forced p (order_refusal p) (order_cases p) z

module _ (p : Plan) (b : ℕ) (forced : (k : ℕ) → k < length (buffer_marks p b) → Forced p b k) where
  abbrev by : (k : ℕ) → ℕ
  by k = (mark_at (buffer_marks p b) k).by

  -- a mark and the free of its own holding
  own_free : (k n : ℕ) → k ≤ n → n < length (buffer_marks p b) → NoFree (buffer_marks p b) k n →
      Frees (buffer_marks p b) n → At p (by k) (by n)
  own_free k n l inside none frees =
      by_cases (eqb k n) (λ t. inl (ap by (eqb-true k n t)))
      (λ f. (forced k (omega arith)).own_free n (omega (arith, eqb-false k n f)) inside none frees)

  -- a mark and any free from it on; no free is passed from k up to n
  later_free : (left k n l : ℕ) → n + left ≡ l → k ≤ n → l < length (buffer_marks p b) →
      NoFree (buffer_marks p b) k n →
      Frees (buffer_marks p b) l → At p (by k) (by l)
  later_free zero k n l e low inside none frees =
      let same : n ≡ l = omega arith in
      own_free k l (omega arith) inside (subst (λ (z : ℕ). NoFree (buffer_marks p b) k z) same none) frees
  later_free (suc left) k n l e low inside none frees =
      by_cases (eqb (mark_at (buffer_marks p b) n).kind 1)
      (λ t. let free = eqb-true (mark_at (buffer_marks p b) n).kind 1 t in
      let next = (forced (suc n) (omega arith)).free_before n (omega arith) free (λ m a c. absurd (omega arith)) in
      at_join p (by k) (by n) (by l) (own_free k n low (omega arith) none free)
      (at_join p (by n) (by (suc n)) (by l) (inr next)
      (later_free left (suc n) (suc n) l (omega arith) (omega arith) inside (λ m a c. absurd (omega arith)) frees)))
      (λ f. later_free left k (suc n) l (omega arith) (omega arith) inside
      (λ m a c g. by_cases (eqb m n)
      (λ s. eqb-false (mark_at (buffer_marks p b) n).kind 1 f
      (subst (λ (z : ℕ). Frees (buffer_marks p b) z) (eqb-true m n s) g))
      (λ s. none m a (omega (arith, eqb-false m n s)) g)) frees)

  -- a buffer whose last mark is a free: every operation with a mark on it is the one that frees, or before it
  pub marked_by_free : (m : Placed) → LastMark p b m → m.kind ≡ 1 → (i : ℕ) → Marked p b i → At p i m.by
  marked_by_free m (ns, e) frees i marked =
      let none : Placed = record { by = 0; kind = 0 } in
      let (x, among, x_by) = marked_mark p b i marked in
      let (k, inside, x_is) = mem_place (buffer_marks p b) none x among in
      let l = length ns in
      let long : length (buffer_marks p b) ≡ length ns + 1 = ap length e ∙ length-append ns (m ∷ []) in
      let m_is : mark_at (buffer_marks p b) l ≡ m = rw e (get_or-append_seam ns m [] none) in
      let reached = later_free (l - k) k k l (omega arith) (omega arith) (omega arith) (λ n a c. absurd (omega arith))
      (ap (λ (z : Placed). z.kind) m_is ∙ frees) in
      subst₂ (λ (y z : ℕ). At p y z) (ap (λ (z : Placed). z.by) x_is ∙ x_by) (ap (λ (z : Placed). z.by) m_is) reached

  -- a queue that sees the last free sees every operation with a mark on the buffer
  pub marked_seen : (q : ℕ) (m : Placed) → LastMark p b m → m.kind ≡ 1 → Seen p q m.by →
      (i : ℕ) → Marked p b i → Seen p q i
  marked_seen q m last frees (j, last_op, seen) i marked =
      (j, last_op, at_join p i m.by j (marked_by_free m last frees i marked) seen)

  -- ---- the verdict by the last mark alone
  module _ (q : ℕ) where
    abbrev sees : Placed → Bool
    sees n = seen_by p (last_on p q) n.by

    pub all_by_last : (m : Placed) → last_mark (buffer_marks p b) ≡ some m → is_free m ≡ true →
        all sees (buffer_marks p b) ≡ sees m
    all_by_last m e t =
        let last = some_last (buffer_marks p b) m e in
        by_cases (sees m)
        (λ s. let seen = marked_seen q m last (free_kind m t) ((seen_means p q m.by).0 s) in
        rw s (all_by sees (buffer_marks p b)
        (λ n among. (seen_means p q n.by).1 (seen n.by (mark_marked p b n among)))))
        (λ s. rw s (all_no sees (buffer_marks p b) m (last_in p q b m last) s))

    -- the number is that of the five-line table
    pub five_same : number_of (verdict p q b) ≡ five_verdict p q b
    unfolding verdict verdict_on five_verdict five_on number_of
    five_same =
        by_option (last_mark (buffer_marks p b)) (λ e. rw e)
        (λ m e. by_cases (is_free m)
        (λ t. by_cases (sees m) (λ s. rw (e, t, all_by_last m e t, s)) (λ s. rw (e, t, all_by_last m e t, s)))
        (λ f. rw (e, f)))

    -- not ordered: the last free is not seen
    pub unseen_free : When p q b NotOrdered ↔ FreeUnseen p q b
    unfolding When
    unseen_free = (
      (λ w. (w.0, w.1, w.2, λ s. let x = w.3 in x.2 (marked_seen q w.0 w.1 w.2 s x.0 x.1))),
      (λ w. (w.0, w.1, w.2, (w.0.by, mark_marked p b w.0 (last_in p q b w.0 w.1), w.3))),
    )
