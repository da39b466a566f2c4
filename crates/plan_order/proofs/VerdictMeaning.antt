-- The verdict of the reuse question is the one whose line of the table holds. Assumes nothing.
use mathlib.Core.Path.{◌≡◌, refl, sym, ap, ◌∙◌, subst}
use mathlib.Core.Bool.{Bool, true, false, false≢true}
use mathlib.Core.Logic.{◌↔◌}
use mathlib.Core.List.Memᴰ
use mathlib.Core.List.{List, [], ◌∷◌, ◌++◌, Memᴰ}
use mathlib.Core.Option.{Option, none, some}
use Prim.Native.Nat.{ℕ, zero, suc, ◌≤◌}
use native.Mathlib.Omega.{arith}
use lib.Dec.{ltb, eqb}
use borrow.Author.Tests.{ltb-true, ltb-false, eqb-true, eqb-false}
use Rattle.base_lists.specs.Lists.{member, all, highest_below}
use Rattle.base_lists.proofs.Tests.{by_cases, by_option, clash, is_false}
use Rattle.base_lists.proofs.Searches.{all_gives, all_by, all_fails, all_no, highest_some, highest_none}
use Rattle.order.specs.Closure.{any_of, fresh as found, round, rounds, predecessors}
use Rattle.plan_format.specs.Plan.{Plan, count, op}
use Rattle.plan_order.specs.Precedence.{same_queue, any_rests_on, direct, all_before, before, at_or_before}
use Rattle.plan_order.specs.Holdings.{Placed, placed, marks_of, marks_from, is_free, buffer_marks}
use Rattle.plan_order.specs.Reuse.{number_of, last_on, seen_by, last_mark, verdict_on, verdict}
use Rattle.plan_order.specs.Meaning.{LastOn, Seen, LastMark, When, VerdictTable}
use Rattle.plan_order.specs.declared.Verdict.{Verdict}
use Rattle.plan_order.specs.declared.Verdict.TheVariants.{Fresh, Reusable, Held, NotOrdered}
use Rattle.plan_order.proofs.Precedence.{at_or_means}
use Rattle.plan_order.proofs.AskedMarks.{free_kind, kind_free, kind_use, use_kind}
use Rattle.plan_order.proofs.MarksMeaning.{mark_marked, marked_mark}

-- a plan of one queue, one buffer, and one operation that uses it and does not free it
unfoldable pub one_use : Plan
one_use = record {
  axes = 0 ∷ [];
  owners = [];
  sizes = 0 ∷ [];
  operations = record { queue = 0; waits = []; signals = []; marks = record { buffer = 0; kind = 0 } ∷ [] } ∷ [];
}

used_held : verdict one_use 0 0 ≡ Held
unfolding one_use verdict verdict_on buffer_marks marks_from marks_of placed last_mark is_free
used_held = refl

-- T11: one queue uses the buffer, and another one frees it; the first sees its own operation alone
two_queues : Plan
two_queues = record {
  axes = 0 ∷ 1 ∷ [];
  owners = [];
  sizes = 0 ∷ [];
  operations =
      record { queue = 0; waits = []; signals = []; marks = record { buffer = 0; kind = 0 } ∷ [] }
      ∷ record { queue = 1; waits = []; signals = []; marks = record { buffer = 0; kind = 1 } ∷ [] } ∷ [];
}

not_all_seen : verdict two_queues 0 0 ≡ NotOrdered
unfolding two_queues verdict verdict_on last_on highest_below buffer_marks marks_from marks_of placed last_mark is_free
    all seen_by at_or_before before all_before predecessors rounds round found any_of direct any_rests_on same_queue
    member count op
not_all_seen = refl

module _ (p : Plan) (q : ℕ) where
  -- ---- the queue's last operation
  last_gives : (j : ℕ) → last_on p q ≡ some j → LastOn p q j
  unfolding last_on
  last_gives j e =
      let w = highest_some (count p) (λ i. eqb (op p i).queue q) j e in
      record {
        operation = w.inside;
        own = eqb-true (op p j).queue q w.passes;
        last = λ k l u. eqb-false (op p k).queue q (w.higher k l u);
      }

  last_one : (i j : ℕ) → LastOn p q i → LastOn p q j → i ≡ j
  last_one i j a b =
      by_cases (ltb i j) (λ t. absurd (a.last j (ltb-true i j t) b.operation b.own))
      (λ f. by_cases (ltb j i) (λ t. absurd (b.last i (ltb-true j i t) a.operation a.own))
      (λ g. omega (arith, ltb-false i j f, ltb-false j i g)))

  pub last_means : (j : ℕ) → (last_on p q ≡ some j) ↔ LastOn p q j
  unfolding last_on
  last_means j = (
    last_gives j,
    (λ w. by_option (last_on p q)
        (λ e. absurd (eqb-false (op p j).queue q
        (highest_none (count p) (λ i. eqb (op p i).queue q) e j w.operation) w.own))
        (λ i e. e ∙ ap some (last_one i j (last_gives i e) w))),
  )

  -- ---- the last operation or before it
  pub seen_means : (i : ℕ) → (seen_by p (last_on p q) i ≡ true) ↔ Seen p q i
  unfolding seen_by
  seen_means i = (
    (λ h. by_option (last_on p q) (λ e. absurd (false≢true (rw e at h)))
        (λ j e. (j, last_gives j e, (at_or_means p i j).0 (rw e at h)))),
    (λ w. rw ((last_means w.0).1 w.1) ((at_or_means p i w.0).1 w.2)),
  )

  unseen : (i : ℕ) → seen_by p (last_on p q) i ≡ false → Seen p q i → ⊥
  unseen i f w = clash (seen_by p (last_on p q) i) ((seen_means i).1 w) f

-- ---- the last mark
pub last_some : (ms : List Placed) (m : Placed) → last_mark (ms ++ (m ∷ [])) ≡ some m
unfolding last_mark
last_some [] m = refl
last_some (n ∷ []) m = refl
last_some (n ∷ n' ∷ ms) m = last_some (n' ∷ ms) m

pub some_last : (ms : List Placed) (m : Placed) → last_mark ms ≡ some m → (ns : List Placed) × (ms ≡ ns ++ (m ∷ []))
unfolding last_mark
some_last [] m e = absurd (let z : ◌≡◌ {A = ℕ} 0 1 = cc in omega arith)
some_last (n ∷ []) m e = ([], (let same : n ≡ m = cc in cc))
some_last (n ∷ n' ∷ ms) m e = let w = some_last (n' ∷ ms) m e in (n ∷ w.0, ap (λ (z : List Placed). n ∷ z) w.1)

none_last : (ms : List Placed) → ◌≡◌ {A = Option Placed} (last_mark ms) none → ms ≡ []
unfolding last_mark
none_last [] e = refl
none_last (n ∷ []) e = absurd (let z : ◌≡◌ {A = ℕ} 0 1 = cc in omega arith)
none_last (n ∷ n' ∷ ms) e = absurd (let z = none_last (n' ∷ ms) e in let z : ◌≡◌ {A = ℕ} 0 1 = cc in omega arith)

-- ---- no two verdicts have one number
verdict_of : ℕ → Verdict
verdict_of zero = Fresh
verdict_of (suc zero) = Reusable
verdict_of (suc (suc zero)) = Held
verdict_of (suc (suc (suc n))) = NotOrdered

of_number : (v : Verdict) → verdict_of (number_of v) ≡ v
unfolding verdict_of number_of
of_number Fresh = refl
of_number Reusable = refl
of_number Held = refl
of_number NotOrdered = refl

number_one : (u v : Verdict) → number_of u ≡ number_of v → u ≡ v
number_one u v e = sym (of_number u) ∙ ap verdict_of e ∙ of_number v

-- and there are four
pub number_most : (v : Verdict) → number_of v ≤ 3
unfolding number_of
number_most Fresh = omega arith
number_most Reusable = omega arith
number_most Held = omega arith
number_most NotOrdered = omega arith

-- ---- the table
module _ (p : Plan) (q b : ℕ) where
  abbrev marks : List Placed
  marks = buffer_marks p b

  abbrev sees : Placed → Bool
  sees n = seen_by p (last_on p q) n.by

  last_is : (m : Placed) → LastMark p b m → last_mark marks ≡ some m
  last_is m w = ap (λ (z : List Placed). last_mark z) w.1 ∙ last_some w.0 m

  pub last_in : (m : Placed) → LastMark p b m → Memᴰ m marks
  last_in m w = subst (λ (z : List Placed). Memᴰ m z) (sym w.1) (Memᴰ.append_right w.0 (Memᴰ.head refl))

  -- one line each
  module _ (m : Placed) (e : last_mark marks ≡ some m) where
    is_held : is_free m ≡ false → verdict p q b ≡ Held
    unfolding verdict verdict_on
    is_held f = rw (e, f)

    is_reusable : is_free m ≡ true → all sees marks ≡ true → verdict p q b ≡ Reusable
    unfolding verdict verdict_on
    is_reusable t a = rw (e, t, a)

    is_not_ordered : is_free m ≡ true → all sees marks ≡ false → verdict p q b ≡ NotOrdered
    unfolding verdict verdict_on
    is_not_ordered t a = rw (e, t, a)

  is_fresh : ◌≡◌ {A = Option Placed} (last_mark marks) none → verdict p q b ≡ Fresh
  unfolding verdict verdict_on
  is_fresh e = rw e

  table : When p q b (verdict p q b)
  unfolding When
  table =
      by_option (last_mark marks)
      (λ e. rw (is_fresh e)
      (λ i w. let x = marked_mark p b i w in
      Memᴰ.not-nil (subst (λ (z : List Placed). Memᴰ x.0 z) (none_last marks e) x.1)))
      (λ m e. let last = some_last marks m e in
      by_cases (is_free m)
      (λ t. by_cases (all sees marks)
      (λ a. rw (is_reusable m e t a) (
        m,
        last,
        free_kind m t,
        λ i w.
            let x = marked_mark p b i w in
            subst (λ (z : ℕ). Seen p q z) x.2 ((seen_means p q x.0.by).0 (all_gives sees marks a x.0 x.1)),
      ))
      (λ a. rw (is_not_ordered m e t a) (let x = all_fails sees marks a in
      (m, last, free_kind m t, (x.0.by, mark_marked p b x.0 x.1, unseen p q x.0.by x.2)))))
      (λ f. rw (is_held m e f) (m, last, use_kind m f)))

  sees_not : (i : ℕ) → (Seen p q i → ⊥) → seen_by p (last_on p q) i ≡ false
  sees_not i h = is_false (seen_by p (last_on p q) i) (λ t. h ((seen_means p q i).0 t))

  when_is : (v : Verdict) → When p q b v → verdict p q b ≡ v
  unfolding When
  when_is Fresh w =
      by_option (last_mark marks) is_fresh
      (λ m e. absurd (w m.by (mark_marked p b m (last_in m (some_last marks m e)))))
  when_is Held w = is_held w.0 (last_is w.0 w.1) (kind_use w.0 w.2)
  when_is Reusable w =
      let m = w.0 in
      is_reusable m (last_is m w.1) (kind_free m w.2)
      (all_by sees marks (λ n t. (seen_means p q n.by).1 (w.3 n.by (mark_marked p b n t))))
  when_is NotOrdered w =
      let x = w.3 in
      let n = marked_mark p b x.0 x.1 in
      is_not_ordered w.0 (last_is w.0 w.1) (kind_free w.0 w.2)
      (all_no sees marks n.0 n.1 (sees_not n.0.by (λ v. x.2 (subst (λ (z : ℕ). Seen p q z) n.2 v))))

  -- R58, the table of verdicts
  pub verdict_means : (v : Verdict) → (verdict p q b ≡ v) ↔ When p q b v
  verdict_means v = ((λ e. subst (λ (z : Verdict). When p q b z) e table), when_is v)

  -- the numbers of verdicts
  pub verdict_table : VerdictTable p q b (number_of (verdict p q b))
  unfolding number_of
  verdict_table = record {
    fresh = numbered Fresh;
    reusable = numbered Reusable;
    held = numbered Held;
    not_ordered = numbered NotOrdered;
  }
    where
      numbered : (v : Verdict) → (number_of (verdict p q b) ≡ number_of v) ↔ When p q b v
      numbered v =
          ((λ e. (verdict_means v).0 (number_one (verdict p q b) v e)), (λ w. ap number_of ((verdict_means v).1 w)))
