-- What dominance means: yes, no and unknown are exactly what the completions tell. Assumes nothing.
use mathlib.Core.Path.{◌≡◌, refl, sym, ap, ◌∙◌}
use mathlib.Core.Bool.{Bool, true, false, cond}
use mathlib.Core.List.{List, [], ◌∷◌}
use Prim.Native.Nat.{ℕ, suc, ◌+◌, ◌≤◌, ◌<◌, max, zero-le}
use native.Mathlib.Nat.{le_refl}
use native.Mathlib.Omega.{arith}
use lib.Dec.{eqb, leb}
use lib.ListN.{length}
use borrow.Author.Tests.{leb-true, leb-false, le-leb, eqb-true, eqb-false, eq-eqb}
use Rattle.base_lists.proofs.Tests.{by_cases, clash, and_left, and_right}
use Rattle.frontier.specs.declared.Frontier.{Frontier}
use Rattle.std.specs.Prelude.{Option}
use Rattle.std.specs.Prelude.{Some, None}
use Rattle.frontier.specs.Frontiers.{Verdict}
use Rattle.frontier.specs.Frontiers.{Yes, No, Unknown, Refused}
use Rattle.frontier_slots.specs.declared.Entry.{Entry}
use Rattle.frontier_slots.specs.Entries.{most_entries, find}
use Rattle.frontier.specs.Frontiers.{entries, well_formed, met, reached, answer, dominance_number, dominance}
use Rattle.frontier.specs.Frontiers.{number_of}
use Rattle.frontier.specs.Meaning.{epoch_of, epoch_at, Completion, Over, DominanceMeans}
use Rattle.frontier.proofs.Sorted.{Sorted, lower, epoch_here, epoch_there, epoch_none, epoch_below}
use Rattle.frontier.proofs.Pack.{formed, sorted_entries}
use Rattle.frontier.proofs.Merge.{entries_length}

-- THE REFUSALS, left before right
module _ (f g : Frontier) where
  pub judged_left : well_formed f ≡ false → Refused 14 ≡ dominance f g
  unfolding dominance dominance_number
  judged_left e = rw e

  pub judged_right : well_formed f ≡ true → well_formed g ≡ false → Refused 14 ≡ dominance f g
  unfolding dominance dominance_number
  judged_right e q = rw (e, q)

  pub judged_both : well_formed f ≡ true → well_formed g ≡ true →
      answer (reached (entries f) (entries g)) f.tainted g.tainted ≡ dominance f g
  unfolding dominance dominance_number
  judged_both e q = rw (e, q)

  pub judged_answer : {r : Verdict} {all : Bool} → r ≡ answer all f.tainted g.tainted →
      all ≡ reached (entries f) (entries g) → well_formed f ≡ true → well_formed g ≡ true → r ≡ dominance f g
  judged_answer p q v w = p ∙ ap (λ b. answer b f.tainted g.tainted) q ∙ judged_both v w

-- REACHED is at least in every axis; not reached is below in some
met_at_least : (l : Option ℕ) (n : ℕ) → met l n ≡ true → n ≤ epoch_of l
unfolding met epoch_of
met_at_least (Some e) n t = leb-true n e t
met_at_least None n t = clash false t refl

met_not : (l : Option ℕ) (n : ℕ) → 0 < n → met l n ≡ false → epoch_of l < n
unfolding met epoch_of
met_not (Some e) n h t = leb-false n e t
met_not None n h t = h

pub reached_over : (xs ys : List Entry) → reached xs ys ≡ true → Over (epoch_at xs) (epoch_at ys)
unfolding reached
reached_over xs [] e a = rw (epoch_none a) zero-le
reached_over xs (y ∷ ys) e a =
    by_cases (eqb y.axis a)
    (λ t. rw (epoch_here y ys a (eqb-true y.axis a t), ← eqb-true y.axis a t)
    (unfold epoch_at in
    (met_at_least (find y.axis xs) y.epoch (and_left (met (find y.axis xs) y.epoch) (reached xs ys) e))))
    (λ t. rw (epoch_there y ys a (eqb-false y.axis a t))
    (reached_over xs ys (and_right (met (find y.axis xs) y.epoch) (reached xs ys) e) a))

pub not_reached : (b : ℕ) (xs ys : List Entry) → Sorted b ys → reached xs ys ≡ false →
    (a : ℕ) × (epoch_at xs a < epoch_at ys a)
unfolding reached
not_reached b xs [] s e = clash true refl e
not_reached b xs (y ∷ ys) s e =
    by_cases (met (find y.axis xs) y.epoch)
    (λ t. let w = not_reached (suc y.axis) xs ys s.2 (rw t at e) in (
      w.0,
      rw (epoch_there y ys w.0
          (λ q. omega (arith, w.1, epoch_below (suc y.axis) ys w.0 s.2 (omega arith)))) w.1,
    ))
    (λ t. (
      y.axis,
      rw (epoch_here y ys y.axis refl) (unfold epoch_at in (met_not (find y.axis xs) y.epoch s.1 t)),
    ))

-- COMPLETIONS
itself : (f : Frontier) → Completion f (epoch_at (entries f))
itself f = record { at_least = λ a. le_refl (epoch_at (entries f) a); exact = λ t a. refl }

-- what a tainted frontier may have lost besides
besides : (f : Frontier) (lost : ℕ → ℕ) → f.tainted ≡ true → Completion f (λ a. max (epoch_at (entries f) a) (lost a))
besides f lost t = record { at_least = λ a. omega arith; exact = λ u a. clash f.tainted t u }

-- the least axis from b on that is not listed
unfoldable fresh : (b : ℕ) → List Entry → ℕ
fresh b [] = b
fresh b (x ∷ xs) = cond (eqb x.axis b) (fresh (suc b) xs) b

fresh_from : (b : ℕ) (xs : List Entry) → b ≤ fresh b xs
unfolding fresh
fresh_from b [] = le_refl b
fresh_from b (x ∷ xs) =
    by_cases (eqb x.axis b) (λ t. rw t (omega (arith, fresh_from (suc b) xs))) (λ t. rw t (le_refl b))

fresh_low : (b : ℕ) (xs : List Entry) → fresh b xs ≤ b + length xs
unfolding fresh
fresh_low b [] = omega arith
fresh_low b (x ∷ xs) =
    by_cases (eqb x.axis b) (λ t. rw t (omega (arith, fresh_low (suc b) xs))) (λ t. rw t (omega arith))

fresh_none : (b : ℕ) (xs : List Entry) → Sorted b xs → epoch_at xs (fresh b xs) ≡ 0
unfolding fresh
fresh_none b [] s = epoch_none b
fresh_none b (x ∷ xs) s =
    by_cases (eqb x.axis b)
    (λ t. let e = eqb-true x.axis b t in
    rw t (epoch_there x xs (fresh (suc b) xs) (λ q. omega (arith, fresh_from (suc b) xs))
    ∙ fresh_none (suc b) xs (lower (suc x.axis) (suc b) xs (omega arith) s.2)))
    (λ t. rw t
    (epoch_there x xs b (eqb-false x.axis b t) ∙ epoch_below (suc x.axis) xs b s.2 (omega (arith, s.0))))

-- an entry of epoch 1 under an axis of at most sixteen
one_at : (k a : ℕ) → ℕ
one_at k a = cond (eqb k a) 1 0

one_small : (k a : ℕ) → k ≤ most_entries → one_at k a ≤ cond (leb a most_entries) 1 0
unfolding one_at
one_small k a h =
    by_cases (eqb k a)
    (λ t. rw (t, le-leb a most_entries (omega (arith, eqb-true k a t))) (le_refl 1))
    (λ t. rw t zero-le)

one_here : (k : ℕ) → one_at k k ≡ 1
unfolding one_at
one_here k = rw (eq-eqb k k refl)

-- the answers are told apart
code : Verdict → ℕ
code Yes = 0
code No = 1
code Unknown = 2
code (Refused n) = 3

apart {ℓ} : {A : Type ℓ} (d e : Verdict) → d ≡ e → (code d ≡ code e → ⊥) → A
apart d e q n = absurd (n (ap code q))

module _ (f g : Frontier) where
  refused_means : (n : ℕ) → n ≡ dominance_number f g → DominanceMeans f g (Refused n)
  unfolding number_of code
  refused_means n e = record {
    number = e;
    if_yes = λ q. apart (Refused n) Yes q (λ z. omega arith);
    if_no = λ q. apart (Refused n) No q (λ z. omega arith);
    if_unknown = λ q. apart (Refused n) Unknown q (λ z. omega arith);
    nor_yes = λ q. apart (Refused n) Unknown q (λ z. omega arith);
  }

  answered : (all ft gt : Bool) → 0 ≡ dominance_number f g → Sorted 0 (entries f) → length (entries f) ≤ most_entries →
      Sorted 0 (entries g) → reached (entries f) (entries g) ≡ all → f.tainted ≡ ft → g.tainted ≡ gt →
      DominanceMeans f g (answer all ft gt)
  unfolding answer number_of code
  answered true ft false n sf l s r p q = record {
    number = n;
    if_yes = λ z full other x y a. omega (arith, y.exact q a, x.at_least a, reached_over (entries f) (entries g) r a);
    if_no = λ z. apart Yes No z (λ k. omega arith);
    if_unknown = λ z. apart Yes Unknown z (λ k. omega arith);
    nor_yes = λ z. apart Yes Unknown z (λ k. omega arith);
  }
  answered true ft true n sf l s r p q = record {
    number = n;
    if_yes = λ z. apart Unknown Yes z (λ k. omega arith);
    if_no = λ z. apart Unknown No z (λ k. omega arith);
    if_unknown = λ z. (
      epoch_at (entries f),
      epoch_at (entries g),
      itself f,
      itself g,
      λ a. omega arith,
      λ a. omega arith,
      reached_over (entries f) (entries g) r,
    );
    nor_yes = λ z. let k = fresh 0 (entries f) in (
      epoch_at (entries f),
      λ a. max (epoch_at (entries g) a) (one_at k a),
      itself f,
      besides g (one_at k) q,
      λ a. omega arith,
      λ a. omega (arith, one_small k a (omega (arith, l, fresh_low 0 (entries f)))),
      λ over. omega (arith, over k, one_here k, fresh_none 0 (entries f) sf),
    );
  }
  answered false false gt n sf l s r p q = record {
    number = n;
    if_yes = λ z. apart No Yes z (λ k. omega arith);
    if_no = λ z full other x y over. let w = not_reached 0 (entries f) (entries g) s r in
        omega (arith, x.exact p w.0, y.at_least w.0, w.1, over w.0);
    if_unknown = λ z. apart No Unknown z (λ k. omega arith);
    nor_yes = λ z. apart No Unknown z (λ k. omega arith);
  }
  answered false true gt n sf l s r p q = record {
    number = n;
    if_yes = λ z. apart Unknown Yes z (λ k. omega arith);
    if_no = λ z. apart Unknown No z (λ k. omega arith);
    if_unknown = λ z. (
      λ a. max (epoch_at (entries f) a) (epoch_at (entries g) a),
      epoch_at (entries g),
      besides f (epoch_at (entries g)) p,
      itself g,
      λ a. omega arith,
      λ a. omega arith,
      λ a. omega arith,
    );
    nor_yes = λ z. (
      epoch_at (entries f),
      epoch_at (entries g),
      itself f,
      itself g,
      λ a. omega arith,
      λ a. omega arith,
      λ over. let w = not_reached 0 (entries f) (entries g) s r in omega (arith, w.1, over w.0),
    );
  }

  pub dominance_means : (r : Verdict) → r ≡ dominance f g → DominanceMeans f g r
  unfolding dominance_number
  dominance_means r e =
      by_cases (well_formed f)
      (λ p. by_cases (well_formed g)
      (λ q. rw (e
      ∙ sym (judged_both f g p q)) (answered (reached (entries f) (entries g)) f.tainted g.tainted (rw (p, q))
      (sorted_entries f p) (omega (arith, entries_length f, (formed f p).short)) (sorted_entries g q) refl refl refl))
      (λ q. rw (e ∙ sym (judged_right f g p q)) (refused_means 14 (rw (p, q)))))
      (λ p. rw (e ∙ sym (judged_left f g p)) (refused_means 14 (rw p)))

  -- the equation, and what it means
  pub dominates_all : (r : Verdict) → r ≡ dominance f g → (r ≡ dominance f g) × DominanceMeans f g r
  dominates_all r e = (e, dominance_means r e)
