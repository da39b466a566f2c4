-- A cut before a union changes nothing of the cut after it, so merges at one capacity may be grouped in any way, also
-- where they cut; R66 asks it only where they do not. Assumes nothing.
use mathlib.Core.Path.{◌≡◌, refl, sym, ap, ◌∙◌}
use mathlib.Core.Bool.{Bool, true, false, ◌||◌, cond}
use mathlib.Core.Logic.{inl, inr}
use mathlib.Core.List.{List, [], ◌∷◌}
use Prim.Native.Nat.{ℕ, zero, suc, ◌+◌, ◌-◌, ◌≤◌, zero-le, max, min}
use native.Mathlib.Nat.{le_refl}
use native.Mathlib.Omega.{arith}
use lib.Dec.{ltb, leb, eqb}
use lib.ListN.{length}
use borrow.Author.Tests.{ltb-true, ltb-false, leb-true, leb-false, lt-ltb, le-ltb, eqb-true}
use Rattle.base_lists.proofs.Tests.{by_cases, clash, is_true, is_false, either}
use Rattle.std.specs.Prelude.{Option}
use Rattle.std.specs.Prelude.{Some, None}
use Rattle.base_lists.specs.Lists.{filter}
use Rattle.frontier_slots.specs.declared.Entry.{Entry}
use Rattle.frontier_slots.specs.Entries.{find, put, union, exceeds, exceeding, cut}
use Rattle.frontier.specs.Meaning.{epoch_of, epoch_at, listed_if}
use Rattle.frontier.proofs.Sorted.{Sorted, same_entries, sorted_union, epoch_union, union_commutes, union_longer}
use Rattle.frontier.proofs.Exceeds.{exceeds_chain, exceeds_past, exceeds_raised, exceeds_not_top}
use Rattle.frontier.proofs.Cut.{In, sorted_keep, find_keep, cut_whole}
use Rattle.frontier.proofs.Evict.{least_above, exceeding_mono, next_bound, cut_by_bound, bound_start}

-- A UNION ONLY RAISES
exceeding_put : (b x : Entry) (ys : List Entry) → exceeding b ys ≤ exceeding b (put x ys)
unfolding put exceeding
exceeding_put b x [] = zero-le
exceeding_put b x (y ∷ ys) =
    by_cases (ltb x.axis y.axis) (λ l. rw l (omega arith))
    (λ l. by_cases (eqb x.axis y.axis)
    (λ m. rw (l, m) (by_cases (exceeds y b)
    (λ t. rw (
      t,
      exceeds_raised y (record { axis = x.axis; epoch = max x.epoch y.epoch }) b t
          (sym (eqb-true x.axis y.axis m)) (omega arith),
    ) (omega arith))
    (λ t. rw t (omega arith))))
    (λ m. rw (l, m) (omega (arith, exceeding_put b x ys))))

exceeding_union : (b : Entry) (xs ys : List Entry) → exceeding b ys ≤ exceeding b (union xs ys)
unfolding union
exceeding_union b [] ys = le_refl (exceeding b ys)
exceeding_union b (x ∷ xs) ys = omega (arith, exceeding_union b xs ys, exceeding_put b x (union xs ys))

-- WHAT IS ABOVE A BOUND
abbrev Over : Entry → Entry → Bool
Over b x = exceeds x b

above_count : (b : Entry) (xs : List Entry) → exceeding b (filter (Over b) xs) ≡ exceeding b xs
unfolding filter exceeding
above_count b [] = refl
above_count b (x ∷ xs) =
    by_cases (exceeds x b) (λ t. rw (t, t, above_count b xs)) (λ t. rw t (above_count b xs ∙ omega arith))

above_kept : (x b : Entry) (xs : List Entry) → exceeds x b ≡ true → exceeding x (filter (Over b) xs) ≡ exceeding x xs
unfolding filter exceeding
above_kept x b [] e = refl
above_kept x b (y ∷ ys) e =
    by_cases (exceeds y b) (λ t. rw (t, above_kept x b ys e))
    (λ t. rw (t, is_false (exceeds y x) (λ u. clash (exceeds y b) (exceeds_chain y x b u e) t))
    (above_kept x b ys e ∙ omega arith))

keep_keep : (p q r : Entry → Bool) (xs : List Entry) → ((x : Entry) → In x xs → q x ≡ true → p x ≡ r x) →
    ((x : Entry) → In x xs → q x ≡ false → p x ≡ false) → filter p xs ≡ filter r (filter q xs)
unfolding filter
keep_keep p q r [] h k = refl
keep_keep p q r (x ∷ xs) h k =
    by_cases (q x)
    (λ t. by_cases (r x)
    (λ u. rw (t, h x (inl refl) t, u, keep_keep p q r xs (λ y i. h y (inr i)) (λ y i. k y (inr i))))
    (λ u. rw (t, h x (inl refl) t, u) (keep_keep p q r xs (λ y i. h y (inr i)) (λ y i. k y (inr i)))))
    (λ t. rw (t, k x (inl refl) t) (keep_keep p q r xs (λ y i. h y (inr i)) (λ y i. k y (inr i))))

-- where the capacity is filled above a bound, nothing else is kept
cut_above : (c : ℕ) (b : Entry) (xs : List Entry) → c ≤ exceeding b xs → cut c xs ≡ cut c (filter (Over b) xs)
unfolding cut
cut_above c b xs h =
    keep_keep (λ x. ltb (exceeding x xs) c) (Over b) (λ x. ltb (exceeding x (filter (Over b) xs)) c) xs
    (λ x i t. ap (λ k. ltb k c) (sym (above_kept x b xs t)))
    (λ x i t. le-ltb (exceeding x xs) c (omega (
      arith,
      exceeding_mono b x xs (λ y j u. is_true (exceeds y x) (λ v. clash (exceeds x b) (exceeds_past y x b u v) t)),
    )))

-- THE EPOCHS ABOVE A BOUND
epoch_if : (f : Entry → Bool) (a : ℕ) (l : Option ℕ) →
    epoch_of (listed_if f a l) ≡ cond (f (record { axis = a; epoch = epoch_of l })) (epoch_of l) 0
unfolding epoch_of listed_if
epoch_if f a (Some e) = by_cases (f (record { axis = a; epoch = e })) (λ t. rw t) (λ t. rw t)
epoch_if f a None = by_cases (f (record { axis = a; epoch = 0 })) (λ t. rw t) (λ t. rw t)

epoch_kept : (f : Entry → Bool) (xs : List Entry) → Sorted 0 xs → (a : ℕ) →
    epoch_at (filter f xs) a ≡ cond (f (record { axis = a; epoch = epoch_at xs a })) (epoch_at xs a) 0
unfolding epoch_at
epoch_kept f xs s a = ap epoch_of (find_keep f 0 a xs s) ∙ epoch_if f a (find a xs)

-- of two epochs of one axis, the larger above a bound is not changed by dropping the first where it is not above
larger_above : (b : Entry) (a x y : ℕ) →
    cond (exceeds (record { axis = a; epoch = max x y }) b) (max x y) 0 ≡
    cond (exceeds (record { axis = a; epoch = max (cond (exceeds (record { axis = a; epoch = x }) b) x 0) y }) b)
    (max (cond (exceeds (record { axis = a; epoch = x }) b) x 0) y) 0
larger_above b a x y =
    by_cases (exceeds (record { axis = a; epoch = x }) b) (λ t. rw t)
    (λ t. rw t (step t))
  where
    step : exceeds (record { axis = a; epoch = x }) b ≡ false →
        cond (exceeds (record { axis = a; epoch = max x y }) b) (max x y) 0 ≡
        cond (exceeds (record { axis = a; epoch = max 0 y }) b) (max 0 y) 0
    step t =
        let z : max 0 y ≡ y = omega arith in
        by_cases (leb y x)
        (λ l. let m : max x y ≡ x = omega (arith, leb-true y x l) in
        rw (
          m,
          z,
          t,
          is_false (exceeds (record { axis = a; epoch = y }) b)
              (λ u. clash (exceeds (record { axis = a; epoch = x }) b) (exceeds_raised (record { axis = a; epoch = y })
              (record { axis = a; epoch = x }) b u refl (leb-true y x l)) t),
        ))
        (λ l. let m : max x y ≡ y = omega (arith, leb-false y x l) in rw (m, z))

above_union : (b : Entry) (xs ys : List Entry) → Sorted 0 xs → Sorted 0 ys →
    filter (Over b) (union xs ys) ≡ filter (Over b) (union (filter (Over b) xs) ys)
above_union b xs ys s t =
    let k : Sorted 0 (filter (Over b) xs) = sorted_keep (Over b) 0 xs s in
    same_entries 0 (filter (Over b) (union xs ys)) (filter (Over b) (union (filter (Over b) xs) ys))
    (sorted_keep (Over b) 0 (union xs ys) (sorted_union 0 xs ys s t))
    (sorted_keep (Over b) 0 (union (filter (Over b) xs) ys) (sorted_union 0 (filter (Over b) xs) ys k t))
    (λ a. epoch_kept (Over b) (union xs ys) (sorted_union 0 xs ys s t) a
    ∙ rw (epoch_union 0 xs ys s t a) (larger_above b a (epoch_at xs a) (epoch_at ys a)
    ∙ sym (epoch_kept (Over b) (union (filter (Over b) xs) ys) (sorted_union 0 (filter (Over b) xs) ys k t) a
    ∙ rw (epoch_union 0 (filter (Over b) xs) ys k t a, epoch_kept (Over b) xs s a) refl)))

-- A BOUND FOR EACH CAPACITY
top : (xs : List Entry) → (t : Entry) × ((y : Entry) → In y xs → (y.axis ≤ t.axis) × (y.epoch ≤ t.epoch))
top [] = (record { axis = 0; epoch = 0 }, λ y i. absurd i)
top (x ∷ xs) =
    let w = top xs in (
      record { axis = max x.axis w.0.axis; epoch = max x.epoch w.0.epoch },
      λ y i. either i (λ e. rw e (omega arith, omega arith)) (λ j. let h = w.1 y j in (omega arith, omega arith)),
    )

bounds : (xs : List Entry) → Sorted 0 xs → (d : ℕ) → d ≤ length xs → (b : Entry) × (exceeding b xs + d ≡ length xs)
bounds xs s zero h = (record { axis = 0; epoch = 0 }, omega (arith, bound_start 0 xs s))
bounds xs s (suc d) h =
    let w = bounds xs s d (omega arith) in
    let t = top xs in
    let e = next_bound w.0 t.0 0 xs s
    (λ y i. let k = t.1 y i in exceeds_not_top y t.0 k.0 k.1) (omega (arith, w.1)) in
    (least_above w.0 t.0 xs, omega (arith, w.1, e))

-- exactly the capacity remain, where there are as many
keep_length : (b : Entry) (xs : List Entry) → length (filter (Over b) xs) ≡ exceeding b xs
unfolding filter exceeding
keep_length b [] = refl
keep_length b (x ∷ xs) =
    by_cases (exceeds x b) (λ t. rw t (omega (arith, keep_length b xs))) (λ t. rw t (omega (arith, keep_length b xs)))

pub cut_fills : (c : ℕ) (xs : List Entry) → Sorted 0 xs → length (cut c xs) ≡ min c (length xs)
cut_fills c xs s =
    by_cases (ltb c (length xs))
    (λ l. let h = ltb-true c (length xs) l in
    let w = bounds xs s (length xs - c) (omega arith) in
    let e : exceeding w.0 xs ≡ c = omega (arith, w.1) in
    ap length (cut_by_bound w.0 c xs e) ∙ keep_length w.0 xs ∙ e ∙ omega arith)
    (λ l. ap length (cut_whole c xs (ltb-false c (length xs) l)) ∙ omega (arith, ltb-false c (length xs) l))

-- THE LAW
pub cut_first : (c : ℕ) (xs ys : List Entry) → Sorted 0 xs → Sorted 0 ys →
    cut c (union (cut c xs) ys) ≡ cut c (union xs ys)
cut_first c xs ys s t =
    by_cases (ltb c (length xs))
    (λ l. let h = ltb-true c (length xs) l in
    let w = bounds xs s (length xs - c) (omega arith) in
    let b = w.0 in
    let e : exceeding b xs ≡ c = omega (arith, w.1) in
    let k : Sorted 0 (filter (Over b) xs) = sorted_keep (Over b) 0 xs s in
    ap (λ zs. cut c (union zs ys)) (cut_by_bound b c xs e)
    ∙ cut_above c b (union (filter (Over b) xs) ys) (filled b (filter (Over b) xs) k (above_count b xs ∙ e))
    ∙ ap (cut c) (sym (above_union b xs ys s t))
    ∙ sym (cut_above c b (union xs ys) (filled b xs s e)))
    (λ l. ap (λ zs. cut c (union zs ys)) (cut_whole c xs (ltb-false c (length xs) l)))
  where
    filled : (b : Entry) (zs : List Entry) → Sorted 0 zs → exceeding b zs ≡ c → c ≤ exceeding b (union zs ys)
    filled b zs u e = omega (arith, exceeding_union b ys zs, ap (exceeding b) (union_commutes 0 ys zs t u))

-- the same of what is cut: more than the capacity holds, at one cut or the other
pub told_first : (c : ℕ) (xs ys : List Entry) → Sorted 0 xs → Sorted 0 ys →
    (ltb c (length xs) || ltb c (length (union (cut c xs) ys))) ≡ ltb c (length (union xs ys))
told_first c xs ys s t =
    by_cases (ltb c (length xs))
    (λ l. rw l
    (sym (lt-ltb c (length (union xs ys))
    (omega (arith, ltb-true c (length xs) l, union_longer ys xs, ap length (union_commutes 0 ys xs t s))))))
    (λ l. rw (l, cut_whole c xs (ltb-false c (length xs) l)))
