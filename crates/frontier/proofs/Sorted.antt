-- Lists of entries with rising axes and epochs above 0: they are equal where they give each axis the same epoch, and
-- union takes the larger epoch, so it is commutative, associative and idempotent. Assumes nothing.
use mathlib.Core.Path.{◌≡◌, refl, sym, ap, ap₂, ◌∙◌}
use mathlib.Core.Bool.{true}
use mathlib.Core.List.{List, [], ◌∷◌}
use Prim.Native.Nat.{ℕ, suc, ◌≤◌, ◌<◌, max}
use native.Mathlib.Nat.{le_refl}
use native.Mathlib.Omega.{arith}
use lib.Dec.{ltb, leb, eqb}
use lib.ListN.{length}
use borrow.Author.Tests.{ltb-true, ltb-false, leb-true, eqb-true, eqb-false, lt-ltb, le-ltb, le-leb, eq-eqb, ne_eqb}
use Rattle.base_lists.proofs.Tests.{by_cases, and_left, and_right, and_both}
use Rattle.frontier_slots.specs.declared.Entry.{Entry}
use Rattle.frontier_slots.specs.Entries.{rising_from, find, put, union}
use Rattle.frontier.specs.Meaning.{epoch_of, epoch_at}

-- `rising_from` as a type
abbrev pub Sorted : ℕ → List Entry → Type 0
Sorted b [] = Unit {0}
Sorted b (x ∷ xs) = (b ≤ x.axis) × (0 < x.epoch) × Sorted (suc x.axis) xs

pub sorted : (b : ℕ) (xs : List Entry) → rising_from b xs ≡ true → Sorted b xs
unfolding rising_from
sorted b [] e = tt
sorted b (x ∷ xs) e =
    let more = and_right (leb b x.axis) _ e in (
      leb-true b x.axis (and_left (leb b x.axis) _ e),
      ltb-true 0 x.epoch (and_left (ltb 0 x.epoch) _ more),
      sorted (suc x.axis) xs (and_right (ltb 0 x.epoch) _ more),
    )

pub rising : (b : ℕ) (xs : List Entry) → Sorted b xs → rising_from b xs ≡ true
unfolding rising_from
rising b [] s = refl
rising b (x ∷ xs) s =
    and_both (leb b x.axis) _ (le-leb b x.axis s.0)
    (and_both (ltb 0 x.epoch) _ (lt-ltb 0 x.epoch s.1) (rising (suc x.axis) xs s.2))

pub lower : (b c : ℕ) (xs : List Entry) → c ≤ b → Sorted b xs → Sorted c xs
lower b c [] h s = tt
lower b c (x ∷ xs) h s = (omega arith, s.1, s.2)

pub same_entry : {x y : Entry} → x.axis ≡ y.axis → x.epoch ≡ y.epoch → x ≡ y
same_entry p q = λ i. record { axis = p i; epoch = q i }

-- THE EPOCH OF AN AXIS
pub epoch_here : (x : Entry) (xs : List Entry) (a : ℕ) → x.axis ≡ a → epoch_at (x ∷ xs) a ≡ x.epoch
unfolding epoch_at epoch_of find
epoch_here x xs a e = rw (eq-eqb x.axis a e)

pub epoch_there : (x : Entry) (xs : List Entry) (a : ℕ) → (x.axis ≡ a → ⊥) → epoch_at (x ∷ xs) a ≡ epoch_at xs a
unfolding epoch_at epoch_of find
epoch_there x xs a e = rw (ne_eqb x.axis a e)

pub epoch_none : (a : ℕ) → epoch_at [] a ≡ 0
unfolding epoch_at epoch_of find
epoch_none a = refl

pub epoch_below : (b : ℕ) (xs : List Entry) (a : ℕ) → Sorted b xs → a < b → epoch_at xs a ≡ 0
epoch_below b [] a s h = epoch_none a
epoch_below b (x ∷ xs) a s h =
    epoch_there x xs a (λ q. omega arith) ∙ epoch_below (suc x.axis) xs a s.2 (omega arith)

-- equal lists: where each axis has the same epoch
pub same_entries : (b : ℕ) (xs ys : List Entry) → Sorted b xs → Sorted b ys →
    ((a : ℕ) → epoch_at xs a ≡ epoch_at ys a) → xs ≡ ys
same_entries b [] [] s t h = refl
same_entries b [] (y ∷ ys) s t h =
    absurd (omega (arith, h y.axis, epoch_none y.axis, epoch_here y ys y.axis refl))
same_entries b (x ∷ xs) [] s t h =
    absurd (omega (arith, h x.axis, epoch_none x.axis, epoch_here x xs x.axis refl))
same_entries b (x ∷ xs) (y ∷ ys) s t h =
    by_cases (ltb x.axis y.axis)
    (λ l. absurd (omega (
      arith,
      ltb-true x.axis y.axis l,
      h x.axis,
      epoch_here x xs x.axis refl,
      epoch_below y.axis (y ∷ ys) x.axis (le_refl y.axis, t.1, t.2) (ltb-true _ _ l),
    )))
    (λ l. by_cases (ltb y.axis x.axis)
    (λ m. absurd (omega (
      arith,
      ltb-true y.axis x.axis m,
      h y.axis,
      epoch_here y ys y.axis refl,
      epoch_below x.axis (x ∷ xs) y.axis (le_refl x.axis, s.1, s.2) (ltb-true _ _ m),
    )))
    (λ m. let e : x.axis ≡ y.axis = omega (arith, ltb-false x.axis y.axis l, ltb-false y.axis x.axis m) in
    ap₂ {C = List Entry} (λ (z : Entry) (zs : List Entry). z ∷ zs)
    (same_entry e (sym (epoch_here x xs x.axis refl) ∙ h x.axis ∙ epoch_here y ys x.axis (sym e)))
    (same_entries (suc x.axis) xs ys s.2 (lower (suc y.axis) (suc x.axis) ys (omega arith) t.2) (λ a.
    by_cases (leb a x.axis)
    (λ u. let v = leb-true a x.axis u in
    epoch_below (suc x.axis) xs a s.2 (omega arith) ∙ sym (epoch_below (suc y.axis) ys a t.2 (omega arith)))
    (λ u. let v = borrow.Author.Tests.leb-false a x.axis u in
    sym (epoch_there x xs a (λ q. omega arith)) ∙ h a ∙ epoch_there y ys a (λ q. omega arith))))))

-- ONE ENTRY PUT IN
pub put_front : (x : Entry) (ys : List Entry) → Sorted (suc x.axis) ys → put x ys ≡ x ∷ ys
unfolding put
put_front x [] s = refl
put_front x (y ∷ ys) s = rw (lt-ltb x.axis y.axis s.0)

pub put_same : (x y : Entry) (ys : List Entry) → x.axis ≡ y.axis →
    put x (y ∷ ys) ≡ record { axis = x.axis; epoch = max x.epoch y.epoch } ∷ ys
unfolding put
put_same x y ys e = rw (le-ltb x.axis y.axis (omega arith), eq-eqb x.axis y.axis e)

pub put_past : (x y : Entry) (ys : List Entry) → y.axis < x.axis → put x (y ∷ ys) ≡ y ∷ put x ys
unfolding put
put_past x y ys l = rw (le-ltb x.axis y.axis (omega arith), ne_eqb x.axis y.axis (λ q. omega arith))

-- the three places where an entry goes
pub put_cases : {A : Type 0} (x y : Entry) → (x.axis < y.axis → A) → (x.axis ≡ y.axis → A) →
    (y.axis < x.axis → A) → A
put_cases x y f g h =
    by_cases (ltb x.axis y.axis) (λ l. f (ltb-true _ _ l)) (λ l.
    by_cases (eqb x.axis y.axis) (λ m. g (eqb-true _ _ m))
    (λ m. h (omega (arith, ltb-false x.axis y.axis l, eqb-false x.axis y.axis m))))

pub sorted_put : (b : ℕ) (x : Entry) (ys : List Entry) → b ≤ x.axis → 0 < x.epoch → Sorted b ys → Sorted b (put x ys)
unfolding put
sorted_put b x [] h p s = (h, p, tt)
sorted_put b x (y ∷ ys) h p s =
    put_cases x y
    (λ l. rw (put_front x (y ∷ ys) (l, s.1, s.2)) (h, p, (l, s.1, s.2)))
    (λ e. rw (put_same x y ys e) (h, omega arith, rw e s.2))
    (λ l. rw (put_past x y ys l) (s.0, s.1, sorted_put (suc y.axis) x ys l p s.2))

pub epoch_put : (b : ℕ) (x : Entry) (ys : List Entry) → Sorted b ys →
    epoch_at (put x ys) x.axis ≡ max x.epoch (epoch_at ys x.axis)
unfolding put
epoch_put b x [] s = epoch_here x [] x.axis refl ∙ omega (arith, epoch_none x.axis)
epoch_put b x (y ∷ ys) s =
    put_cases x y
    (λ l. rw (put_front x (y ∷ ys) (l, s.1, s.2))
    (epoch_here x (y ∷ ys) x.axis refl
    ∙ omega (arith, epoch_below y.axis (y ∷ ys) x.axis (le_refl y.axis, s.1, s.2) l)))
    (λ e. rw (put_same x y ys e)
    (epoch_here (record { axis = x.axis; epoch = max x.epoch y.epoch }) ys x.axis refl
    ∙ ap (max x.epoch) (sym (epoch_here y ys x.axis (sym e)))))
    (λ l. rw (put_past x y ys l)
    (epoch_there y (put x ys) x.axis (λ q. omega arith) ∙ epoch_put (suc y.axis) x ys s.2
    ∙ ap (max x.epoch) (sym (epoch_there y ys x.axis (λ q. omega arith)))))

pub epoch_put_other : (x : Entry) (ys : List Entry) (a : ℕ) → (x.axis ≡ a → ⊥) → epoch_at (put x ys) a ≡ epoch_at ys a
unfolding put
epoch_put_other x [] a n = epoch_there x [] a n
epoch_put_other x (y ∷ ys) a n =
    by_cases (ltb x.axis y.axis) (λ l. rw l (epoch_there x (y ∷ ys) a n))
    (λ l. by_cases (eqb x.axis y.axis)
    (λ m. let e = eqb-true _ _ m in
    rw (l, m) (epoch_there (record { axis = x.axis; epoch = max x.epoch y.epoch }) ys a n
    ∙ sym (epoch_there y ys a (λ q. n (e ∙ q)))))
    (λ m. rw (l, m) (by_cases (eqb y.axis a)
    (λ q. epoch_here y (put x ys) a (eqb-true _ _ q) ∙ sym (epoch_here y ys a (eqb-true _ _ q)))
    (λ q. epoch_there y (put x ys) a (eqb-false _ _ q) ∙ epoch_put_other x ys a n
    ∙ sym (epoch_there y ys a (eqb-false _ _ q))))))

-- UNION
pub sorted_union : (b : ℕ) (xs ys : List Entry) → Sorted b xs → Sorted b ys → Sorted b (union xs ys)
unfolding union
sorted_union b [] ys s t = t
sorted_union b (x ∷ xs) ys s t =
    sorted_put b x (union xs ys) s.0 s.1
    (sorted_union b xs ys (lower (suc x.axis) b xs (omega arith) s.2) t)

-- R61: the larger epoch of each axis
pub epoch_union : (b : ℕ) (xs ys : List Entry) → Sorted b xs → Sorted b ys → (a : ℕ) →
    epoch_at (union xs ys) a ≡ max (epoch_at xs a) (epoch_at ys a)
unfolding union
epoch_union b [] ys s t a = omega (arith, epoch_none a)
epoch_union b (x ∷ xs) ys s t a =
    let s' : Sorted b xs = lower (suc x.axis) b xs (omega arith) s.2 in
    by_cases (eqb x.axis a)
    (λ q. let e = eqb-true x.axis a q in
    rw (← e) (epoch_put b x (union xs ys) (sorted_union b xs ys s' t)
    ∙ omega (
      arith,
      epoch_union b xs ys s' t x.axis,
      epoch_here x xs x.axis refl,
      epoch_below (suc x.axis) xs x.axis s.2 (le_refl (suc x.axis)),
    )))
    (λ q. let n = eqb-false _ _ q in
    epoch_put_other x (union xs ys) a n ∙ epoch_union b xs ys s' t a
    ∙ ap (λ k. max k (epoch_at ys a)) (sym (epoch_there x xs a n)))

pub union_commutes : (b : ℕ) (xs ys : List Entry) → Sorted b xs → Sorted b ys → union xs ys ≡ union ys xs
union_commutes b xs ys s t =
    same_entries b (union xs ys) (union ys xs) (sorted_union b xs ys s t) (sorted_union b ys xs t s)
    (λ a. omega (arith, epoch_union b xs ys s t a, epoch_union b ys xs t s a))

pub union_associates : (b : ℕ) (xs ys zs : List Entry) → Sorted b xs → Sorted b ys → Sorted b zs →
    union (union xs ys) zs ≡ union xs (union ys zs)
union_associates b xs ys zs s t u =
    same_entries b (union (union xs ys) zs) (union xs (union ys zs))
    (sorted_union b (union xs ys) zs (sorted_union b xs ys s t) u)
    (sorted_union b xs (union ys zs) s (sorted_union b ys zs t u))
    (λ a. omega (
      arith,
      epoch_union b (union xs ys) zs (sorted_union b xs ys s t) u a,
      epoch_union b xs (union ys zs) s (sorted_union b ys zs t u) a,
      epoch_union b xs ys s t a,
      epoch_union b ys zs t u a,
    ))

pub union_idempotent : (b : ℕ) (xs : List Entry) → Sorted b xs → union xs xs ≡ xs
union_idempotent b xs s =
    same_entries b (union xs xs) xs (sorted_union b xs xs s s) s (λ a. omega (arith, epoch_union b xs xs s s a))

pub union_none : (b : ℕ) (xs : List Entry) → Sorted b xs → union xs [] ≡ xs
union_none b xs s = union_commutes b xs [] s tt ∙ unfold union in refl

-- the first entry of a union: the smaller axis, or both with the larger epoch
pub union_left : (x : Entry) (xs ys : List Entry) → Sorted (suc x.axis) xs → Sorted (suc x.axis) ys →
    union (x ∷ xs) ys ≡ x ∷ union xs ys
unfolding union
union_left x xs ys s t = put_front x (union xs ys) (sorted_union (suc x.axis) xs ys s t)

union_right : (y : Entry) (xs ys : List Entry) → 0 < y.epoch → Sorted (suc y.axis) xs → Sorted (suc y.axis) ys →
    union xs (y ∷ ys) ≡ y ∷ union xs ys
union_right y xs ys p s t =
    union_commutes y.axis xs (y ∷ ys) (lower (suc y.axis) y.axis xs (omega arith) s) (le_refl y.axis, p, t)
    ∙ union_left y ys xs t s ∙ ap {B = List Entry} (λ zs. y ∷ zs) (union_commutes (suc y.axis) ys xs t s)

pub union_both : (x y : Entry) (xs ys : List Entry) → x.axis ≡ y.axis → 0 < y.epoch → Sorted (suc x.axis) xs →
    Sorted (suc x.axis) ys → union (x ∷ xs) (y ∷ ys) ≡
    record { axis = x.axis; epoch = max x.epoch y.epoch } ∷ union xs ys
unfolding union
union_both x y xs ys e p s t =
    ap (put x) (union_right y xs ys p (lower (suc x.axis) (suc y.axis) xs (omega arith) s)
    (lower (suc x.axis) (suc y.axis) ys (omega arith) t)) ∙ put_same x y (union xs ys) e

-- a union is at least as long as each side
put_longer : (x : Entry) (ys : List Entry) → length ys ≤ length (put x ys)
unfolding put
put_longer x [] = omega arith
put_longer x (y ∷ ys) =
    by_cases (ltb x.axis y.axis) (λ l. rw l (omega arith))
    (λ l. by_cases (eqb x.axis y.axis) (λ m. rw (l, m) (omega arith))
    (λ m. rw (l, m) (omega (arith, put_longer x ys))))

pub union_longer : (xs ys : List Entry) → length ys ≤ length (union xs ys)
unfolding union
union_longer [] ys = le_refl (length ys)
union_longer (x ∷ xs) ys = omega (arith, union_longer xs ys, put_longer x (union xs ys))
