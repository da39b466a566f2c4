-- Every number below a bound, every element of a list, the lowest and the highest that pass a test. Assumes nothing.
use mathlib.Core.Path.{◌≡◌, refl, sym, ap, ◌∙◌, subst}
use mathlib.Core.Bool.{Bool, true, false, true≢false}
use mathlib.Core.List.Memᴰ
use mathlib.Core.List.{List, [], ◌∷◌, Memᴰ}
use mathlib.Core.Option.{Option, none, some, or_else}
use Prim.Native.Nat.{ℕ, zero, suc, ◌+◌, ◌≤◌, ◌<◌, zero-le}
use native.Mathlib.Nat.{not-suc-le-zero, le_refl}
use native.Mathlib.Omega.{arith}
use lib.Dec.{ltb, eqb}
use borrow.Author.Tests.{ltb-true, ltb-false, eqb-true, eqb-false}
use Rattle.base_lists.specs.Lists.{all, all_below, first_from, when_true, lowest_below, highest_below, is_some}
use Rattle.base_lists.proofs.Tests.{by_cases, by_option, clash, is_false, and_left, and_right, and_both, either}

-- ---- all below a bound
pub all_below_gives : (n : ℕ) (f : ℕ → Bool) → all_below n f ≡ true → (i : ℕ) → i < n → f i ≡ true
unfolding all_below
all_below_gives zero f h i l = absurd (not-suc-le-zero l)
all_below_gives (suc n) f h i l =
    by_cases (eqb i n) (λ t. ap f (eqb-true i n t) ∙ and_left (f n) (all_below n f) h)
    (λ e. all_below_gives n f (and_right (f n) (all_below n f) h) i (omega (arith, eqb-false i n e)))

pub all_below_by : (n : ℕ) (f : ℕ → Bool) → ((i : ℕ) → i < n → f i ≡ true) → all_below n f ≡ true
unfolding all_below
all_below_by zero f h = refl
all_below_by (suc n) f h =
    and_both (f n) (all_below n f) (h n (le_refl (suc n))) (all_below_by n f (λ i l. h i (omega arith)))

-- ---- all of a list
module _ {A : Type 0} (f : A → Bool) where
  pub all_gives : (xs : List A) → all f xs ≡ true → (x : A) → Memᴰ x xs → f x ≡ true
  unfolding all
  all_gives [] h x m = absurd (Memᴰ.not-nil m)
  all_gives (y ∷ ys) h x m =
      either (Memᴰ.cases_cons m) (λ e. ap f e ∙ and_left (f y) (all f ys) h)
      (λ t. all_gives ys (and_right (f y) (all f ys) h) x t)

  pub all_by : (xs : List A) → ((x : A) → Memᴰ x xs → f x ≡ true) → all f xs ≡ true
  unfolding all
  all_by [] h = refl
  all_by (y ∷ ys) h = and_both (f y) (all f ys) (h y (Memᴰ.head refl)) (all_by ys (λ x m. h x (Memᴰ.tail m)))

  -- one that fails
  pub all_fails : (xs : List A) → all f xs ≡ false → (x : A) × Memᴰ x xs × (f x ≡ false)
  unfolding all
  all_fails [] h = absurd (true≢false h)
  all_fails (y ∷ ys) h =
      by_cases (f y)
      (λ t. let w = all_fails ys (rw t at h) in (w.0, Memᴰ.tail w.1, w.2))
      (λ e. (y, Memᴰ.head refl, e))

  pub all_no : (xs : List A) (x : A) → Memᴰ x xs → f x ≡ false → all f xs ≡ false
  all_no xs x m e = is_false (all f xs) (λ t. clash (f x) (all_gives xs t x m) e)

-- ---- the first answer from a start
module _ {A : Type 0} (f : ℕ → Option A) where
  pub first_some : (left i : ℕ) (a : A) → first_from left i f ≡ some a →
      (k : ℕ) × (i ≤ k) × (k < left + i) × (f k ≡ some a) × ((m : ℕ) → i ≤ m → m < k → ◌≡◌ {A = Option A} (f m) none)
  unfolding first_from or_else
  first_some zero i a e = absurd (let z : ◌≡◌ {A = ℕ} 0 1 = cc in omega arith)
  first_some (suc left) i a e =
      by_option (f i)
      (λ n. let w = first_some left (suc i) a (rw n at e) in (
        w.0,
        omega (arith, w.1),
        omega (arith, w.2),
        w.3,
        λ m l u. by_cases (eqb i m) (λ t. subst (λ (z : ℕ). ◌≡◌ {A = Option A} (f z) none) (eqb-true i m t) n)
            (λ t. w.4 m (omega (arith, eqb-false i m t)) u),
      ))
      (λ b g. let same : some b ≡ some a = rw g at e in
      (i, le_refl i, omega arith, g ∙ same, λ m l u. absurd (omega arith)))

  pub first_none : (left i : ℕ) → ◌≡◌ {A = Option A} (first_from left i f) none → (m : ℕ) → i ≤ m → m < left + i →
      ◌≡◌ {A = Option A} (f m) none
  unfolding first_from or_else
  first_none zero i e m l u = absurd (omega arith)
  first_none (suc left) i e m l u =
      by_option (f i)
      (λ n. by_cases (eqb i m) (λ t. subst (λ (z : ℕ). ◌≡◌ {A = Option A} (f z) none) (eqb-true i m t) n)
      (λ t. first_none left (suc i) (rw n at e) m (omega (arith, eqb-false i m t)) (omega arith)))
      (λ b g. absurd (let same : some b ≡ none = rw g at e in let z : ◌≡◌ {A = ℕ} 0 1 = cc in omega arith))

  -- what is found is the first
  pub first_is : (left i k : ℕ) (a : A) → i ≤ k → k < left + i → f k ≡ some a →
      ((m : ℕ) → i ≤ m → m < k → ◌≡◌ {A = Option A} (f m) none) → first_from left i f ≡ some a
  unfolding first_from or_else
  first_is zero i k a l u g h = absurd (omega arith)
  first_is (suc left) i k a l u g h =
      by_cases (eqb i k)
      (λ t. let e : f i ≡ some a = ap f (eqb-true i k t) ∙ g in rw e)
      (λ t. rw (h i (le_refl i) (omega (arith, eqb-false i k t)))
      (first_is left (suc i) k a (omega (arith, eqb-false i k t)) (omega arith) g (λ m p q. h m (omega arith) q)))

-- ---- the lowest below a bound
when_some : (b : Bool) (i a : ℕ) → when_true b i ≡ some a → (b ≡ true) × (i ≡ a)
unfolding when_true
when_some true i a e = (refl, cc)
when_some false i a e = absurd (let z : ◌≡◌ {A = ℕ} 0 1 = cc in omega arith)

when_none : (b : Bool) (i : ℕ) → ◌≡◌ {A = Option ℕ} (when_true b i) none → b ≡ false
unfolding when_true
when_none true i e = absurd (let z : ◌≡◌ {A = ℕ} 0 1 = cc in omega arith)
when_none false i e = refl

pub record Lowest (n : ℕ) (f : ℕ → Bool) (i : ℕ) : Type 0 where
  pub inside : i < n
  pub passes : f i ≡ true
  pub lower : (k : ℕ) → k < i → f k ≡ false

pub lowest_some : (n : ℕ) (f : ℕ → Bool) (i : ℕ) → lowest_below n f ≡ some i → Lowest n f i
lowest_some n f i e =
    let w = first_some (λ k. when_true (f k) k) n 0 i e in
    let t = when_some (f w.0) w.0 i w.3 in
    let b : w.0 < n = omega (arith, w.2) in
    record {
      inside = subst (λ (z : ℕ). z < n) t.1 b;
      passes = subst (λ (z : ℕ). f z ≡ true) t.1 t.0;
      lower = λ k l. when_none (f k) k (w.4 k zero-le (omega (arith, t.1)));
    }

pub lowest_none : (n : ℕ) (f : ℕ → Bool) → ◌≡◌ {A = Option ℕ} (lowest_below n f) none → (k : ℕ) → k < n → f k ≡ false
lowest_none n f e k l = when_none (f k) k (first_none (λ k. when_true (f k) k) n 0 e k zero-le (omega arith))

pub lowest_is : (n : ℕ) (f : ℕ → Bool) (i : ℕ) → Lowest n f i → lowest_below n f ≡ some i
lowest_is n f i w =
    first_is (λ k. when_true (f k) k) n 0 i i zero-le (omega (arith, w.inside)) (when_yes w.passes)
    (λ m l u. when_not m (w.lower m u))
  where
    when_yes : f i ≡ true → when_true (f i) i ≡ some i
    when_yes e = unfold when_true in (rw e)

    when_not : (m : ℕ) → f m ≡ false → ◌≡◌ {A = Option ℕ} (when_true (f m) m) none
    when_not m e = unfold when_true in (rw e)

-- two tests that agree below a lower bound, from which on nothing passes
pub lowest_cut : (m n : ℕ) (f g : ℕ → Bool) → m ≤ n → ((k : ℕ) → k < m → f k ≡ g k) →
    ((k : ℕ) → m ≤ k → k < n → f k ≡ false) → lowest_below n f ≡ lowest_below m g
lowest_cut m n f g l same past =
    by_option (lowest_below n f)
    (λ e. e ∙ sym (by_option (lowest_below m g) (λ z. z) (λ i s. let w = lowest_some m g i s in
    clash (g i) w.passes (sym (same i w.inside) ∙ lowest_none n f e i (omega (arith, w.inside))))))
    (λ i e. let w = lowest_some n f i e in
    let low : i < m =
    by_cases (ltb i m) (λ t. ltb-true i m t) (λ h. clash (f i) w.passes (past i (ltb-false i m h) w.inside)) in
    e ∙ sym (lowest_is m g i (record {
      inside = low;
      passes = sym (same i low) ∙ w.passes;
      lower = λ k b. sym (same k (omega arith)) ∙ w.lower k b;
    })))

pub lowest_same : (n : ℕ) (f g : ℕ → Bool) → ((k : ℕ) → k < n → f k ≡ g k) → lowest_below n f ≡ lowest_below n g
lowest_same n f g same = lowest_cut n n f g (le_refl n) same (λ k a b. absurd (omega arith))

-- ---- the highest below a bound
pub record Highest (n : ℕ) (f : ℕ → Bool) (i : ℕ) : Type 0 where
  pub inside : i < n
  pub passes : f i ≡ true
  pub higher : (k : ℕ) → i < k → k < n → f k ≡ false

pub highest_some : (n : ℕ) (f : ℕ → Bool) (i : ℕ) → highest_below n f ≡ some i → Highest n f i
unfolding highest_below
highest_some zero f i e = absurd (let z : ◌≡◌ {A = ℕ} 0 1 = cc in omega arith)
highest_some (suc n) f i e =
    by_cases (f n)
    (λ t. let same : some n ≡ some i = rw t at e in let q : n ≡ i = cc in
    record { inside = omega arith; passes = subst (λ (z : ℕ). f z ≡ true) q t; higher = λ k l u. absurd (omega arith) })
    (λ t. let w = highest_some n f i (rw t at e) in
    record {
      inside = omega (arith, w.inside);
      passes = w.passes;
      higher = λ k l u. by_cases (eqb k n) (λ q. ap f (eqb-true k n q) ∙ t)
          (λ q. w.higher k l (omega (arith, eqb-false k n q)));
    })

pub highest_none : (n : ℕ) (f : ℕ → Bool) → ◌≡◌ {A = Option ℕ} (highest_below n f) none → (k : ℕ) → k < n → f k ≡ false
unfolding highest_below
highest_none zero f e k l = absurd (not-suc-le-zero l)
highest_none (suc n) f e k l =
    by_cases (f n) (λ t. absurd (let same : some n ≡ none = rw t at e in let z : ◌≡◌ {A = ℕ} 0 1 = cc in omega arith))
    (λ t. by_cases (eqb k n) (λ q. ap f (eqb-true k n q) ∙ t)
    (λ q. highest_none n f (rw t at e) k (omega (arith, eqb-false k n q))))

pub highest_same : (n : ℕ) (f g : ℕ → Bool) → ((i : ℕ) → i < n → f i ≡ g i) → highest_below n f ≡ highest_below n g
unfolding highest_below
highest_same zero f g h = refl
highest_same (suc n) f g h = rw (h n (omega arith), highest_same n f g (λ i l. h i (omega arith)))

-- ---- some or none
pub some_is {ℓ} : {A : Type ℓ} (o : Option A) (a : A) → o ≡ some a → is_some o ≡ true
unfolding is_some
some_is none a e = absurd (let z : ◌≡◌ {A = ℕ} 0 1 = cc in omega arith)
some_is (some b) a e = refl

pub none_is {ℓ} : {A : Type ℓ} (o : Option A) → ◌≡◌ {A = Option A} o none → is_some o ≡ false
unfolding is_some
none_is none e = refl
none_is (some b) e = absurd (let z : ◌≡◌ {A = ℕ} 0 1 = cc in omega arith)
