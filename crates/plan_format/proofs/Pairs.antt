-- Points and marks are pairs of numbers: how many there are, each by its position, and that nothing after them
-- matters. Assumes nothing.
use mathlib.Core.Path.{◌≡◌, refl, sym, ap, ap₂, ◌∙◌}
use mathlib.Core.List.{List, [], ◌∷◌, ◌++◌}
use Prim.Native.Nat.{ℕ, zero, suc, ◌+◌, ◌*◌, ◌<◌}
use native.Mathlib.Nat.{not-suc-le-zero, le_of_suc-le-suc}
use native.Mathlib.Omega.{arith}
use lib.ListN.{length, get_or, drop}
use lib.Seq.{get_or-drop}
use Rattle.plan_format.specs.Plan.{Point, Mark, points_in, marks_in}

pairs_in : {A : Type 0} → (ℕ → ℕ → A) → (k : ℕ) → List ℕ → List A
pairs_in f zero xs = []
pairs_in f (suc k) xs = f (get_or xs 0 0) (get_or xs 1 0) ∷ pairs_in f k (drop 2 xs)

pairs_long : {A : Type 0} (f : ℕ → ℕ → A) (k : ℕ) (xs : List ℕ) → length (pairs_in f k xs) ≡ k
unfolding pairs_in
pairs_long f zero xs = refl
pairs_long f (suc k) xs = ap suc (pairs_long f k (drop 2 xs))

pairs_at : {A : Type 0} (f : ℕ → ℕ → A) (d : A) (k : ℕ) (xs : List ℕ) (i : ℕ) → i < k →
    get_or (pairs_in f k xs) i d ≡ f (get_or xs (2 * i) 0) (get_or xs (2 * i + 1) 0)
unfolding pairs_in
pairs_at f d zero xs i l = absurd (not-suc-le-zero l)
pairs_at f d (suc k) xs zero l = refl
pairs_at f d (suc k) xs (suc i) l =
    pairs_at f d k (drop 2 xs) i (le_of_suc-le-suc l)
    ∙ ap₂ f (get_or-drop 2 xs (2 * i) 0 ∙ ap (λ n. get_or xs n 0) (omega arith))
    (get_or-drop 2 xs (2 * i + 1) 0 ∙ ap (λ n. get_or xs n 0) (omega arith))

pairs_front : {A : Type 0} (f : ℕ → ℕ → A) (k : ℕ) (xs ys : List ℕ) → length xs ≡ 2 * k →
    pairs_in f k (xs ++ ys) ≡ pairs_in f k xs
unfolding pairs_in
pairs_front f zero xs ys l = refl
pairs_front f (suc k) [] ys l = absurd (omega arith)
pairs_front f (suc k) (x ∷ []) ys l = absurd (omega arith)
pairs_front f (suc k) (x ∷ y ∷ xs) ys l = ap (λ z. f x y ∷ z) (pairs_front f k xs ys (omega arith))

a_point : (semaphore value : ℕ) → Point
a_point s v = record { semaphore = s; value = v }

a_mark : (buffer kind : ℕ) → Mark
a_mark b k = record { buffer = b; kind = k }

points_pairs : (k : ℕ) (xs : List ℕ) → points_in k xs ≡ pairs_in a_point k xs
unfolding points_in pairs_in a_point
points_pairs zero xs = refl
points_pairs (suc k) xs =
    ap (λ z. record { semaphore = get_or xs 0 0; value = get_or xs 1 0 } ∷ z) (points_pairs k (drop 2 xs))

marks_pairs : (k : ℕ) (xs : List ℕ) → marks_in k xs ≡ pairs_in a_mark k xs
unfolding marks_in pairs_in a_mark
marks_pairs zero xs = refl
marks_pairs (suc k) xs = ap (λ z. record { buffer = get_or xs 0 0; kind = get_or xs 1 0 } ∷ z)
    (marks_pairs k (drop 2 xs))

pub points_long : (k : ℕ) (xs : List ℕ) → length (points_in k xs) ≡ k
points_long k xs = ap length (points_pairs k xs) ∙ pairs_long a_point k xs

pub marks_long : (k : ℕ) (xs : List ℕ) → length (marks_in k xs) ≡ k
marks_long k xs = ap length (marks_pairs k xs) ∙ pairs_long a_mark k xs

pub points_at : (d : Point) (k : ℕ) (xs : List ℕ) (i : ℕ) → i < k →
    get_or (points_in k xs) i d ≡ record { semaphore = get_or xs (2 * i) 0; value = get_or xs (2 * i + 1) 0 }
unfolding a_point
points_at d k xs i l = ap (λ z. get_or z i d) (points_pairs k xs) ∙ pairs_at a_point d k xs i l

pub marks_at : (d : Mark) (k : ℕ) (xs : List ℕ) (i : ℕ) → i < k →
    get_or (marks_in k xs) i d ≡ record { buffer = get_or xs (2 * i) 0; kind = get_or xs (2 * i + 1) 0 }
unfolding a_mark
marks_at d k xs i l = ap (λ z. get_or z i d) (marks_pairs k xs) ∙ pairs_at a_mark d k xs i l

pub points_front : (k : ℕ) (xs ys : List ℕ) → length xs ≡ 2 * k → points_in k (xs ++ ys) ≡ points_in k xs
points_front k xs ys l = points_pairs k (xs ++ ys) ∙ pairs_front a_point k xs ys l ∙ sym (points_pairs k xs)

pub marks_front : (k : ℕ) (xs ys : List ℕ) → length xs ≡ 2 * k → marks_in k (xs ++ ys) ≡ marks_in k xs
marks_front k xs ys l = marks_pairs k (xs ++ ys) ∙ pairs_front a_mark k xs ys l ∙ sym (marks_pairs k xs)
