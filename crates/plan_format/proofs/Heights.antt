-- The highest signal of a semaphore, by places; how a list begins from a place on. Assumes nothing.
use mathlib.Core.Path.{◌≡◌, refl, sym, ap, ◌∙◌}
use mathlib.Core.Bool.{cond}
use mathlib.Core.List.{List, [], ◌∷◌, ◌++◌}
use Prim.Native.Nat.{ℕ, zero, suc, ◌≤◌, ◌<◌, max}
use native.Mathlib.Nat.{not-suc-le-zero, le_of_suc-le-suc}
use native.Mathlib.Omega.{arith}
use lib.Dec.{eqb}
use lib.ListN.{length, get_or, take, drop}
use lib.Seq.{take-suc}
use borrow.Author.Tests.{eqb-true, eq-eqb}
use Rattle.base_lists.proofs.Tests.{by_cases}
use Rattle.plan_format.specs.Plan.{Point, Operation, empty_operation}
use Rattle.plan_format.specs.Sound.{highest_in, highest}

-- ---- a list from a place on
pub record Begins {A : Type 0} (d : A) (xs : List A) (k : ℕ) (y : A) (ys : List A) : Type 0 where
  pub inside : k < length xs
  pub here : get_or xs k d ≡ y
  pub on : drop (suc k) xs ≡ ys

pub begins : {A : Type 0} (d : A) (xs : List A) (k : ℕ) (y : A) (ys : List A) → drop k xs ≡ y ∷ ys → Begins d xs k y ys
begins d [] zero y ys e = absurd (let z : ◌≡◌ {A = ℕ} 0 1 = cc in omega arith)
begins d [] (suc k) y ys e = absurd (let z : ◌≡◌ {A = ℕ} 0 1 = cc in omega arith)
begins d (x ∷ xs) zero y ys e = record { inside = omega arith; here = cc; on = cc }
begins d (x ∷ xs) (suc k) y ys e =
    let w = begins d xs k y ys e in record { inside = omega (arith, w.inside); here = w.here; on = w.on }

pub ends : {A : Type 0} (xs : List A) (k : ℕ) → ◌≡◌ {A = List A} (drop k xs) [] → length xs ≤ k
ends [] k e = omega arith
ends (x ∷ xs) zero e = absurd (let z : ◌≡◌ {A = ℕ} 0 1 = cc in omega arith)
ends (x ∷ xs) (suc k) e = omega (arith, ends xs k e)

-- ---- above every value of a semaphore, and above 0
module _ (s v : ℕ) where
  abbrev pub Over : List Point → Type 0
  Over xs = (l : ℕ) → l < length xs → (get_or xs l (record { semaphore = 0; value = 0 })).semaphore ≡ s →
      (get_or xs l (record { semaphore = 0; value = 0 })).value < v

  abbrev pub OverAll : List Operation → Type 0
  OverAll os = (j : ℕ) → Over (get_or os j empty_operation).signals

  pub over_in : (xs : List Point) → 0 < v → Over xs → highest_in s xs < v
  unfolding highest_in
  over_in [] z h = z
  over_in (x ∷ xs) z h =
      let t = over_in xs z (λ l a. h (suc l) (omega arith)) in
      by_cases (eqb x.semaphore s) (λ q. rw q (omega (arith, h 0 (omega arith) (eqb-true x.semaphore s q))))
      (λ q. rw q (omega arith))

  pub in_over : (xs : List Point) → highest_in s xs < v → (0 < v) × Over xs
  unfolding highest_in
  in_over [] h = (h, λ l a. absurd (not-suc-le-zero a))
  in_over (x ∷ xs) h =
      let t = in_over xs (omega arith) in (t.0, λ l. at_place l t.1)
    where
      at_place : (l : ℕ) → Over xs → l < length (x ∷ xs) →
          (get_or (x ∷ xs) l (record { semaphore = 0; value = 0 })).semaphore ≡ s →
          (get_or (x ∷ xs) l (record { semaphore = 0; value = 0 })).value < v
      at_place zero o a e = let h' : max x.value (highest_in s xs) < v = rw (eq-eqb x.semaphore s e) at h in
          omega arith
      at_place (suc l) o a e = o l (le_of_suc-le-suc a) e

  pub over_highest : (os : List Operation) → 0 < v → OverAll os → highest s os < v
  unfolding highest
  over_highest [] z h = z
  over_highest (o ∷ os) z h = omega (arith, over_in o.signals z (h 0), over_highest os z (λ j. h (suc j)))

  pub highest_over : (os : List Operation) → highest s os < v → (0 < v) × OverAll os
  unfolding highest
  highest_over [] h = (h, λ j l a. absurd (not-suc-le-zero a))
  highest_over (o ∷ os) h =
      let t = highest_over os (omega arith) in (t.0, λ j. at_operation j t.1)
    where
      at_operation : (j : ℕ) → OverAll os → Over (get_or (o ∷ os) j empty_operation).signals
      at_operation zero r = (in_over o.signals (omega arith)).1
      at_operation (suc j) r = r j

  -- in the first so many
  pub over_taken : (xs : List Point) (k : ℕ) → Over (take k xs) → (l : ℕ) → l < k → l < length xs →
      (get_or xs l (record { semaphore = 0; value = 0 })).semaphore ≡ s →
      (get_or xs l (record { semaphore = 0; value = 0 })).value < v
  over_taken [] k o l a b = absurd (not-suc-le-zero b)
  over_taken (x ∷ xs) zero o l a b = absurd (not-suc-le-zero a)
  over_taken (x ∷ xs) (suc k) o zero a b = o 0 (omega arith)
  over_taken (x ∷ xs) (suc k) o (suc l) a b =
      over_taken xs k (λ m c. o (suc m) (omega arith)) l (le_of_suc-le-suc a) (le_of_suc-le-suc b)

  pub taken_over : (xs : List Point) (k : ℕ) → ((l : ℕ) → l < k → l < length xs →
      (get_or xs l (record { semaphore = 0; value = 0 })).semaphore ≡ s →
      (get_or xs l (record { semaphore = 0; value = 0 })).value < v) → Over (take k xs)
  taken_over [] zero h l a = absurd (not-suc-le-zero a)
  taken_over [] (suc k) h l a = absurd (not-suc-le-zero a)
  taken_over (x ∷ xs) zero h l a = absurd (not-suc-le-zero a)
  taken_over (x ∷ xs) (suc k) h zero a = h 0 (omega arith) (omega arith)
  taken_over (x ∷ xs) (suc k) h (suc l) a =
      taken_over xs k (λ m c d. h (suc m) (omega arith) (omega arith)) l (le_of_suc-le-suc a)

  pub all_taken : (os : List Operation) (i : ℕ) → OverAll (take i os) → (j : ℕ) → j < i →
      Over (get_or os j empty_operation).signals
  all_taken [] i o j a = λ l b. absurd (not-suc-le-zero b)
  all_taken (q ∷ os) zero o j a = absurd (not-suc-le-zero a)
  all_taken (q ∷ os) (suc i) o zero a = o 0
  all_taken (q ∷ os) (suc i) o (suc j) a = all_taken os i (λ m. o (suc m)) j (le_of_suc-le-suc a)

  pub taken_all : (os : List Operation) (i : ℕ) → ((j : ℕ) → j < i → Over (get_or os j empty_operation).signals) →
      OverAll (take i os)
  taken_all [] zero h j = λ l b. absurd (not-suc-le-zero b)
  taken_all [] (suc i) h j = λ l b. absurd (not-suc-le-zero b)
  taken_all (q ∷ os) zero h j = λ l b. absurd (not-suc-le-zero b)
  taken_all (q ∷ os) (suc i) h zero = h 0 (omega arith)
  taken_all (q ∷ os) (suc i) h (suc j) = taken_all os i (λ m a. h (suc m) (omega arith)) j

-- ---- one more
highest_snoc : (s : ℕ) (xs : List Point) (x : Point) → highest_in s (xs ++ (x ∷ [])) ≡ highest_in s (x ∷ xs)
unfolding highest_in
highest_snoc s [] x = refl
highest_snoc s (y ∷ ys) x = let t = highest_snoc s ys x in omega arith

pub highest_more : (s : ℕ) (xs own : List Point) (k : ℕ) (x : Point) → k < length xs →
    get_or xs k (record { semaphore = 0; value = 0 }) ≡ x →
    highest_in s own ≡ highest_in s (take k xs) → highest_in s (x ∷ own) ≡ highest_in s (take (suc k) xs)
unfolding highest_in
highest_more s xs own k x inside here e =
    ap (λ (n : ℕ). max (cond (eqb x.semaphore s) x.value 0) n) e ∙ sym (highest_snoc s (take k xs) x)
    ∙ ap (λ (y : Point). highest_in s (take k xs ++ (y ∷ []))) (sym here)
    ∙ ap (λ (ys : List Point). highest_in s ys) (sym (take-suc xs k (record { semaphore = 0; value = 0 }) inside))
