-- A relation between each element of a list and every later one: in joined lists, and by places. Assumes nothing.
use mathlib.Core.Path.{◌≡◌, refl, sym, ◌∙◌, subst}
use mathlib.Core.List.Memᴰ
use mathlib.Core.List.{List, [], ◌∷◌, ◌++◌, Memᴰ}
use Prim.Native.Nat.{ℕ, zero, suc, ◌<◌}
use native.Mathlib.Nat.{not-suc-le-zero, le_of_suc-le-suc}
use native.Mathlib.Omega.{arith}
use lib.ListN.{length, get_or}
use Rattle.base_lists.proofs.Tests.{either}
use Rattle.base_lists.proofs.Places.{mem_place, mem_at}

module _ {A : Type 0} (R : A → A → Type 0) (d : A) where
  abbrev pub Pairwise : List A → Type 0
  Pairwise xs = (k l : ℕ) → k < l → l < length xs → R (get_or xs k d) (get_or xs l d)

  pub pairwise_nil : Pairwise []
  pairwise_nil k l a b = absurd (not-suc-le-zero b)

  pub pairwise_cons : (x : A) (xs : List A) → ((y : A) → Memᴰ y xs → R x y) → Pairwise xs → Pairwise (x ∷ xs)
  pairwise_cons x xs h w k zero a b = absurd (not-suc-le-zero a)
  pairwise_cons x xs h w zero (suc l) a b = h (get_or xs l d) (mem_at xs d l (le_of_suc-le-suc b))
  pairwise_cons x xs h w (suc k) (suc l) a b = w k l (le_of_suc-le-suc a) (le_of_suc-le-suc b)

  pub pairwise_head : (x : A) (xs : List A) → Pairwise (x ∷ xs) → (y : A) → Memᴰ y xs → R x y
  pairwise_head x xs w y t = let g = mem_place xs d y t in
      subst (λ (z : A). R x z) g.2 (w 0 (suc g.0) (omega arith) (omega (arith, g.1)))

  pub pairwise_tail : (x : A) (xs : List A) → Pairwise (x ∷ xs) → Pairwise xs
  pairwise_tail x xs w k l a b = w (suc k) (suc l) (omega arith) (omega arith)

  pub pairwise_append : (xs ys : List A) → ((x y : A) → Memᴰ x xs → Memᴰ y ys → R x y) → Pairwise xs →
      Pairwise ys → Pairwise (xs ++ ys)
  pairwise_append [] ys h a b = b
  pairwise_append (x ∷ xs) ys h a b =
      pairwise_cons x (xs ++ ys)
      (λ y t. either (Memᴰ.append_cases xs t) (λ u. pairwise_head x xs a y u) (λ u. h x y (Memᴰ.head refl) u))
      (pairwise_append xs ys (λ z y t u. h z y (Memᴰ.tail t) u) (pairwise_tail x xs a) b)

  pub pairwise_right : (xs ys : List A) → Pairwise (xs ++ ys) → Pairwise ys
  pairwise_right [] ys w = w
  pairwise_right (x ∷ xs) ys w = pairwise_right xs ys (pairwise_tail x (xs ++ ys) w)

  pub pairwise_left : (xs ys : List A) → Pairwise (xs ++ ys) → Pairwise xs
  pairwise_left [] ys w = pairwise_nil
  pairwise_left (x ∷ xs) ys w =
      pairwise_cons x xs (λ y t. pairwise_head x (xs ++ ys) w y (Memᴰ.append_left ys t))
      (pairwise_left xs ys (pairwise_tail x (xs ++ ys) w))

  pub pairwise_cross : (xs ys : List A) → Pairwise (xs ++ ys) → (x y : A) → Memᴰ x xs → Memᴰ y ys → R x y
  pairwise_cross [] ys w x y t u = absurd (Memᴰ.not-nil t)
  pairwise_cross (z ∷ xs) ys w x y t u =
      either (Memᴰ.cases_cons t)
      (λ e. subst (λ (v : A). R v y) (sym e) (pairwise_head z (xs ++ ys) w y (Memᴰ.append_right xs u)))
      (λ v. pairwise_cross xs ys (pairwise_tail z (xs ++ ys) w) x y v u)

  -- where no two are related both ways, the elements tell the list
  pub pairwise_same : ((x y : A) → R x y → R y x → ⊥) → (xs ys : List A) → Pairwise xs → Pairwise ys →
      ((x : A) → Memᴰ x xs → Memᴰ x ys) → ((y : A) → Memᴰ y ys → Memᴰ y xs) → xs ≡ ys
  pairwise_same strict [] [] a b f g = refl
  pairwise_same strict [] (y ∷ ys) a b f g = absurd (Memᴰ.not-nil (g y (Memᴰ.head refl)))
  pairwise_same strict (x ∷ xs) [] a b f g = absurd (Memᴰ.not-nil (f x (Memᴰ.head refl)))
  pairwise_same strict (x ∷ xs) (y ∷ ys) a b f g =
      let e : x ≡ y =
      either (Memᴰ.cases_cons (f x (Memᴰ.head refl))) (λ q. q)
      (λ t. either (Memᴰ.cases_cons (g y (Memᴰ.head refl))) (λ q. sym q)
      (λ u. absurd (strict x y (pairwise_head x xs a y u) (pairwise_head y ys b x t)))) in
      same_cons e (pairwise_same strict xs ys (pairwise_tail x xs a) (pairwise_tail y ys b)
      (λ z t. either (Memᴰ.cases_cons (f z (Memᴰ.tail t)))
      (λ q. absurd (itself x (subst (λ (v : A). R x v) (q ∙ sym e) (pairwise_head x xs a z t)))) (λ u. u))
      (λ z t. either (Memᴰ.cases_cons (g z (Memᴰ.tail t)))
      (λ q. absurd (itself y (subst (λ (v : A). R y v) (q ∙ e) (pairwise_head y ys b z t)))) (λ u. u)))
    where
      itself : (z : A) → R z z → ⊥
      itself z h = strict z z h h

      same_cons : {x y : A} {xs ys : List A} → x ≡ y → xs ≡ ys → x ∷ xs ≡ y ∷ ys
      same_cons e q = cc
