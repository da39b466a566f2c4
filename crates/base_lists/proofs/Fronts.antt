-- A list written over the front of another, element by element. Assumes nothing.
use mathlib.Core.Path.{◌≡◌, refl, sym, ap, ◌∙◌}
use mathlib.Core.List.{List, [], ◌∷◌, ◌++◌, append_assoc}
use Prim.Native.Nat.{ℕ, suc, ◌+◌, ◌-◌, ◌≤◌, ◌<◌}
use native.Mathlib.Numerals.{add-one}
use native.Mathlib.Omega.{arith}
use lib.ListN.{length, get_or, set, take, drop, length-append, length-drop, take-append-drop, get_or-append}
use lib.Seq.{length-take-le, take-suc, drop-cons, drop-drop, set_at, take_all, get_or-append-add, get_or-drop}
use Rattle.base_lists.specs.Lists.{in_front}

module _ {A : Type 0} (new old : List A) where
  pub front_none : in_front (take 0 new) old ≡ old
  unfolding in_front
  front_none = none_taken new
    where
      none_taken : (xs : List A) → in_front (take 0 xs) old ≡ old
      none_taken [] = refl
      none_taken (x ∷ xs) = refl

  pub front_all : (n : ℕ) → length new ≤ n → in_front (take n new) old ≡ in_front new old
  front_all n l = ap (λ (z : List A). in_front z old) (take_all n new l)

  pub front_length : length new ≤ length old → length (in_front new old) ≡ length old
  unfolding in_front
  front_length l = length-append new (drop (length new) old) ∙ omega (arith, length-drop (length new) old)

  -- one element more
  pub front_more : (i : ℕ) (d : A) → i < length new → i < length old →
      set (in_front (take i new) old) i (get_or new i d) ≡ in_front (take (i + 1) new) old
  unfolding in_front
  front_more i d l m =
      let a : length (take i new) ≡ i = length-take-le i new (omega arith) in
      let b : length (take (suc i) new) ≡ suc i = length-take-le (suc i) new l in
      rw (add-one, a, b, drop-cons old i d, take-suc new i d)
      (set_at (take i new) (get_or old i d) (drop (suc i) old) (get_or new i d) i a
      ∙ sym (append_assoc (take i new) (get_or new i d ∷ []) (drop (suc i) old)))

  pub front_at : (k : ℕ) (d : A) → k < length new → get_or (in_front new old) k d ≡ get_or new k d
  unfolding in_front
  front_at k d l = get_or-append new (drop (length new) old) d k l

  pub front_past : (k : ℕ) (d : A) → length new ≤ k → get_or (in_front new old) k d ≡ get_or old k d
  unfolding in_front
  front_past k d l =
      let j = k - length new in
      let e : k ≡ length new + j = omega arith in
      ap (λ (z : ℕ). get_or (new ++ drop (length new) old) z d) e ∙ get_or-append-add new (drop (length new) old) j d
      ∙ get_or-drop (length new) old j d ∙ ap (λ (z : ℕ). get_or old z d) (sym e)

-- ---- lists that are alike past a place
module _ {A : Type 0} where
  pub past_later : (i k : ℕ) (xs ys : List A) → i ≤ k → drop i xs ≡ drop i ys → drop k xs ≡ drop k ys
  past_later i k xs ys l e =
      let later : i + (k - i) ≡ k = omega arith in
      let on : (zs : List A) → drop (k - i) (drop i zs) ≡ drop k zs =
      λ zs. drop-drop (k - i) i zs ∙ ap (λ (n : ℕ). drop n zs) later in
      sym (on xs) ∙ ap (λ (zs : List A). drop (k - i) zs) e ∙ on ys

  -- one of them is its own front over the other
  pub front_taken : (k : ℕ) (xs ys : List A) → k ≤ length xs → drop k xs ≡ drop k ys → xs ≡ in_front (take k xs) ys
  unfolding in_front
  front_taken k xs ys l e =
      sym (take-append-drop k xs)
      ∙ ap (λ (zs : List A). take k xs ++ zs) (e ∙ ap (λ (n : ℕ). drop n ys) (sym (length-take-le k xs l)))

  -- and what is written over all that differs is the same
  pub front_alike : (new xs ys : List A) → drop (length new) xs ≡ drop (length new) ys →
      in_front new xs ≡ in_front new ys
  unfolding in_front
  front_alike new xs ys e = ap (λ (zs : List A). new ++ zs) e
