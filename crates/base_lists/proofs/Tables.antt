-- Tabulated and joined lists: their lengths, what is at a place, and one more at the end. Assumes nothing.
use mathlib.Core.Path.{◌≡◌, refl, sym, ap, ◌∙◌, subst}
use mathlib.Core.List.{List, [], ◌∷◌, ◌++◌}
use mathlib.Core.List.Memᴰ
use mathlib.Core.List.{Memᴰ}
use Prim.Native.Nat.{ℕ, zero, suc, ◌+◌, ◌*◌, ◌≤◌, ◌<◌}
use native.Mathlib.Nat.{not-suc-le-zero, le_of_suc-le-suc, le_refl, mul-suc}
use native.Mathlib.Omega.{arith}
use lib.Dec.{eqb}
use lib.ListN.{length, get_or, length-append, get_or-append}
use lib.Seq.{get_or-append-add}
use borrow.Author.Tests.{eqb-true, eqb-false}
use Rattle.base_lists.specs.Lists.{tabulate_from, join_from}
use Rattle.base_lists.proofs.Tests.{by_cases, either}

module _ {A : Type 0} (f : ℕ → A) where
  pub tabulate_length : (many i : ℕ) → length (tabulate_from many i f) ≡ many
  unfolding tabulate_from
  tabulate_length zero i = refl
  tabulate_length (suc k) i = ap suc (tabulate_length k (suc i))

  pub tabulate_at : (many i k : ℕ) (d : A) → k < many → get_or (tabulate_from many i f) k d ≡ f (i + k)
  unfolding tabulate_from
  tabulate_at zero i k d l = absurd (not-suc-le-zero l)
  tabulate_at (suc many) i zero d l = ap f (let e : i ≡ i + 0 = omega arith in e)
  tabulate_at (suc many) i (suc k) d l =
      tabulate_at many (suc i) k d (le_of_suc-le-suc l) ∙ ap f (let e : suc i + k ≡ i + suc k = omega arith in e)

  -- one more at the end
  pub tabulate_last : (many i : ℕ) → tabulate_from (suc many) i f ≡ tabulate_from many i f ++ (f (i + many) ∷ [])
  unfolding tabulate_from
  tabulate_last zero i = ap {B = List A} (λ k. f k ∷ []) (omega arith)
  tabulate_last (suc many) i =
      ap {B = List A} (λ xs. f i ∷ xs)
      (tabulate_last many (suc i) ∙ ap {B = List A} (λ k. tabulate_from many (suc i) f ++ (f k ∷ [])) (omega arith))

-- blocks of one width
module _ {A : Type 0} (w : ℕ) (f : ℕ → List A) (even : (i : ℕ) → length (f i) ≡ w) where
  pub join_length : (many i : ℕ) → length (join_from many i f) ≡ w * many
  unfolding join_from
  join_length zero i = let e : 0 ≡ w * 0 = omega arith in e
  join_length (suc k) i = length-append (f i) (join_from k (suc i) f)
      ∙ omega (arith, even i, join_length k (suc i), mul-suc w k)

  pub join_at : (many i k c : ℕ) (d : A) → k < many → c < w →
      get_or (join_from many i f) (w * k + c) d ≡ get_or (f (i + k)) c d
  unfolding join_from
  join_at zero i k c d l b = absurd (not-suc-le-zero l)
  join_at (suc many) i zero c d l b =
      ap (λ (z : ℕ). get_or (f i ++ join_from many (suc i) f) z d) (let e : w * 0 + c ≡ c = omega arith in e)
      ∙ get_or-append (f i) (join_from many (suc i) f) d c (omega (arith, even i))
      ∙ ap (λ (z : ℕ). get_or (f z) c d) (let e : i ≡ i + 0 = omega arith in e)
  join_at (suc many) i (suc k) c d l b =
      ap (λ (z : ℕ). get_or (f i ++ join_from many (suc i) f) z d)
      (let e : w * suc k + c ≡ length (f i) + (w * k + c) = omega (arith, even i, mul-suc w k) in e)
      ∙ get_or-append-add (f i) (join_from many (suc i) f) (w * k + c) d
      ∙ join_at many (suc i) k c d (le_of_suc-le-suc l) b
      ∙ ap (λ (z : ℕ). get_or (f z) c d) (let e : suc i + k ≡ i + suc k = omega arith in e)

-- ---- members of a joined list
pub join_gives : {A : Type 0} (f : ℕ → List A) (many i : ℕ) (a : A) → Memᴰ a (join_from many i f) →
    (k : ℕ) × (i ≤ k) × (k < many + i) × Memᴰ a (f k)
unfolding join_from
join_gives f zero i a e = absurd (Memᴰ.not-nil e)
join_gives f (suc many) i a e =
    either (Memᴰ.append_cases (f i) e) (λ t. (i, le_refl i, omega arith, t))
    (λ t. let w = join_gives f many (suc i) a t in (w.0, omega (arith, w.1), omega (arith, w.2), w.3))

pub join_has : {A : Type 0} (f : ℕ → List A) (many i k : ℕ) (a : A) → i ≤ k → k < many + i → Memᴰ a (f k) →
    Memᴰ a (join_from many i f)
unfolding join_from
join_has f zero i k a l u m = absurd (omega arith)
join_has f (suc many) i k a l u m =
    by_cases (eqb i k)
    (λ t. Memᴰ.append_left (join_from many (suc i) f) (subst (λ (z : ℕ). Memᴰ a (f z)) (sym (eqb-true i k t)) m))
    (λ t. Memᴰ.append_right (f i) (join_has f many (suc i) k a (omega (arith, eqb-false i k t)) (omega arith) m))
