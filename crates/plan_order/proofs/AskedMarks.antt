-- What keeping asks, by the positions of the marks that it is asked of. Assumes nothing.
use mathlib.Core.Path.{◌≡◌, refl, sym, ◌∙◌, subst}
use mathlib.Core.Bool.{Bool, true, false}
use mathlib.Core.List.{List, [], ◌∷◌, ◌++◌, Memᴰ}
use mathlib.Core.Option.{Option, none, some}
use Prim.Native.Nat.{ℕ, zero, suc, ◌<◌, zero-le}
use native.Mathlib.Nat.{not-suc-le-zero, le_of_suc-le-suc}
use native.Mathlib.Omega.{arith}
use lib.ListN.{length}
use borrow.Author.Tests.{eqb-true, eqb-false, eq-eqb, ne_eqb}
use Rattle.base_lists.proofs.Tests.{by_cases, by_option, either}
use Rattle.plan_order.specs.Holdings.{Placed, is_free, freed_by, free_after, Ask, use_asks, later_asks, asks_from}
use Rattle.plan_order.specs.Meaning.{mark_at, Frees, NoFree}

-- ---- frees, as a test and by kind
pub free_kind : (m : Placed) → is_free m ≡ true → m.kind ≡ 1
unfolding is_free
free_kind m t = eqb-true m.kind 1 t

pub kind_free : (m : Placed) → m.kind ≡ 1 → is_free m ≡ true
unfolding is_free
kind_free m e = eq-eqb m.kind 1 e

pub kind_use : (m : Placed) → (m.kind ≡ 1 → ⊥) → is_free m ≡ false
unfolding is_free
kind_use m e = ne_eqb m.kind 1 e

pub use_kind : (m : Placed) → is_free m ≡ false → m.kind ≡ 1 → ⊥
unfolding is_free
use_kind m f = eqb-false m.kind 1 f

-- one mark in front
no_free_tail : (m : Placed) (ms : List Placed) (k l : ℕ) → NoFree (m ∷ ms) (suc k) (suc l) → NoFree ms k l
no_free_tail m ms k l h n a b = h (suc n) (omega arith) (omega arith)

no_free_more : (m : Placed) (ms : List Placed) (k l : ℕ) → NoFree ms k l → NoFree (m ∷ ms) (suc k) (suc l)
no_free_more m ms k l h zero a b = absurd (not-suc-le-zero a)
no_free_more m ms k l h (suc n) a b = h n (le_of_suc-le-suc a) (le_of_suc-le-suc b)

no_free_cons : (m : Placed) (ms : List Placed) (l : ℕ) → (m.kind ≡ 1 → ⊥) → NoFree ms 0 l → NoFree (m ∷ ms) 0 (suc l)
no_free_cons m ms l u h zero a b = u
no_free_cons m ms l u h (suc n) a b = h n zero-le (le_of_suc-le-suc b)

-- ---- the free of the first mark's holding
freed_at : (ms : List Placed) (l : ℕ) → l < length ms → NoFree ms 0 l → Frees ms l →
    freed_by ms ≡ some (mark_at ms l).by
unfolding freed_by
freed_at [] l b h e = absurd (not-suc-le-zero b)
freed_at (m ∷ ms) zero b h e = rw (kind_free m e)
freed_at (m ∷ ms) (suc l) b h e =
    rw (kind_use m (h 0 zero-le (omega arith)))
    (freed_at ms l (le_of_suc-le-suc b) (λ n x y. h (suc n) zero-le (omega arith)) e)

record Freed (ms : List Placed) (f l : ℕ) : Type 0 where
  inside : l < length ms
  none_before : NoFree ms 0 l
  frees : Frees ms l
  own : (mark_at ms l).by ≡ f

freed_gives : (ms : List Placed) (f : ℕ) → freed_by ms ≡ some f → (l : ℕ) × Freed ms f l
unfolding freed_by
freed_gives [] f e = absurd (let z : ◌≡◌ {A = ℕ} 0 1 = cc in omega arith)
freed_gives (m ∷ ms) f e =
    by_cases (is_free m)
    (λ t. let same : some m.by ≡ some f = rw t at e in (
      0,
      record {
        inside = omega arith;
        none_before = λ n a b. absurd (not-suc-le-zero b);
        frees = free_kind m t;
        own = cc;
      },
    ))
    (λ n. let w = freed_gives ms f (rw n at e) in
    let x = w.1 in (
      suc w.0,
      record {
        inside = omega (arith, x.inside);
        none_before = no_free_cons m ms w.0 (use_kind m n) x.none_before;
        frees = x.frees;
        own = x.own;
      },
    ))

-- ---- what is asked of the first mark, and of the rest
abbrev pub ask : (i j : ℕ) → Bool → Ask
ask i j same = record { first = i; then = j; same_allowed = same }

module _ (g : Option ℕ) (m : Placed) (ms : List Placed) where
  own_asked : (f : ℕ) → is_free m ≡ false → freed_by (m ∷ ms) ≡ some f →
      Memᴰ (ask m.by f true) (asks_from g (m ∷ ms))
  unfolding use_asks asks_from
  own_asked f u e =
      let t : Memᴰ (ask m.by f true) (use_asks m (freed_by (m ∷ ms))) = rw (e, u) (mathlib.Core.List.Memᴰ.head refl) in
      mathlib.Core.List.Memᴰ.append_left (asks_from (free_after g m) ms) (mathlib.Core.List.Memᴰ.append_left
      (later_asks m g) t)

  before_asked : (f : ℕ) → g ≡ some f → Memᴰ (ask f m.by false) (asks_from g (m ∷ ms))
  unfolding later_asks asks_from
  before_asked f e =
      let t : Memᴰ (ask f m.by false) (later_asks m g) = rw e (mathlib.Core.List.Memᴰ.head refl) in
      mathlib.Core.List.Memᴰ.append_left (asks_from (free_after g m) ms) (mathlib.Core.List.Memᴰ.append_right
      (use_asks m (freed_by (m ∷ ms))) t)

  rest_asked : (a : Ask) → Memᴰ a (asks_from (free_after g m) ms) → Memᴰ a (asks_from g (m ∷ ms))
  unfolding asks_from
  rest_asked a t = mathlib.Core.List.Memᴰ.append_right (use_asks m (freed_by (m ∷ ms)) ++ later_asks m g) t

  after_free : m.kind ≡ 1 → free_after g m ≡ some m.by
  unfolding free_after
  after_free e = rw (kind_free m e)

  after_use : (m.kind ≡ 1 → ⊥) → free_after g m ≡ g
  unfolding free_after
  after_use e = rw (kind_use m e)

-- ---- where what is asked comes from: a use and its own free, a free and a mark of the holding after it, the free
-- before the first mark
pub data Origin (g : Option ℕ) (ms : List Placed) (a : Ask) : Type 0 where
  own : (k l : ℕ) → k < l → l < length ms → NoFree ms k l → Frees ms l →
      a ≡ ask (mark_at ms k).by (mark_at ms l).by true → Origin g ms a
  later : (l k : ℕ) → l < k → k < length ms → Frees ms l → NoFree ms (suc l) k →
      a ≡ ask (mark_at ms l).by (mark_at ms k).by false → Origin g ms a
  first : (f k : ℕ) → g ≡ some f → k < length ms → NoFree ms 0 k → a ≡ ask f (mark_at ms k).by false → Origin g ms a

origin_use : (g : Option ℕ) (m : Placed) (ms : List Placed) (a : Ask) → Memᴰ a (use_asks m (freed_by (m ∷ ms))) →
    Origin g (m ∷ ms) a
unfolding use_asks
origin_use g m ms a t =
    by_option (freed_by (m ∷ ms)) (λ e. absurd (mathlib.Core.List.Memᴰ.not-nil (rw e at t)))
    (λ f e. by_cases (is_free m) (λ u. absurd (mathlib.Core.List.Memᴰ.not-nil (rw (e, u) at t)))
    (λ u. let w = freed_gives (m ∷ ms) f e in
    of_free f w.0 u w.1 (mathlib.Core.List.Memᴰ.eq_of_singleton (rw (e, u) at t))))
  where
    of_free : (f l : ℕ) → is_free m ≡ false → Freed (m ∷ ms) f l → a ≡ ask m.by f true → Origin g (m ∷ ms) a
    of_free f zero u x q = absurd (use_kind m u x.frees)
    of_free f (suc l) u x q =
        own 0 (suc l) (omega arith) x.inside x.none_before x.frees
        (subst (λ (z : ℕ). a ≡ ask m.by z true) (sym x.own) q)

origin_later : (g : Option ℕ) (m : Placed) (ms : List Placed) (a : Ask) → Memᴰ a (later_asks m g) →
    Origin g (m ∷ ms) a
unfolding later_asks
origin_later none m ms a t = absurd (mathlib.Core.List.Memᴰ.not-nil t)
origin_later (some f) m ms a t =
    first f 0 refl (omega arith) (λ n x y. absurd (not-suc-le-zero y)) (mathlib.Core.List.Memᴰ.eq_of_singleton t)

origin_rest : (g : Option ℕ) (m : Placed) (ms : List Placed) (a : Ask) → Origin (free_after g m) ms a →
    Origin g (m ∷ ms) a
unfolding free_after
origin_rest g m ms a (own k l x b n e q) = own (suc k) (suc l) (omega arith) (omega arith) (no_free_more m ms k l n) e q
origin_rest g m ms a (later l k x b e n q) =
    later (suc l) (suc k) (omega arith) (omega arith) e (no_free_more m ms (suc l) k n) q
origin_rest g m ms a (first f k e b n q) =
    by_cases (is_free m)
    (λ t. let same : some m.by ≡ some f = rw t at e in let s : m.by ≡ f = cc in
    later 0 (suc k) (omega arith) (omega arith) (free_kind m t) (no_free_more m ms 0 k n)
    (subst (λ (z : ℕ). a ≡ ask z (mark_at ms k).by false) (sym s) q))
    (λ u. first f (suc k) (rw u at e) (omega arith) (no_free_cons m ms k (use_kind m u) n) q)

pub asked_origin : (g : Option ℕ) (ms : List Placed) (a : Ask) → Memᴰ a (asks_from g ms) → Origin g ms a
unfolding asks_from
asked_origin g [] a t = absurd (mathlib.Core.List.Memᴰ.not-nil t)
asked_origin g (m ∷ ms) a t =
    let u = use_asks m (freed_by (m ∷ ms)) in
    either (mathlib.Core.List.Memᴰ.append_cases (u ++ later_asks m g) t)
    (λ v. either (mathlib.Core.List.Memᴰ.append_cases u v) (λ x. origin_use g m ms a x) (λ x. origin_later g m ms a x))
    (λ v. origin_rest g m ms a (asked_origin (free_after g m) ms a v))

asked_same : (a c : Ask) (asked : List Ask) → a ≡ c → Memᴰ c asked → Memᴰ a asked
asked_same a c asked q t = subst (λ (z : Ask). Memᴰ z asked) (sym q) t

pub origin_asked : (g : Option ℕ) (ms : List Placed) (a : Ask) → Origin g ms a → Memᴰ a (asks_from g ms)
origin_asked g [] a (own k l x b n e q) = absurd (not-suc-le-zero b)
origin_asked g [] a (later l k x b e n q) = absurd (not-suc-le-zero b)
origin_asked g [] a (first f k e b n q) = absurd (not-suc-le-zero b)
origin_asked g (m ∷ ms) a (own k zero x b n e q) = absurd (not-suc-le-zero x)
origin_asked g (m ∷ ms) a (own zero (suc l) x b n e q) =
    asked_same a (ask m.by (mark_at ms l).by true) (asks_from g (m ∷ ms)) q
    (own_asked g m ms (mark_at ms l).by (kind_use m (n 0 zero-le x)) (freed_at (m ∷ ms) (suc l) b n e))
origin_asked g (m ∷ ms) a (own (suc k) (suc l) x b n e q) =
    rest_asked g m ms a (origin_asked (free_after g m) ms a
    (own k l (le_of_suc-le-suc x) (le_of_suc-le-suc b) (no_free_tail m ms k l n) e q))
origin_asked g (m ∷ ms) a (later l zero x b e n q) = absurd (not-suc-le-zero x)
origin_asked g (m ∷ ms) a (later zero (suc k) x b e n q) =
    rest_asked g m ms a (origin_asked (free_after g m) ms a
    (first m.by k (after_free g m ms e) (le_of_suc-le-suc b) (no_free_tail m ms 0 k n) q))
origin_asked g (m ∷ ms) a (later (suc l) (suc k) x b e n q) =
    rest_asked g m ms a (origin_asked (free_after g m) ms a
    (later l k (le_of_suc-le-suc x) (le_of_suc-le-suc b) e (no_free_tail m ms (suc l) k n) q))
origin_asked g (m ∷ ms) a (first f zero e b n q) =
    asked_same a (ask f m.by false) (asks_from g (m ∷ ms)) q (before_asked g m ms f e)
origin_asked g (m ∷ ms) a (first f (suc k) e b n q) =
    rest_asked g m ms a (origin_asked (free_after g m) ms a
    (first f k (after_use g m ms (n 0 zero-le (omega arith)) ∙ e) (le_of_suc-le-suc b)
    (λ i x y. n (suc i) zero-le (omega arith)) q))
