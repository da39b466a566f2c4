-- Rows merged and laid down, column by column. Assumes nothing.
use mathlib.Core.Path.{◌≡◌, refl, sym, ap, ap₂, ◌∙◌}
use mathlib.Core.List.{List}
use Prim.Native.Nat.{ℕ, ◌+◌, ◌-◌, ◌*◌, ◌/◌, ◌%◌, ◌≤◌, ◌<◌, max}
use native.Mathlib.Nat.{not-suc-le-zero, div-add-mod}
use native.Mathlib.Omega.{arith}
use lib.Dec.{eqb}
use lib.ListN.{length, get_or, set, drop, length-set, length-drop}
use lib.Seq.{get_or-set_same, get_or-set_other, get_or-drop, ext_get_or}
use borrow.Author.Tests.{eqb-true, eqb-false}
use Rattle.base_lists.proofs.Tests.{by_cases}
use Rattle.plan_format.specs.Sizes.{row_width, no_operation}
use Rattle.check_run.specs.Merge.{cell, largest, Laid, Merged}

-- ---- a row merged
pub merged_is :
    (rows : List ℕ) (a b c d k u ab cd most v : ℕ) → ab ≡ max (get_or rows (16 * a + k) 0)
    (get_or rows (16 * b + k) 0) →
    cd ≡ max (get_or rows (16 * c + k) 0) (get_or rows (16 * d + k) 0) → most ≡ max ab cd → v ≡ (most + u) % 65536 →
    v ≡ (largest rows a b c d k + u) % 65536
unfolding largest cell
merged_is rows a b c d k u ab cd most v x y z e =
    e ∙ ap (λ (t : ℕ). (t + u) % 65536) (z ∙ ap₂ (λ (s t : ℕ). max s t) x y)

pub merged_more :
    (f : ℕ → ℕ) (row : List ℕ) (k v : ℕ) (row_now : List ℕ) → length row ≡ 16 → k < 16 →
    ((m : ℕ) → m < k → get_or row m 0 ≡ f m) → v ≡ f k →
    row_now ≡ set row k v → (m : ℕ) → m < k + 1 → get_or row_now m 0 ≡ f m
merged_more f row k v row_now long b h e now_is m l =
    ap (λ (x : List ℕ). get_or x m 0) now_is
    ∙ by_cases (eqb m k)
    (λ t. let q = eqb-true m k t in
    ap (λ (x : ℕ). get_or (set row k v) x 0) q ∙ get_or-set_same row k v 0 (let u : k < length row = omega arith in
    u) ∙ e
    ∙ ap f (sym q))
    (λ n. let ne = eqb-false m k n in get_or-set_other row k m v 0 ne ∙ h m (omega arith))

-- ---- a row laid down
module _ (rows : List ℕ) (j : ℕ) (row : List ℕ) where
  pub laid_none : Laid rows j row 0 rows
  laid_none = record { there = λ h k l. absurd (not-suc-le-zero l); elsewhere = λ i k l ne. refl; long = refl }

  pub laid_more :
      (k : ℕ) (old new : List ℕ) → j ≤ no_operation → k < 16 → Laid rows j row k old → new ≡ set old (16 * j + k)
      (get_or row k 0) →
      Laid rows j row (k + 1) new
  unfolding cell
  laid_more k old new few b h now_is = record {
    there = λ long m l. ap (λ (x : List ℕ). get_or x (16 * j + m) 0) now_is ∙ by_cases (eqb m k)
        (λ t. let q = eqb-true m k t in
        ap (λ (x : ℕ). get_or (set old (16 * j + k) (get_or row k 0)) (16 * j + x) 0) q
        ∙ get_or-set_same old (16 * j + k) (get_or row k 0) 0
        (let u : 16 * j + k < length old = omega (arith, h.long) in u)
        ∙ ap (λ (x : ℕ). get_or row x 0) (sym q))
        (λ n. let ne = eqb-false m k n in
        get_or-set_other old (16 * j + k) (16 * j + m) (get_or row k 0) 0 (λ z. ne (let u : m ≡ k = omega arith in u))
        ∙ h.there long m (omega arith));
    elsewhere = λ i m l ne. ap (λ (x : List ℕ). get_or x (16 * i + m) 0) now_is
        ∙ get_or-set_other old (16 * j + k) (16 * i + m) (get_or row k 0) 0 (λ z. ne (let u : i ≡ j = omega arith in u))
        ∙ h.elsewhere i m l ne;
    long = ap length now_is ∙ length-set old (16 * j + k) (get_or row k 0) ∙ h.long;
  }

pub merged_laid :
    (rows unit : List ℕ) (j q a b c d a' b' c' d' : ℕ) (row rows_now : List ℕ) → a ≡ a' → b ≡ b' → c ≡ c' → d ≡ d' →
    ((k : ℕ) → k < 16 → get_or row k 0 ≡ (largest rows a b c d k + get_or unit (16 - q + k) 0) % 65536) →
    Laid rows j row 16 rows_now →
    Merged rows unit j q a' b' c' d' rows_now
merged_laid rows unit j q a b c d a' b' c' d' row rows_now ea eb ec ed h laid = record {
  there = λ long k l. laid.there long k l ∙ h k l ∙ rw (ea, eb, ec, ed);
  elsewhere = laid.elsewhere;
  long = laid.long;
}

-- a row below n leaves every row from n on
pub merged_past :
    (rows unit : List ℕ) (j q a b c d : ℕ) (rows_now : List ℕ) (n : ℕ) → j < n → Merged rows unit j q a b c d rows_now →
    drop (row_width * n) rows_now ≡ drop (row_width * n) rows
unfolding cell
merged_past rows unit j q a b c d rows_now n l merged =
    ext_get_or 0 (drop (row_width * n) rows_now) (drop (row_width * n) rows)
    (length-drop (row_width * n) rows_now ∙ ap (λ (x : ℕ). x - row_width * n) merged.long
    ∙ sym (length-drop (row_width * n) rows))
    (λ k _. get_or-drop (row_width * n) rows_now k 0 ∙ ap (λ (x : ℕ). get_or rows_now x 0) (place k)
    ∙ merged.elsewhere (n + k / row_width) (k % row_width) (omega arith) (λ z. omega arith)
    ∙ ap (λ (x : ℕ). get_or rows x 0) (sym (place k)) ∙ sym (get_or-drop (row_width * n) rows k 0))
  where
    place : (k : ℕ) → row_width * n + k ≡ row_width * (n + k / row_width) + k % row_width
    place k = omega (arith, div-add-mod k row_width)
