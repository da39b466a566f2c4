-- Numbers with zeros after them hold the operations that the numbers hold. Assumes nothing.
use mathlib.Core.Path.{◌≡◌, refl, sym, ap, ap₂, ◌∙◌}
use mathlib.Core.List.{List, [], ◌∷◌, ◌++◌}
use Prim.Native.Nat.{ℕ, zero, suc, ◌+◌, ◌*◌}
use native.Mathlib.Omega.{arith}
use lib.Dec.{ltb}
use lib.ListN.{get_or, drop, replicate, get_or-replicate, length-replicate, get_or-eq_default}
use lib.Seq.{get_or-drop}
use borrow.Author.Tests.{ltb-true, ltb-false}
use Rattle.base_lists.proofs.Tests.{by_cases}
use Rattle.plan_format.specs.Form.{Form}
use Rattle.plan_format.specs.Plan.{Point, Mark, Operation, points_in, marks_in, heading, operation_in, operation_long}
use Rattle.plan_format.specs.Plan.{operations_in}

-- two lists have the same numbers, 0 past the end
abbrev pub Alike : (xs ys : List ℕ) → Type 0
Alike xs ys = (k : ℕ) → get_or xs k 0 ≡ get_or ys k 0

pub padded_alike : (xs : List ℕ) (m : ℕ) → Alike (xs ++ replicate m 0) xs
padded_alike [] m k =
    by_cases (ltb k m) (λ t. get_or-replicate m k 0 0 (ltb-true k m t))
    (λ f. get_or-eq_default (replicate m 0) 0 (omega (arith, ltb-false k m f, length-replicate {A = ℕ} m 0)))
padded_alike (x ∷ xs) m zero = refl
padded_alike (x ∷ xs) m (suc k) = padded_alike xs m k

pub drop_alike : (xs ys : List ℕ) → Alike xs ys → (c d : ℕ) → c ≡ d → Alike (drop c xs) (drop d ys)
drop_alike xs ys same c d e k =
    get_or-drop c xs k 0 ∙ same (c + k) ∙ ap (λ (z : ℕ). get_or ys (z + k) 0) e ∙ sym (get_or-drop d ys k 0)

points_alike : (k : ℕ) (xs ys : List ℕ) → Alike xs ys → points_in k xs ≡ points_in k ys
unfolding points_in
points_alike zero xs ys same = refl
points_alike (suc k) xs ys same =
    ap₂ {C = List Point} (λ (x : Point) (l : List Point). x ∷ l)
    (λ i. record { semaphore = same 0 i; value = same 1 i })
    (points_alike k (drop 2 xs) (drop 2 ys) (drop_alike xs ys same 2 2 refl))

marks_alike : (k : ℕ) (xs ys : List ℕ) → Alike xs ys → marks_in k xs ≡ marks_in k ys
unfolding marks_in
marks_alike zero xs ys same = refl
marks_alike (suc k) xs ys same =
    ap₂ {C = List Mark} (λ (x : Mark) (l : List Mark). x ∷ l) (λ i. record { buffer = same 0 i; kind = same 1 i })
    (marks_alike k (drop 2 xs) (drop 2 ys) (drop_alike xs ys same 2 2 refl))

module _ (F : Form) where
  module _ (xs ys : List ℕ) (same : Alike xs ys) where
    -- a number at a place that both have
    at_both : (a b : ℕ) → a ≡ b → get_or xs a 0 ≡ get_or ys b 0
    at_both a b e = same a ∙ ap (λ (z : ℕ). get_or ys z 0) e

    abbrev h : ℕ
    h = heading

    w_same : get_or xs h 0 ≡ get_or ys h 0
    w_same = same h

    s_same : get_or xs (h + 1 + 2 * get_or xs h 0) 0 ≡ get_or ys (h + 1 + 2 * get_or ys h 0) 0
    s_same = at_both (h + 1 + 2 * get_or xs h 0) (h + 1 + 2 * get_or ys h 0) (omega (arith, w_same))

    to_marks : h + 2 + 2 * get_or xs h 0 + 2 * get_or xs (h + 1 + 2 * get_or xs h 0) 0 ≡
        h + 2 + 2 * get_or ys h 0 + 2 * get_or ys (h + 1 + 2 * get_or ys h 0) 0
    to_marks = omega (arith, w_same, s_same)

    m_same :
        get_or xs (h + 2 + 2 * get_or xs h 0 + 2 * get_or xs (h + 1 + 2 * get_or xs h 0) 0) 0 ≡
        get_or ys (h + 2 + 2 * get_or ys h 0 + 2 * get_or ys (h + 1 + 2 * get_or ys h 0) 0) 0
    m_same =
        at_both (h + 2 + 2 * get_or xs h 0 + 2 * get_or xs (h + 1 + 2 * get_or xs h 0) 0)
        (h + 2 + 2 * get_or ys h 0 + 2 * get_or ys (h + 1 + 2 * get_or ys h 0) 0) to_marks

    long_alike : operation_long xs ≡ operation_long ys
    unfolding operation_long
    long_alike = omega (arith, w_same, s_same, m_same)

    waits_alike : (operation_in xs).waits ≡ (operation_in ys).waits
    unfolding operation_in
    waits_alike = ap (λ (k : ℕ). points_in k (drop (h + 1) xs)) w_same
        ∙ points_alike (get_or ys h 0) (drop (h + 1) xs) (drop (h + 1) ys) (drop_alike xs ys same (h + 1) (h + 1) refl)

    signals_alike : (operation_in xs).signals ≡ (operation_in ys).signals
    unfolding operation_in
    signals_alike =
        ap (λ (k : ℕ). points_in k (drop (h + 2 + 2 * get_or xs h 0) xs)) s_same
        ∙ points_alike (get_or ys (h + 1 + 2 * get_or ys h 0) 0) (drop (h + 2 + 2 * get_or xs h 0) xs)
        (drop (h + 2 + 2 * get_or ys h 0) ys)
        (drop_alike xs ys same (h + 2 + 2 * get_or xs h 0) (h + 2 + 2 * get_or ys h 0) (omega (arith, w_same)))

    marks_same : (operation_in xs).marks ≡ (operation_in ys).marks
    unfolding operation_in
    marks_same =
        let c = h + 3 + 2 * get_or xs h 0 + 2 * get_or xs (h + 1 + 2 * get_or xs h 0) 0 in
        let d = h + 3 + 2 * get_or ys h 0 + 2 * get_or ys (h + 1 + 2 * get_or ys h 0) 0 in
        ap (λ (k : ℕ). marks_in k (drop c xs)) m_same
        ∙ marks_alike (get_or ys (h + 2 + 2 * get_or ys h 0 + 2 * get_or ys (h + 1 + 2 * get_or ys h 0) 0) 0)
        (drop c xs)
        (drop d ys) (drop_alike xs ys same c d (omega (arith, w_same, s_same)))

    operation_alike : operation_in xs ≡ operation_in ys
    operation_alike =
        λ i. record { queue = queue_same i; waits = waits_alike i; signals = signals_alike i; marks = marks_same i }
      where
        queue_same : (operation_in xs).queue ≡ (operation_in ys).queue
        queue_same = unfold operation_in in (same 0)

  pub operations_alike : (n : ℕ) (xs ys : List ℕ) → Alike xs ys → operations_in n xs ≡ operations_in n ys
  unfolding operations_in
  operations_alike zero xs ys same = refl
  operations_alike (suc n) xs ys same =
      ap₂ {C = List Operation} (λ (o : Operation) (l : List Operation). o ∷ l) (operation_alike xs ys same)
      (operations_alike n (drop (operation_long xs) xs) (drop (operation_long ys) ys)
      (drop_alike xs ys same (operation_long xs) (operation_long ys) (long_alike xs ys same)))

  -- after the first numbers, of a list with zeros after it
  pub padded_operations : (n first : ℕ) (xs : List ℕ) (m : ℕ) →
      operations_in n (drop first (xs ++ replicate m 0)) ≡ operations_in n (drop first xs)
  padded_operations n first xs m =
      operations_alike n (drop first (xs ++ replicate m 0)) (drop first xs)
      (drop_alike (xs ++ replicate m 0) xs (padded_alike xs m) first first refl)
