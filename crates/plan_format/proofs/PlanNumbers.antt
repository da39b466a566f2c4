-- The plan that a plan's own numbers tell is that plan. Assumes nothing.
use mathlib.Core.Path.{◌≡◌, refl, sym, ap, ap₂, ◌∙◌}
use mathlib.Core.List.{List, [], ◌∷◌, ◌++◌, flat_map}
use Prim.Native.Nat.{ℕ, ◌*◌}
use native.Mathlib.Omega.{arith}
use lib.ListN.{length, length-append}
use lib.Seq.{drop_at}
use Rattle.plan_format.specs.Plan.{Point, Mark, Operation, Plan, points_in, marks_in, operation_in}
use Rattle.plan_format.specs.Plan.{operation_long, operations_in, plan_of}
use Rattle.plan_format.specs.Limits.{counted_numbers, one_number, point_numbers, mark_numbers, operation_numbers}
use Rattle.plan_format.specs.Limits.{numbers_of}
use Rattle.plan_format.proofs.Operations.{block, whole, long_is, operation_is}
use Rattle.plan_format.proofs.Sections as sections

-- ---- points and marks
pairs_long : {A : Type 0} (f : A → List ℕ) → ((x : A) → length (f x) ≡ 2) → (xs : List A) →
    length (flat_map f xs) ≡ 2 * length xs
unfolding flat_map
pairs_long f h [] = refl
pairs_long f h (x ∷ xs) = length-append (f x) (flat_map f xs) ∙ omega (arith, h x, pairs_long f h xs)

points_long : (xs : List Point) → length (flat_map point_numbers xs) ≡ 2 * length xs
unfolding point_numbers
points_long xs = pairs_long point_numbers (λ _. refl) xs

marks_long : (xs : List Mark) → length (flat_map mark_numbers xs) ≡ 2 * length xs
unfolding mark_numbers
marks_long xs = pairs_long mark_numbers (λ _. refl) xs

points_back : (xs : List Point) → points_in (length xs) (flat_map point_numbers xs) ≡ xs
unfolding flat_map points_in point_numbers
points_back [] = refl
points_back (x ∷ xs) = ap (λ z. x ∷ z) (points_back xs)

marks_back : (xs : List Mark) → marks_in (length xs) (flat_map mark_numbers xs) ≡ xs
unfolding flat_map marks_in mark_numbers
marks_back [] = refl
marks_back (x ∷ xs) = ap (λ z. x ∷ z) (marks_back xs)

-- ---- operations
module _ (o : Operation) (rest : List ℕ) where
  operation_goes : operation_long (operation_numbers o ++ rest) ≡ length (operation_numbers o)
  unfolding operation_numbers counted_numbers block whole
  operation_goes =
      long_is o.queue (length o.waits) (length o.signals) (length o.marks)
      (flat_map point_numbers o.waits)
      (flat_map point_numbers o.signals) (flat_map mark_numbers o.marks) (points_long o.waits)
      (points_long o.signals)
      (marks_long o.marks) rest

  operation_back : operation_in (operation_numbers o ++ rest) ≡ o
  unfolding operation_numbers counted_numbers block whole
  operation_back =
      operation_is o.queue (length o.waits) (length o.signals) (length o.marks)
      (flat_map point_numbers o.waits)
      (flat_map point_numbers o.signals) (flat_map mark_numbers o.marks) (points_long o.waits)
      (points_long o.signals)
      (marks_long o.marks) rest
      ∙ rw (points_back o.waits, points_back o.signals, marks_back o.marks)

operations_back : (os : List Operation) → operations_in (length os) (flat_map operation_numbers os) ≡ os
unfolding flat_map operations_in
operations_back [] = refl
operations_back (o ∷ os) =
    let more = flat_map operation_numbers os in
    ap₂ {C = List Operation} (λ x z. x ∷ operations_in (length os) z) (operation_back o more)
    (drop_at (operation_numbers o) more (operation_long (operation_numbers o ++ more)) (sym (operation_goes o more)))
    ∙ ap (λ z. o ∷ z) (operations_back os)

-- ---- the plan
pub ones : (xs : List ℕ) → flat_map one_number xs ≡ xs
unfolding flat_map one_number
ones [] = refl
ones (x ∷ xs) = ap (λ z. x ∷ z) (ones xs)

pub plan_back : (p : Plan) → plan_of (numbers_of p) ≡ p
unfolding numbers_of counted_numbers sections.whole
plan_back p =
    let q = length p.axes in
    let s = length p.owners in
    let b = length p.sizes in
    let n = length p.operations in
    rw (ones p.axes, ones p.owners, ones p.sizes)
    (sections.plan_at q s b n p.axes p.owners p.sizes (flat_map operation_numbers p.operations) refl refl
    refl
    ∙ rw (operations_back p.operations))
