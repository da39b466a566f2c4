-- What begins alike is too long alike, and how that is told from the first byte and the length. Assumes nothing.
use mathlib.Core.Path.{◌≡◌, refl, sym, ap, ◌∙◌}
use mathlib.Core.Bool.{Bool, true, false, ◌&&◌}
use mathlib.Core.List.{List}
use Prim.Native.Nat.{ℕ, ◌+◌, ◌≤◌, ◌<◌}
use native.Mathlib.Omega.{arith}
use lib.Dec.{ltb, eqb}
use lib.ListN.{length, get_or, take, length-take}
use lib.Seq.{length-take-le, get_or-take}
use borrow.Author.Tests.{ltb-true, lt-ltb, le-ltb}
use Rattle.base_lists.proofs.Tests.{by_cases, clash}
use Rattle.plan_format.specs.Sizes.{most_input, second_lead}
use Rattle.plan_format.specs.Form.{is_second}
use Rattle.plan_format.specs.Stored.{scanned, too_long}
use Rattle.plan_format.proofs.Prefix.{ReadsAlike, judged_bytes_decide}
use Rattle.base_text.specs.Text.{Puts}
use Rattle.print_input.specs.Inputs.{SameBytes, UnlessLong, too_long_text}

and_false : (b : Bool) → (b && false) ≡ false
and_false true = refl
and_false false = refl

and_true : (b : Bool) → (b && true) ≡ b
and_true true = refl
and_true false = refl

-- more than n elements, by the first n + 1 of them
longer_in : (n : ℕ) (xs ys : List ℕ) → take (n + 1) xs ≡ take (n + 1) ys → n < length xs → n < length ys
longer_in n xs ys same l =
    let a : length (take (n + 1) xs) ≡ n + 1 = length-take-le (n + 1) xs (omega (arith, l)) in
    let b : length (take (n + 1) ys) ≡ n + 1 = sym (ap length same) ∙ a in
    omega (arith, b, length-take (n + 1) ys)

longer_alike : (n : ℕ) (xs ys : List ℕ) → take (n + 1) xs ≡ take (n + 1) ys → ltb n (length xs) ≡ ltb n (length ys)
longer_alike n xs ys same =
    by_cases (ltb n (length xs))
    (λ t. t ∙ sym (lt-ltb n (length ys) (longer_in n xs ys same (ltb-true n (length xs) t))))
    (λ f. by_cases (ltb n (length ys))
    (λ t. lt-ltb n (length xs) (longer_in n ys xs (sym same) (ltb-true n (length ys) t)) ∙ sym t)
    (λ g. f ∙ sym g))

pub long_alike : (xs ys : List ℕ) → SameBytes xs ys → too_long xs ≡ too_long ys
unfolding too_long is_second
long_alike xs ys same =
    let m = most_input + 1 in
    let h : get_or xs 0 0 ≡ get_or ys 0 0 =
    sym (get_or-take m xs 0 0 (omega arith)) ∙ ap (λ (z : List ℕ). get_or z 0 0) same
    ∙ get_or-take m ys 0 0 (omega arith) in
    rw (h, longer_alike most_input xs ys same)

-- by the length and the first byte
pub few : (bs : List ℕ) → length bs ≤ most_input → false ≡ too_long bs
unfolding too_long
few bs l = sym (ap (λ (b : Bool). is_second bs && b) (le-ltb most_input (length bs) l) ∙ and_false (is_second bs))

pub many : (bs : List ℕ) → most_input < length bs → eqb (get_or bs 0 0) second_lead ≡ too_long bs
unfolding too_long is_second
many bs l = rw (lt-ltb most_input (length bs) l, and_true (eqb (get_or bs 0 0) second_lead)) refl

-- what begins alike and is not too long is read alike
pub reads_alike : (bs cs : List ℕ) → SameBytes bs cs → too_long bs ≡ false → ReadsAlike (scanned bs) (scanned cs)
reads_alike bs cs same f =
    let a = judged_bytes_decide bs f in
    let b = judged_bytes_decide cs (sym (long_alike bs cs same) ∙ f) in
    record {
      fault = a.fault ∙ ap (λ z. (scanned z).fault) same ∙ sym b.fault;
      got = a.got ∙ ap (λ z. (scanned z).got) same ∙ sym b.got;
    }

-- what is printed for the first bytes is printed for every input that begins so
module _ (begun whole : List ℕ) (same : SameBytes whole begun) {A : Type 0} {o x : List ℕ} {e : ℕ} where
  pub when_long : too_long begun ≡ true → Puts too_long_text o 0 x e → UnlessLong whole o x e A
  when_long t p = record { long = λ _. p; judged = λ f. clash (too_long whole) (long_alike whole begun same ∙ t) f }

  pub when_judged : too_long begun ≡ false → (too_long whole ≡ false → A) → UnlessLong whole o x e A
  when_judged f g = record { long = λ t. clash (too_long whole) t (long_alike whole begun same ∙ f); judged = g }
