-- The answer of dominance is read as it was told. Assumes nothing.
use mathlib.Core.Path.{◌≡◌, refl}
use mathlib.Core.Bool.{Bool, true, false}
use Prim.Native.Nat.{ℕ}
use lib.Dec.{eqb}
use Rattle.base_lists.proofs.Tests.{by_cases}
use Rattle.frontier.specs.declared.Frontier.{Frontier}
use Rattle.frontier.specs.Frontiers.{Refused}
use Rattle.frontier.specs.Frontiers.{answer, dominance_number, dominance, number_of}
use Rattle.c_lent.specs.Lent.{dominance_told, answer_read, dominance_of}

answer_back : (reached left right : Bool) →
    dominance_of (dominance_told (answer reached left right)) ≡ answer reached left right
unfolding dominance_of number_of answer_read answer
answer_back true left false = refl
answer_back true left true = refl
answer_back false false right = refl
answer_back false true right = refl

refused_back : (n : ℕ) → eqb n 0 ≡ false → dominance_of (dominance_told (Refused n)) ≡ Refused n
unfolding dominance_of number_of
refused_back n e = rw e

pub dominance_back : (f g : Frontier) → dominance_of (dominance_told (dominance f g)) ≡ dominance f g
unfolding dominance
dominance_back f g =
    by_cases (eqb (dominance_number f g) 0) (λ t. rw t (answer_back _ _ _)) (λ e. rw e (refused_back _ e))
