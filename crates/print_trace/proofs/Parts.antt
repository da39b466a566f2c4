-- The rest of a list after its first numbers, as the code lends it. Assumes nothing.
use mathlib.Core.Path.{subst}
use mathlib.Core.List.{List}
use Prim.Native.Nat.{ℕ, ◌-◌}
use native.Mathlib.Omega.{arith}
use lib.ListN.{length, take, drop, length-drop}
use lib.Seq.{take_all}
use Rattle.base_text.specs.Text.{Adds}
use Rattle.base_text.specs.declared.Text.{Text}
use Rattle.print_trace.specs.Printed.{numbers_text}

pub rest_put : (k : ℕ) (xs : List ℕ) (n : ℕ) {a b : Text} →
    Adds (numbers_text (take (length xs - k) (drop k xs)) n) a b → Adds (numbers_text (drop k xs) n) a b
rest_put k xs n {a} {b} h =
    subst (λ (z : List ℕ). Adds (numbers_text z n) a b)
    (take_all (length xs - k) (drop k xs) (omega (arith, length-drop k xs))) h
