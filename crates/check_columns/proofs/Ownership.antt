-- Numbers that begin with the owners of a plan show them. Assumes nothing.
use mathlib.Core.Path.{◌≡◌, sym, ap, ◌∙◌}
use mathlib.Core.List.{List}
use Prim.Native.Nat.{ℕ, ◌<◌}
use native.Mathlib.Omega.{arith}
use lib.ListN.{length, get_or, take, length-take}
use lib.Seq.{get_or-take}
use Rattle.plan_format.specs.Plan.{Plan}
use Rattle.check_columns.specs.Columns.{OwnerColumn}

pub owners_shown : (p : Plan) (numbers : List ℕ) (many : ℕ) → p.owners ≡ take many numbers → OwnerColumn p numbers
unfolding OwnerColumn
owners_shown p numbers many are s l =
    let inside : s < many = omega (arith, ap (λ (z : List ℕ). length z) are, length-take many numbers) in
    sym (ap (λ (z : List ℕ). get_or z s 0) are ∙ get_or-take many numbers s 0 inside)
