-- What a C caller of the question on a recorded trace gets (R86). Assumes nothing: these are definitions.
use Rattle.std.specs.Prelude.{◌≡◌, List, ℕ, replicate}
use Rattle.plan_trace.specs.declared.Traced.{Traced}
use Rattle.plan_trace.specs.Numbers.{found_numbers}
use Rattle.plan_trace.specs.Promise.{TraceRight}
use Rattle.c_told.specs.Told.{told_of}

-- how many numbers say what was found
abbrev pub found_size : ℕ
found_size = 6

-- `told` is number, place and the number of what was followed; `found` has its values, and zeros beside a refusal
pub record TraceHanded (bytes trace told found table table_now list list_now state state_now : List ℕ) : Type 0 where
  pub traced : Traced
  pub right : TraceRight bytes trace (told_of told) traced table table_now list list_now state state_now
  pub found_is : found ≡ found_numbers traced
  pub refused : ((told_of told).number ≡ 0 → ⊥) → found ≡ replicate found_size 0
