-- What a loading leaves in the columns. Assumes nothing.
use mathlib.Core.Path.{◌≡◌}
use Prim.Native.Nat.{ℕ, ◌*◌, ◌≤◌}
use native.Mathlib.Omega.{arith}
use Rattle.check_columns.specs.Columns.{Columns}
use Rattle.check_load.specs.Loading.{ToldLoad, KeptPast, Keeps}
use Rattle.check_load.proofs.Keeping.{keeps_past}

-- what a whole plan leaves, and what a refusal after some operations leaves
pub keeps_whole : (n : ℕ) (r : ToldLoad) {i : ℕ} {cs cs' : Columns} → r.number ≡ 0 →
    KeptPast i r.signals r.marks cs cs' → i ≤ r.operations → Keeps n r cs cs'
keeps_whole n r z k more = record {
  taken = λ _. keeps_past k more (omega arith) (omega arith);
  refused = λ bad. absurd (bad z);
}

pub keeps_refused : (n : ℕ) (r : ToldLoad) {i signals marks : ℕ} {cs cs' : Columns} → (r.number ≡ 0 → ⊥) →
    KeptPast i signals marks cs cs' → i ≤ n → signals ≤ 3 * i → marks ≤ 7 * i → Keeps n r cs cs'
keeps_refused n r bad k more s m = record {
  taken = λ z. absurd (bad z);
  refused = λ _. keeps_past k more (omega arith) (omega arith);
}
