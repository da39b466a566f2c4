-- `cundvrest_raise` meets its contract: its number is told beside what is stored. Assumes nothing.
use mathlib.Core.Path.{ap, ◌∙◌}
use Prim.Native.Nat.{ℕ}
use Rattle.plan_format.specs.declared.Told.{Told}
use Rattle.c_lent.proofs.FrontierCalls.{raise_answered}
use Rattle.c_lent.proofs.cundvrest_raise.Goals as goal

pub returns : goal.returns
returns c =
    let all =
    raise_answered _ _ _ _ _ _ (
      c.tell.ensures ∙ c.forwarded.ensures
          ∙ ap {B = Told} (λ (n : ℕ). record { number = n; place = 0; answer = 0 }) c.raise_numbers-number.ensures.0,
      c.raise_numbers-number.ensures.1,
    ) in
    record {
      says = all.0;
      right = all.1.0;
      oversized_side = all.1.1;
    }
