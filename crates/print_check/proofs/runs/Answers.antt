-- `runs` meets its contract.
use Rattle.std.proofs.Common.{arith}
use mathlib.Core.Path.{◌≡◌}
use Prim.Native.Nat.{◌+◌, ◌-◌}
use Rattle.base_text.proofs.Putting.{adds_both}
use Rattle.base_text.proofs.Spelling.{blanked_each}
use Rattle.print_check.specs.CheckText.{runs_text}
use Rattle.print_check.proofs.runs.Goals as goal

pub returns : goal.returns
unfolding runs_text
returns c =
    let e : c.args.n + c.args.n - c.args.n ≡ c.args.n = omega arith in
    adds_both
    (adds_both (adds_both c.words.ensures (rw (blanked_each _) at c.list.ensures))
    (adds_both c.words-2.ensures (rw (blanked_each _, e) at c.list-2.ensures)))
    c.byte.ensures
