-- `row` meets its contract.
use Rattle.std.proofs.Common.{arith}
use mathlib.Core.Path.{◌≡◌}
use Prim.Native.Nat.{◌+◌, ◌-◌, ◌*◌}
use Rattle.base_text.proofs.Putting.{adds_both}
use Rattle.base_text.proofs.Spelling.{blanked_each}
use Rattle.plan_format.specs.Sizes.{row_width}
use Rattle.print_check.specs.CheckText.{row_text}
use Rattle.print_check.proofs.row.Goals as goal

pub returns : goal.returns
unfolding row_text
returns c =
    let e : row_width * c.args.i + c.args.queues - row_width * c.args.i ≡ c.args.queues = omega arith in
    adds_both
    (adds_both c.number.ensures (adds_both c.byte.ensures (rw (blanked_each _, e) at c.list.ensures)))
    c.byte-2.ensures
