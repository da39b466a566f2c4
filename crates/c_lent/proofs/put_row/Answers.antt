-- `put_row` meets its contract: the numbers before the row, the row, and those after it. Assumes nothing.
use mathlib.Core.Path.{◌≡◌, refl}
use mathlib.Core.List.{append_assoc}
use Prim.Native.Nat.{◌+◌, ◌-◌}
use native.Mathlib.Omega.{arith}
use lib.Seq.{sets-eq, drop-drop}
use Rattle.c_lent.proofs.put_row.Goals as goal

pub returns : goal.returns
returns c =
    let e : c.args.«at» + 16 - c.args.«at» ≡ 16 = omega arith in
    rw (
      e,
      sets-eq c.args.row.now c.args.numbers.now c.args.«at» (omega (arith, c.requires)),
      c.copy_from_slice.ensures.after,
    )
    (rw (c.requires.0, drop-drop, append_assoc) refl)
