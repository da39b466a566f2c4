-- `merge::merge` gives the largest cell of each column and the unit's: the invariant says so of the columns passed.
-- Assumes nothing.
use mathlib.Core.Path.{◌≡◌, refl, ◌∙◌}
use Prim.Native.Nat.{ℕ, ◌+◌, ◌-◌, ◌%◌}
use native.Mathlib.Omega.{arith}
use lib.ListN.{get_or, take, drop, length-set}
use Rattle.std.proofs.lemmas.List.{get_or-take, get_or-drop}
use Rattle.check_run.specs.Merge.{largest}
use Rattle.check_run.proofs.Merges.{merged_is, merged_more}
use Rattle.check_run.proofs.merge.merge.Goals as goal

pub loop-k-preserved : goal.loop-k-preserved
loop-k-preserved c =
    let f : ℕ → ℕ =
    λ m.
    (largest c.args.rows.now c.args.a c.args.b c.args.c c.args.d m + get_or c.args.unit.now (16 - c.args.q + m) 0)
    % 65536 in
    let own : get_or (take (32 - (16 - c.args.q)) (drop (16 - c.args.q) c.args.unit.now)) c.loop-k.k 0
    ≡ get_or c.args.unit.now (16 - c.args.q + c.loop-k.k) 0 =
    get_or-take (32 - (16 - c.args.q)) (drop (16 - c.args.q) c.args.unit.now) c.loop-k.k 0 (omega arith)
    ∙ get_or-drop (16 - c.args.q) c.args.unit.now c.loop-k.k 0 in (
      omega arith,
      simp length-set c.loop-k.invariant.1,
      merged_more f c.loop-k.row c.loop-k.k c.sum.result _ c.loop-k.invariant.1 (omega arith)
          c.loop-k.invariant.2
          (merged_is _ _ _ _ _ _ _ _ _ _ _ c.higher-ab.ensures c.higher-cd.ensures c.max.ensures
          (rw own at c.sum.ensures)) refl,
    )
