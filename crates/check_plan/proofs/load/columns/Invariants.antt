-- `load::columns` meets its contract: operation after operation is read and stored, to the first refusal or to the
-- end. Assumes nothing.
use mathlib.Core.Path.{◌≡◌}
use mathlib.Core.List.{List}
use Prim.Native.Nat.{ℕ, ◌*◌, ◌≤◌}
use lib.ListN.{length}
use Rattle.std.specs.Prelude.{Ok}
use Rattle.plan_format.specs.Form.{width_by}
use Rattle.plan_format.specs.Sizes.{most_operations}
use Rattle.check_columns.specs.Columns.{columns}
use Rattle.check_columns.specs.Shown.{PlacesFor}
use Rattle.stored_numbers.specs.Reading.{head_told}
use Rattle.check_load.specs.Loading.{HeadKnown}
use Rattle.check_load.proofs.Loading.{Load}
use Rattle.check_plan.proofs.load.columns.Given as goal

abbrev pub invariant-loop-i : goal.invariant-loop-i
invariant-loop-i l =
    (l.many ≡ l.h.operations) × (l.many ≤ most_operations) × (l.i ≤ l.many) × (l.signals ≤ 3 * l.i) ×
    (l.marks ≤ 7 * l.i)
    × ((nums : List ℕ) → HeadKnown l.plan l.h nums → Load (width_by l.h.wide) l.plan (head_told (Ok l.h)) nums
    (columns l.initial.queue l.initial.wsem l.initial.wval l.initial.ssem l.initial.sval l.initial.sop l.initial.mark
    l.initial.mop) (columns l.queue l.wsem l.wval l.ssem l.sval l.sop l.mark l.mop)
    l.i l.at l.signals l.marks) ×
    PlacesFor l.h.operations (columns l.initial.queue l.initial.wsem l.initial.wval l.initial.ssem l.initial.sval
    l.initial.sop l.initial.mark l.initial.mop)
    × (length l.wval ≡ length l.initial.wval) × (length l.ssem ≡ length l.initial.ssem) ×
    (length l.sval ≡ length l.initial.sval)
    × (length l.sop ≡ length l.initial.sop) × (length l.mark ≡ length l.initial.mark) ×
    (length l.mop ≡ length l.initial.mop)
