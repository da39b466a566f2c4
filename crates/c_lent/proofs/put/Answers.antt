-- `put` meets its contract: two rows, the length and the taint make all the numbers. Assumes nothing.
use native.Mathlib.Omega.{arith}
use mathlib.Core.Path.{◌≡◌, refl, ap, ◌∙◌}
use mathlib.Core.Bool.{Bool, true, false, cond}
use mathlib.Core.List.{List, [], ◌∷◌, ◌++◌}
use Prim.Native.Nat.{ℕ}
use mir.Val.{bool_byte}
use lib.ListN.{length, set, length-set}
use lib.Seq.{sets, length-sets}
use borrow.Author.Rules.{rules}
use Rattle.c_lent.specs.Lent.{epochs_at, length_at, taint_at, list_of}
use Rattle.c_lent.proofs.Rows.{stored_whole}
use Rattle.c_lent.proofs.put.Goals as goal

byte_of : (t : Bool) → bool_byte t ≡ cond t 1 0
byte_of true = refl
byte_of false = refl

pub bounds-numbers-33 : goal.bounds-numbers-33
bounds-numbers-33 c =
    omega (arith, length-set c.put_row-2.new.numbers length_at c.args.len)

pub shape_of-numbers : goal.shape_of-numbers
shape_of-numbers c =
    length-set (set c.put_row-2.new.numbers length_at c.args.len) taint_at _
    ∙ length-set c.put_row-2.new.numbers length_at c.args.len
    ∙ ap length c.put_row-2.ensures ∙ length-sets c.put_row.new.numbers epochs_at c.args.epochs.now
    ∙ ap length c.put_row.ensures ∙ length-sets c.args.numbers.now 0 c.args.axes.now

pub returns : goal.returns
unfolding list_of
returns c =
    ap (λ (l : List ℕ). set (set l length_at c.args.len) taint_at (bool_byte c.args.tainted)) (c.put_row-2.ensures
    ∙ ap (λ (l : List ℕ). sets l epochs_at c.args.epochs.now) c.put_row.ensures)
    ∙ stored_whole c.args.numbers.now c.args.axes.now c.args.epochs.now
    (c.args.len ∷ bool_byte c.args.tainted ∷ []) epochs_at length_at (search rules) (search rules) (search rules)
    ∙ ap (λ (k : ℕ). c.args.axes.now ++ c.args.epochs.now ++ (c.args.len ∷ k ∷ [])) (byte_of c.args.tainted)
