-- `read` meets its contract.
use Rattle.print_stored.proofs.Answering.{read_refused, read_listed, first_of}
use Prim.Native.Nat.{ℕ}
use lib.ListN.{length-replicate}
use Rattle.std.proofs.Common.{arith, rules, refl, Ok, Err}
use Rattle.plan_format.specs.Sizes.{plan_numbers}
use Rattle.plan_format.specs.Told.{told_by}
use Rattle.stored_numbers.proofs.Fields.{reason_given}
use Rattle.base_text.proofs.Putting.{adds_both, lent}
use Rattle.print_stored.proofs.read.Goals as goal

pub returns-in-Err : goal.returns-in-Err
returns-in-Err c =
    let e = c.in-Err.refusal in
    rw (← (read_refused _ _ _ (told_by (Err e)) c.in-Err.ensures.0 (length-replicate {A = ℕ} plan_numbers 0)
    (reason_given e.reason))) (rw c.number.ensures at c.refused.ensures)

pub returns : goal.returns
returns c =
    rw (← (read_listed _ _ _ (told_by (Ok c.in-Ok.length)) c.in-Ok.ensures.0
    (length-replicate {A = ℕ} plan_numbers 0) refl))
    (lent c.new-text.ensures.room_is c.new-text.ensures.none
    (adds_both (rw (first_of {m = c.min-many.result} c.in-Ok.length c.read_through.new.room
    (omega (arith, c.min-many.ensures, c.read_through.auto.room))) at c.line.ensures)
    c.byte.ensures)
    (search rules) (search rules))
