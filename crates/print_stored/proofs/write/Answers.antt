-- `write` meets its contract.
use Rattle.std.proofs.Common.{refl, Ok, Err}
use Rattle.plan_format.specs.Told.{told_by}
use Rattle.stored_numbers.proofs.Fields.{reason_given}
use Rattle.print_stored.proofs.Answering.{write_refused, write_stored, first_of}
use Rattle.print_stored.proofs.write.Goals as goal

pub returns-in-Ok : goal.returns-in-Ok
returns-in-Ok c =
    let e = first_of c.args.n c.args.numbers.now c.min.ensures in
    write_stored _ _ _ (told_by (Ok c.in-Ok.length)) (rw e at c.in-Ok.ensures.says) refl

pub returns-in-Err : goal.returns-in-Err
returns-in-Err c =
    let e = first_of c.args.n c.args.numbers.now c.min.ensures in
    let k = write_refused _ _ _ (told_by (Err c.in-Err.refusal)) (rw e at c.in-Err.ensures.says)
    (reason_given c.in-Err.refusal.reason) in
    rw (← k.1, ← k.0) (rw c.number.ensures at c.refused.ensures)
