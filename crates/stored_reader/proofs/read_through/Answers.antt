-- `read_through` meets its contract: the head is read from the first byte, and the rest from where the head ends.
use Rattle.std.proofs.lemmas.Result.{err_from_is_err_and}
use Rattle.std.specs.Prelude.{Ok}
use Rattle.plan_format.specs.Told.{told_by}
use Rattle.stored_read.proofs.ReadRoom.{rest_reads}
use Rattle.stored_reader.proofs.read_through.Goals as goal

pub returns-in_err-rest : goal.returns-in_err-rest
returns-in_err-rest c =
    let head = rw (c.new-r.ensures.0, c.new-r.ensures.1) at c.head-h.ensures in
    let rest = rw (c.moved.ensures.0, c.moved.ensures.1, c.new-r.ensures.0) at c.in_err-rest.ensures in
    let p = err_from_is_err_and c.from_residual.result c.from_residual.ensures.1 in
    rw (p.1, p.2) (rest_reads c.args.plan.now c.head-h.result head _ c.args.room.now c.rest.new.room rest)

pub returns : goal.returns
returns c =
    let head = rw (c.new-r.ensures.0, c.new-r.ensures.1) at c.head-h.ensures in
    let rest = rw (c.moved.ensures.0, c.moved.ensures.1, c.new-r.ensures.0) at c.in_ok-rest.ensures in
    rest_reads c.args.plan.now c.head-h.result head (told_by (Ok c.in_ok-rest.field-0)) c.args.room.now
    c.rest.new.room rest
