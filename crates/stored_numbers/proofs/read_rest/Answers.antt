-- `read_rest` meets its contract: the head's numbers are copied, the operations are read after them, and so it ends.
-- Assumes nothing.
use Rattle.std.proofs.Common.{refl, arith}
use Rattle.std.specs.Prelude.{Ok, Err}
use Rattle.plan_format.specs.Form.{width_by}
use Rattle.stored_numbers.specs.Reading.{head_told_by, is_wide}
use Rattle.stored_numbers.proofs.Heads.{stays_refused}
use Rattle.stored_numbers.proofs.ReadingEnds.{ends_refused}
use Rattle.stored_numbers.proofs.Rests.{rest_told, rest_few, told_on}
use Rattle.stored_numbers.proofs.read_rest.Goals as goal

pub returns-in-Err-clause-told : goal.returns-in-Err-clause-told
returns-in-Err-clause-told g c =
    let z = g.met.R.Why.given c.in-Err.stop.reason in
    let law =
    rest_told (width_by (is_wide (Err c.in-Err.stop))) c.args.plan.now c.args.front.now c.args.numbers.now c.args.at
    (head_told_by g.R.Why.number (Err c.in-Err.stop)) c.min-place.ensures c.min.ensures refl c.copy.ensures
    (omega arith) (omega arith) (omega arith) (stays_refused _ _ _ _ _ z (omega arith)) in
    rw c.in-Err.is (law.0 _ (λ nums l. ends_refused _ _ nums z))

pub returns-in-Err-clause-array : goal.returns-in-Err-clause-array
returns-in-Err-clause-array g c =
    let z = g.met.R.Why.given c.in-Err.stop.reason in
    let law =
    rest_told (width_by (is_wide (Err c.in-Err.stop))) c.args.plan.now c.args.front.now c.args.numbers.now c.args.at
    (head_told_by g.R.Why.number (Err c.in-Err.stop)) c.min-place.ensures c.min.ensures refl c.copy.ensures
    (omega arith) (omega arith) (omega arith) (stays_refused _ _ _ _ _ z (omega arith)) in
    rw c.in-Err.is law.1

pub returns-in_err-finished-clause-told : goal.returns-in_err-finished-clause-told
returns-in_err-finished-clause-told g c =
    let law =
    rest_told (width_by c.in-Ok.h.wide) c.args.plan.now c.args.front.now c.args.numbers.now c.args.at
    (head_told_by g.R.Why.number (Ok c.in-Ok.h)) c.min-place.ensures c.min-before.ensures c.min-many.ensures
    c.copy-2.ensures (omega arith) (omega arith) (omega arith) c.several-read.ensures.reads.reads in
    let told = told_on g.R.Why.number c.from_residual.result c.in_err-finished.field-0.0 c.from_residual.ensures.1 in
    rw (c.in-Ok.is, told) (law.0 _ c.in_err-finished.ensures)

pub returns-in_err-finished-clause-array : goal.returns-in_err-finished-clause-array
returns-in_err-finished-clause-array g c =
    let law =
    rest_told (width_by c.in-Ok.h.wide) c.args.plan.now c.args.front.now c.args.numbers.now c.args.at
    (head_told_by g.R.Why.number (Ok c.in-Ok.h)) c.min-place.ensures c.min-before.ensures c.min-many.ensures
    c.copy-2.ensures (omega arith) (omega arith) (omega arith) c.several-read.ensures.reads.reads in
    rw c.in-Ok.is law.1

pub returns-clause-told : goal.returns-clause-told
returns-clause-told g c =
    let law =
    rest_told (width_by c.in-Ok.h.wide) c.args.plan.now c.args.front.now c.args.numbers.now c.args.at
    (head_told_by g.R.Why.number (Ok c.in-Ok.h)) c.min-place.ensures c.min-before.ensures c.min-many.ensures
    c.copy-2.ensures (omega arith) (omega arith) (omega arith) c.several-read.ensures.reads.reads in
    rw c.in-Ok.is (law.0 _ c.in_ok-finished.ensures)

pub returns-clause-array : goal.returns-clause-array
returns-clause-array g c =
    let law =
    rest_told (width_by c.in-Ok.h.wide) c.args.plan.now c.args.front.now c.args.numbers.now c.args.at
    (head_told_by g.R.Why.number (Ok c.in-Ok.h)) c.min-place.ensures c.min-before.ensures c.min-many.ensures
    c.copy-2.ensures (omega arith) (omega arith) (omega arith) c.several-read.ensures.reads.reads in
    rw c.in-Ok.is law.1

pub returns-clause-few : goal.returns-clause-few
returns-clause-few g c =
    let law =
    rest_told (width_by c.in-Ok.h.wide) c.args.plan.now c.args.front.now c.args.numbers.now c.args.at
    (head_told_by g.R.Why.number (Ok c.in-Ok.h)) c.min-place.ensures c.min-before.ensures c.min-many.ensures
    c.copy-2.ensures (omega arith) (omega arith) (omega arith) c.several-read.ensures.reads.reads in
    rest_few (width_by c.in-Ok.h.wide) c.args.plan.now c.args.front.now c.args.numbers.now c.args.at
    (head_told_by g.R.Why.number (Ok c.in-Ok.h)) c.min-place.ensures c.min-before.ensures c.min-many.ensures
    c.copy-2.ensures (omega arith) (omega arith) (omega arith) c.several-read.ensures.reads.reads _
    (law.0 _ c.in_ok-finished.ensures)
