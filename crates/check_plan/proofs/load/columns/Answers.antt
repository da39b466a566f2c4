-- `load::columns` meets its contract: operation after operation is read and stored, to the first refusal or to the
-- end. Assumes nothing.
use mathlib.Core.Path.{refl}
use native.Mathlib.Omega.{arith}
use borrow.Author.Tests.{eqb-false}
use Rattle.std.proofs.lemmas.Result.{err_from_is_err_and}
use Rattle.stored_numbers.proofs.Fields.{reason_given}
use Rattle.stored_numbers.proofs.ReadingEnds.{read_in_told}
use Rattle.check_load.proofs.Loading.{load_none, load_next, few_more}
use Rattle.check_load.proofs.Outcomes.{load_refused, load_more, load_columns, load_owners, refused_loads}
use Rattle.check_load.proofs.Leaving.{keeps_whole, keeps_refused}
use Rattle.check_plan.proofs.load.columns.Goals as goal

pub loop-i-init : goal.loop-i-init
loop-i-init c = (
  refl,
  c.requires.0,
  omega arith,
  omega arith,
  omega arith,
  (λ nums head. load_none _ _ _ nums _ refl head.read.inside),
  c.requires.1,
  refl,
  refl,
  refl,
  refl,
  refl,
  refl,
)

pub returns-in_err-end : goal.returns-in_err-end
returns-in_err-end c =
    let bad = reason_given c.in_err-end.field-0.0.reason in
    let gone = err_from_is_err_and c.from_residual.result c.from_residual.ensures.1 in
    rw (gone.1, gone.2) (λ nums head. (
      refused_loads
          (load_refused _ (read_in_told _ head.form) _ nums _ head.read (c.loop-i.invariant.5 nums head)
          c.loop-i-test.true _ _ c.in_err-end.ensures.means bad) bad,
      tt,
      keeps_refused _ _ bad (c.loop-i.invariant.5 nums head).kept (omega arith) c.loop-i.invariant.3
          c.loop-i.invariant.4,
    ))

pub overflow_cast-signals : goal.overflow_cast-signals
overflow_cast-signals c =
    let a = c.add-all.ensures.added (
      omega (arith, c.loop-i.invariant.1, c.loop-i-test.true),
      omega (
        arith,
        c.loop-i.invariant.0,
        c.loop-i.invariant.6.wait_values,
        c.loop-i.invariant.7,
        c.loop-i-test.true,
      ),
    ) in
    omega (arith, (few_more a).0, c.loop-i.invariant.1, c.loop-i.invariant.2, c.loop-i.invariant.3)

pub overflow_cast-marks : goal.overflow_cast-marks
overflow_cast-marks c =
    let a = c.add-all.ensures.added (
      omega (arith, c.loop-i.invariant.1, c.loop-i-test.true),
      omega (
        arith,
        c.loop-i.invariant.0,
        c.loop-i.invariant.6.wait_values,
        c.loop-i.invariant.7,
        c.loop-i-test.true,
      ),
    ) in
    omega (arith, (few_more a).1, c.loop-i.invariant.1, c.loop-i.invariant.2, c.loop-i.invariant.4)

pub loop-i-preserved : goal.loop-i-preserved
loop-i-preserved c =
    let a = c.add-all.ensures.added (
      omega (arith, c.loop-i.invariant.1, c.loop-i-test.true),
      omega (
        arith,
        c.loop-i.invariant.0,
        c.loop-i.invariant.6.wait_values,
        c.loop-i.invariant.7,
        c.loop-i-test.true,
      ),
    ) in (
      c.loop-i.invariant.0,
      c.loop-i.invariant.1,
      omega (arith, c.loop-i-test.true),
      omega (arith, (few_more a).0, c.loop-i.invariant.3),
      omega (arith, (few_more a).1, c.loop-i.invariant.4),
      (λ nums head. load_next _ _ _ nums _ (c.loop-i.invariant.5 nums head) c.loop-i-test.true _ _
          c.in_ok-end.ensures.means refl a),
      c.loop-i.invariant.6,
      omega (arith, c.loop-i.invariant.7),
      omega (arith, c.loop-i.invariant.8),
      omega (arith, c.loop-i.invariant.9),
      omega (arith, c.loop-i.invariant.10),
      omega (arith, c.loop-i.invariant.11),
      omega (arith, c.loop-i.invariant.12),
    )

pub returns-then-at-plan : goal.returns-then-at-plan
returns-then-at-plan c =
    let three = eqb-false 3 0 refl in
    rw c.at.ensures
    (λ nums head. (
      refused_loads
          (load_more _ (read_in_told _ head.form) _ nums _ head.read (c.loop-i.invariant.5 nums head)
          c.loop-i-test.false c.loop-i.invariant.2
          c.if-at-plan.true) three,
      tt,
      keeps_refused _ _ three (c.loop-i.invariant.5 nums head).kept c.loop-i.invariant.2 c.loop-i.invariant.3
          c.loop-i.invariant.4,
    ))

pub returns : goal.returns
returns c nums head = (
  load_columns _ (read_in_told _ head.form) _ nums _ head.read (c.loop-i.invariant.5 nums head)
      c.loop-i-test.false c.loop-i.invariant.2 c.if-at-plan.false refl c.loop-i.invariant.6,
  load_owners _ (read_in_told _ head.form) _ nums _ head.read (c.loop-i.invariant.5 nums head)
      c.loop-i-test.false c.loop-i.invariant.2 c.if-at-plan.false refl,
  keeps_whole _ _ refl (c.loop-i.invariant.5 nums head).kept c.loop-i.invariant.2,
)
