-- `decide::check_order` meets its contract: 9, or the run, the judgement of it, and what is left. Assumes nothing.
use mathlib.Core.Path.{◌≡◌, refl}
use borrow.Author.Rules.{rules}
use Rattle.std.specs.Prelude.{Err}
use Rattle.check_passes.specs.Leaving.{ResultsRoom}
use Rattle.check_passes.proofs.Results.{reason_given}
use Rattle.check_passes.proofs.Untouched.{no_room, has_room}
use Rattle.check_passes.proofs.AnyColumns.{answers_over, answers_first, answers_run}
use Rattle.check_passes.proofs.Columns.{order_sound, order_few, run_given, judge_given}
use Rattle.check_passes.proofs.Orders.{order_says}
use Rattle.check_run.proofs.Ends.{cleared}
use native.Mathlib.Omega.{arith}
use Rattle.check_passes.proofs.decide.check_order.Goals as goal

pub returns-in_err-room : goal.returns-in_err-room
returns-in_err-room c =
    let same : c.from_residual.result ≡ Err c.in_err-room.field-0.0 = search rules in
    let given_is = reason_given c.in_err-room.field-0.0.reason in
    rw same (record {
      answers = answers_first c.in_err-room.ensures given_is;
      of_plans = λ p given. no_room p _ _ _ _ given.many given.rules c.in_err-room.ensures given_is;
    })

pub returns-then-n-gt-MOST : goal.returns-then-n-gt-MOST
returns-then-n-gt-MOST c =
    record {
      answers = answers_over c.in_ok-room.ensures c.if-n-gt-MOST.true;
      of_plans = λ p given. absurd (omega (arith, order_few given, c.if-n-gt-MOST.true));
    }

pub results-requires : goal.results-requires
results-requires c =
    let fits = has_room _ _ _ c.in_ok-room.ensures refl in
    record { few = c.if-n-gt-MOST.false; in_table = fits.0; in_list = omega (arith, fits.1) }

pub returns : goal.returns
returns c =
    let fits = has_room _ _ _ c.in_ok-room.ensures refl in
    let room : ResultsRoom _ _ _ = record { few = c.if-n-gt-MOST.false; in_table = fits.0; in_list = fits.1 } in
    let left = rw c.is_ok.ensures.value at c.results.ensures in
    record {
      answers = answers_run _ _ _ _ _ room c.run-ran.ensures.bounds c.judge-told.ensures.told left
          c.in_ok-room.ensures refl;
      of_plans = λ p given.
          let ran = c.run-ran.ensures.of_plans p (run_given given) cleared fits.1 in
          order_says p _ (order_sound given) given.many room ran
          (c.judge-told.ensures.of_plans p (judge_given given _ _ ran.many ran.filled)) left;
    }
