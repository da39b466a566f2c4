-- `axes` meets its contract: after k turns, k axes are written.
use Rattle.std.proofs.Common.{rules, ◌≡◌, ◌∙◌, refl, Err, arith}
use Rattle.plan_format.specs.Sizes.{most_queues}
use Rattle.plan_format.specs.Sections.{axis_field}
use Rattle.stored_bytes.proofs.Writers.{wrote_none, wrote_more, wrote_counted, wrote_uncounted}
use Rattle.stored_bytes.proofs.Writers.{wrote_stopped, wrote_ok, room_left}
use Rattle.stored_bytes.proofs.writer.Writer.axes.Goals as goal

pub returns-in_err-count-clause-wrote : goal.returns-in_err-count-clause-wrote
returns-in_err-count-clause-wrote c =
    let e : c.from_residual.result ≡ Err c.in_err-count.field-0.0 = search rules in
    rw e (wrote_uncounted axis_field 8 c.in_err-count.ensures.wrote)

pub loop-k-init : goal.loop-k-init
loop-k-init c = (wrote_none axis_field 8 _ (search rules), search rules)

pub axis-requires : goal.axis-requires
axis-requires c =
    record {
      room = room_left axis_field 8 most_queues c.requires.room c.in_ok-count.ensures.wrote
          c.loop-k.invariant.0 c.loop-k-test.true;
    }

pub returns-in_err-axis-clause-wrote : goal.returns-in_err-axis-clause-wrote
returns-in_err-axis-clause-wrote c =
    let e : c.from_residual-in_err-axis.result ≡ Err c.in_err-axis.field-0.0 = search rules in
    rw e (wrote_counted 8 c.in_ok-count.ensures.wrote c.in_ok-count.count refl
    (wrote_stopped axis_field c.loop-k._k c.loop-k-test.true c.loop-k.invariant.0
    c.in_err-axis.ensures.wrote))

pub loop-k-preserved : goal.loop-k-preserved
loop-k-preserved c = (
  wrote_ok (tt {0}) (wrote_more c.loop-k._k c.loop-k.invariant.0 c.in_ok-axis.ensures.wrote),
  c.in_ok-axis.ensures.same_array ∙ c.loop-k.invariant.1,
)

pub returns-clause-wrote : goal.returns-clause-wrote
returns-clause-wrote c =
    wrote_ok c.in_ok-count.count (wrote_counted 8 c.in_ok-count.ensures.wrote c.loop-k._k (omega arith)
    c.loop-k.invariant.0)
