-- `points` meets its contract: after k turns, k points are written.
use Rattle.std.proofs.Common.{rules, ◌≡◌, ◌∙◌, refl, Err, arith}
use Rattle.plan_format.specs.Sections.{point_below}
use Rattle.stored_bytes.specs.Writing.{point_most}
use Rattle.stored_bytes.proofs.Writers.{wrote_none, wrote_more, wrote_counted, wrote_uncounted}
use Rattle.stored_bytes.proofs.Writers.{wrote_stopped, wrote_ok, room_left}
use Rattle.stored_bytes.proofs.writer.Writer.points.Goals as goal

pub returns-in_err-count-clause-wrote : goal.returns-in_err-count-clause-wrote
returns-in_err-count-clause-wrote g c =
    let e : c.from_residual.result ≡ Err c.in_err-count.field-0.0 = search rules in
    rw e (wrote_uncounted (point_below g.row.WIDTH c.args.semaphores c.args.least) point_most
    c.in_err-count.ensures.wrote)

pub loop-k-init : goal.loop-k-init
loop-k-init g c = (
  wrote_none (point_below g.row.WIDTH c.args.semaphores c.args.least) point_most _ (search rules),
  search rules,
)

pub point-requires-clause-room : goal.point-requires-clause-room
point-requires-clause-room g c =
    room_left (point_below g.row.WIDTH c.args.semaphores c.args.least) point_most c.args.most c.requires.room
    c.in_ok-count.ensures.wrote c.loop-k.invariant.0 c.loop-k-test.true

pub returns-in_err-point-clause-wrote : goal.returns-in_err-point-clause-wrote
returns-in_err-point-clause-wrote g c =
    let e : c.from_residual-in_err-point.result ≡ Err c.in_err-point.field-0.0 = search rules in
    rw e (wrote_counted point_most c.in_ok-count.ensures.wrote c.in_ok-count.count refl
    (wrote_stopped (point_below g.row.WIDTH c.args.semaphores c.args.least) c.loop-k._k c.loop-k-test.true
    c.loop-k.invariant.0
    c.in_err-point.ensures.wrote))

pub loop-k-preserved : goal.loop-k-preserved
loop-k-preserved g c = (
  wrote_ok (tt {0}) (wrote_more c.loop-k._k c.loop-k.invariant.0 c.in_ok-point.ensures.wrote),
  c.in_ok-point.ensures.same_array ∙ c.loop-k.invariant.1,
)

pub returns-clause-wrote : goal.returns-clause-wrote
returns-clause-wrote g c =
    wrote_ok (tt {0}) (wrote_counted point_most c.in_ok-count.ensures.wrote c.loop-k._k (omega arith)
    c.loop-k.invariant.0)
