-- `points` meets its contract: a count, and so many points, or the first thing refused.
use Rattle.std.proofs.Common.{rules, ◌≡◌, arith}
use Rattle.std.specs.Prelude.{Err}
use Rattle.plan_format.specs.Sections.{point_below}
use Rattle.stored_numbers.proofs.Cursors.{none_read, more_reads, stopped_reads, count_then, count_refused}
use Rattle.stored_numbers.proofs.reader.Reader.points.Goals as goal

pub returns-in_err-count : goal.returns-in_err-count
returns-in_err-count g c =
    let gone : c.from_residual.result ≡ Err c.in_err-count.field-0.0 = search rules in
    count_refused 0 c.args.most 1 (point_below g.row.WIDTH c.args.semaphores c.args.least) 2 gone
    c.in_err-count.ensures

pub loop-k-init : goal.loop-k-init
loop-k-init g c =
    none_read (point_below g.row.WIDTH c.args.semaphores c.args.least) 2 _

pub returns-in_err-point : goal.returns-in_err-point
returns-in_err-point g c =
    let gone : c.from_residual-in_err-point.result ≡ Err c.in_err-point.field-0.0 = search rules in
    let one = point_below g.row.WIDTH c.args.semaphores c.args.least in
    count_then 0 c.args.most 1 one 2 c.in_ok-count.ensures
    (stopped_reads gone one 2 c.loop-k._k _ (omega arith) c.loop-k.invariant c.in_err-point.ensures)

pub loop-k-preserved : goal.loop-k-preserved
loop-k-preserved g c =
    more_reads c.loop-k._k c.loop-k.invariant c.in_ok-point.ensures

pub returns : goal.returns
returns g c =
    let all : c.loop-k._k ≡ c.in_ok-count.count = omega arith in
    count_then 0 c.args.most 1 (point_below g.row.WIDTH c.args.semaphores c.args.least) 2 c.in_ok-count.ensures
    (rw all at c.loop-k.invariant)
