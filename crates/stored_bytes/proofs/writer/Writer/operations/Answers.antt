-- `operations` meets its contract: after k turns, k operations are written.
use Rattle.std.proofs.Common.{rules, ◌≡◌, ◌∙◌, refl, Err, arith}
use Rattle.plan_format.specs.Sizes.{block_bytes, most_operations}
use Rattle.plan_format.specs.Sections.{operation_below}
use Rattle.stored_bytes.proofs.Writers.{wrote_none, wrote_more, wrote_counted, wrote_uncounted}
use Rattle.stored_bytes.proofs.Writers.{wrote_stopped, wrote_ok, room_left}
use Rattle.stored_bytes.proofs.writer.Writer.operations.Goals as goal

pub returns-in_err-count-clause-wrote : goal.returns-in_err-count-clause-wrote
returns-in_err-count-clause-wrote g c =
    let e : c.from_residual.result ≡ Err c.in_err-count.field-0.0 = search rules in
    rw e (wrote_uncounted (operation_below g.row.WIDTH c.args.queues c.args.semaphores c.args.buffers) block_bytes
    c.in_err-count.ensures.wrote)

pub loop-k-init : goal.loop-k-init
loop-k-init g c = (
  wrote_none (operation_below g.row.WIDTH c.args.queues c.args.semaphores c.args.buffers) block_bytes
      _ (search rules),
  search rules,
)

pub operation-requires-clause-room : goal.operation-requires-clause-room
operation-requires-clause-room g c =
    room_left (operation_below g.row.WIDTH c.args.queues c.args.semaphores c.args.buffers) block_bytes most_operations
    c.requires.room c.in_ok-count.ensures.wrote c.loop-k.invariant.0 c.loop-k-test.true

pub returns-in_err-operation-clause-wrote : goal.returns-in_err-operation-clause-wrote
returns-in_err-operation-clause-wrote g c =
    let e : c.from_residual-in_err-operation.result ≡ Err c.in_err-operation.field-0.0 = search rules in
    rw e (wrote_counted block_bytes c.in_ok-count.ensures.wrote c.in_ok-count.count refl
    (wrote_stopped (operation_below g.row.WIDTH c.args.queues c.args.semaphores c.args.buffers) c.loop-k._k
    c.loop-k-test.true c.loop-k.invariant.0
    c.in_err-operation.ensures.wrote))

pub loop-k-preserved : goal.loop-k-preserved
loop-k-preserved g c = (
  wrote_ok (tt {0}) (wrote_more c.loop-k._k c.loop-k.invariant.0 c.in_ok-operation.ensures.wrote),
  c.in_ok-operation.ensures.same_array ∙ c.loop-k.invariant.1,
)

pub returns-clause-wrote : goal.returns-clause-wrote
returns-clause-wrote g c =
    wrote_ok (tt {0}) (wrote_counted block_bytes c.in_ok-count.ensures.wrote c.loop-k._k (omega arith)
    c.loop-k.invariant.0)
