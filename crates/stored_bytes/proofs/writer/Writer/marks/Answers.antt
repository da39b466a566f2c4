-- `marks` meets its contract: after k turns, k marks are written.
use Rattle.std.proofs.Common.{rules, ◌≡◌, ◌∙◌, refl, Err, arith}
use Rattle.plan_format.specs.Sizes.{most_marks}
use Rattle.plan_format.specs.Sections.{mark_below}
use Rattle.stored_bytes.proofs.Writers.{wrote_none, wrote_more, wrote_counted, wrote_uncounted}
use Rattle.stored_bytes.proofs.Writers.{wrote_stopped, wrote_ok, room_left}
use Rattle.stored_bytes.proofs.writer.Writer.marks.Goals as goal

pub returns-in_err-count-clause-wrote : goal.returns-in_err-count-clause-wrote
returns-in_err-count-clause-wrote c =
    let e : c.from_residual.result ≡ Err c.in_err-count.field-0.0 = search rules in
    rw e (wrote_uncounted (mark_below c.args.buffers) 3 c.in_err-count.ensures.wrote)

pub loop-k-init : goal.loop-k-init
loop-k-init c = (wrote_none (mark_below c.args.buffers) 3 _ (search rules), search rules)

pub mark-requires-clause-room : goal.mark-requires-clause-room
mark-requires-clause-room c =
    room_left (mark_below c.args.buffers) 3 most_marks c.requires.room c.in_ok-count.ensures.wrote
    c.loop-k.invariant.0 c.loop-k-test.true

pub returns-in_err-mark-clause-wrote : goal.returns-in_err-mark-clause-wrote
returns-in_err-mark-clause-wrote c =
    let e : c.from_residual-in_err-mark.result ≡ Err c.in_err-mark.field-0.0 = search rules in
    rw e (wrote_counted 3 c.in_ok-count.ensures.wrote c.in_ok-count.count refl
    (wrote_stopped (mark_below c.args.buffers) c.loop-k._k c.loop-k-test.true c.loop-k.invariant.0
    c.in_err-mark.ensures.wrote))

pub loop-k-preserved : goal.loop-k-preserved
loop-k-preserved c = (
  wrote_ok (tt {0}) (wrote_more c.loop-k._k c.loop-k.invariant.0 c.in_ok-mark.ensures.wrote),
  c.in_ok-mark.ensures.same_array ∙ c.loop-k.invariant.1,
)

pub returns-clause-wrote : goal.returns-clause-wrote
returns-clause-wrote c =
    wrote_ok (tt {0}) (wrote_counted 3 c.in_ok-count.ensures.wrote c.loop-k._k (omega arith) c.loop-k.invariant.0)
