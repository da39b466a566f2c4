-- `owners` meets its contract: after k turns, k owners are written.
use Rattle.std.proofs.Common.{rules, ◌≡◌, ◌∙◌, refl, Err, arith}
use Rattle.plan_format.specs.Grammar.{field}
use Rattle.plan_format.specs.Sections.{limited}
use Rattle.stored_bytes.proofs.Writers.{wrote_none, wrote_more, wrote_counted, wrote_uncounted, wrote_stopped}
use Rattle.stored_bytes.proofs.Writers.{wrote_ok, room_left, wrote_field}
use Rattle.stored_bytes.proofs.writer.Writer.owners.Goals as goal

pub returns-in_err-count-clause-wrote : goal.returns-in_err-count-clause-wrote
returns-in_err-count-clause-wrote g c =
    let e : c.from_residual.result ≡ Err c.in_err-count.field-0.0 = search rules in
    rw e (wrote_uncounted (field 1 (limited c.args.queues 4)) 1 c.in_err-count.ensures.wrote)

pub loop-k-init : goal.loop-k-init
loop-k-init g c = (wrote_none (field 1 (limited c.args.queues 4)) 1 _ (search rules), search rules)

pub below-requires-in-loop-k-clause-room : goal.below-requires-in-loop-k-clause-room
below-requires-in-loop-k-clause-room g c =
    room_left (field 1 (limited c.args.queues 4)) 1 c.args.most c.requires.room c.in_ok-count.ensures.wrote
    c.loop-k.invariant.0 c.loop-k-test.true

pub returns-in_err-below-clause-wrote : goal.returns-in_err-below-clause-wrote
returns-in_err-below-clause-wrote g c =
    let e : c.from_residual-in_err-below.result ≡ Err c.in_err-below.field-0.0 = search rules in
    rw e (wrote_counted 1 c.in_ok-count.ensures.wrote c.in_ok-count.count refl
    (wrote_stopped (field 1 (limited c.args.queues 4)) c.loop-k._k c.loop-k-test.true c.loop-k.invariant.0
    (wrote_field c.in_err-below.ensures.wrote)))

pub loop-k-preserved : goal.loop-k-preserved
loop-k-preserved g c = (
  wrote_ok (tt {0}) (wrote_more c.loop-k._k c.loop-k.invariant.0 (wrote_field c.in_ok-below.ensures.wrote)),
  c.in_ok-below.ensures.same_array ∙ c.loop-k.invariant.1,
)

pub returns-clause-wrote : goal.returns-clause-wrote
returns-clause-wrote g c =
    wrote_ok c.in_ok-count.count (wrote_counted 1 c.in_ok-count.ensures.wrote c.loop-k._k (omega arith)
    c.loop-k.invariant.0)
