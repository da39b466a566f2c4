-- `sizes` meets its contract: after k turns, k sizes are written.
use Rattle.std.proofs.Common.{rules, ◌≡◌, ◌∙◌, refl, Err, arith}
use Rattle.plan_format.specs.Sizes.{most_buffers}
use Rattle.plan_format.specs.Sections.{size_field}
use Rattle.stored_bytes.proofs.Writers.{wrote_none, wrote_more, wrote_counted, wrote_uncounted}
use Rattle.stored_bytes.proofs.Writers.{wrote_stopped, wrote_ok, room_left}
use Rattle.stored_bytes.proofs.writer.Writer.sizes.Goals as goal

pub returns-in_err-count-clause-wrote : goal.returns-in_err-count-clause-wrote
returns-in_err-count-clause-wrote c =
    let e : c.from_residual.result ≡ Err c.in_err-count.field-0.0 = search rules in
    rw e (wrote_uncounted size_field 4 c.in_err-count.ensures.wrote)

pub loop-k-init : goal.loop-k-init
loop-k-init c = (wrote_none size_field 4 _ (search rules), search rules)

pub size-requires : goal.size-requires
size-requires c =
    record {
      room = room_left size_field 4 most_buffers c.requires.room c.in_ok-count.ensures.wrote
          c.loop-k.invariant.0 c.loop-k-test.true;
    }

pub returns-in_err-size-clause-wrote : goal.returns-in_err-size-clause-wrote
returns-in_err-size-clause-wrote c =
    let e : c.from_residual-in_err-size.result ≡ Err c.in_err-size.field-0.0 = search rules in
    rw e (wrote_counted 4 c.in_ok-count.ensures.wrote c.in_ok-count.count refl
    (wrote_stopped size_field c.loop-k._k c.loop-k-test.true c.loop-k.invariant.0
    c.in_err-size.ensures.wrote))

pub loop-k-preserved : goal.loop-k-preserved
loop-k-preserved c = (
  wrote_ok (tt {0}) (wrote_more c.loop-k._k c.loop-k.invariant.0 c.in_ok-size.ensures.wrote),
  c.in_ok-size.ensures.same_array ∙ c.loop-k.invariant.1,
)

pub returns-clause-wrote : goal.returns-clause-wrote
returns-clause-wrote c =
    wrote_ok c.in_ok-count.count (wrote_counted 4 c.in_ok-count.ensures.wrote c.loop-k._k (omega arith)
    c.loop-k.invariant.0)
