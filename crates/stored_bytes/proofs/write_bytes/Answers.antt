-- `write_bytes` meets its contract: a refusal on the way, numbers after the end, or a whole plan.
use Rattle.std.proofs.Common.{rules, ◌≡◌, refl, Err, arith}
use Rattle.stored_bytes.proofs.Writers.{reason_given}
use Rattle.stored_bytes.proofs.WritingEnds.{lead_short, plan_written, written_refused, written_more, written_whole}
use Rattle.stored_bytes.proofs.write_bytes.Goals as goal

pub returns-in_err-plan : goal.returns-in_err-plan
returns-in_err-plan c =
    let e : c.from_residual.result ≡ Err c.in_err-plan.field-0.0 = search rules in
    let p = c.in_err-plan.ensures.wrote in
    rw e (written_refused (plan_written refl c.lead-put.ensures p)
    (omega (arith, p.writes.as_long, c.lead-put.ensures.as_long)) (reason_given c.in_err-plan.field-0.0.reason))

pub returns-then-at-numbers : goal.returns-then-at-numbers
returns-then-at-numbers c =
    let p = c.in_ok-plan.ensures.wrote in
    rw c.at.ensures (written_more (plan_written refl c.lead-put.ensures p)
    (omega (arith, p.writes.as_long, c.lead-put.ensures.as_long)) refl c.if-at-numbers.true)

pub returns : goal.returns
returns c =
    let p = c.in_ok-plan.ensures.wrote in
    written_whole (plan_written refl c.lead-put.ensures p)
    (omega (arith, p.writes.as_long, c.lead-put.ensures.as_long)) refl c.if-at-numbers.false

pub plan-requires-clause-room : goal.plan-requires-clause-room
plan-requires-clause-room c =
    omega (arith, c.lead-put.ensures.long, c.lead-put.ensures.as_long, lead_short c.args.wide)
