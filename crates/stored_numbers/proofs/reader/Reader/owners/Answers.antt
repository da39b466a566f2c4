-- `owners` meets its contract: a count, and so many of them, or the first thing refused.
use Rattle.std.proofs.Common.{rules, ◌≡◌, arith}
use Rattle.std.specs.Prelude.{Err}
use Rattle.plan_format.specs.Form.{form_by, width_by}
use Rattle.plan_format.specs.Grammar.{field}
use Rattle.plan_format.specs.Sections.{limited}
use Rattle.stored_numbers.proofs.Cursors.{none_read, more_reads, stopped_reads, count_then, count_refused}
use Rattle.stored_numbers.proofs.Cursors.{section_read, section_refused, as_reads}
use Rattle.stored_numbers.proofs.reader.Reader.owners.Goals as goal

pub returns-in_err-count : goal.returns-in_err-count
returns-in_err-count c =
    let gone : c.from_residual.result ≡ Err c.in_err-count.field-0.0 = search rules in
    section_refused gone
    (count_refused (form_by c.args.wide).semaphores_least (form_by c.args.wide).semaphores_most
    (width_by c.args.wide) (field 1 (limited c.args.queues 4)) 1 gone c.in_err-count.ensures)

pub loop-k-init : goal.loop-k-init
loop-k-init c =
    (none_read (field 1 (limited c.args.queues 4)) 1 _, omega arith)

pub returns-in_err-below : goal.returns-in_err-below
returns-in_err-below c =
    let gone : c.from_residual-in_err-below.result ≡ Err c.in_err-below.field-0.0 = search rules in
    section_refused gone
    (count_then (form_by c.args.wide).semaphores_least (form_by c.args.wide).semaphores_most (width_by c.args.wide)
    (field 1 (limited c.args.queues 4)) 1 c.in_ok-count.ensures
    (stopped_reads gone (field 1 (limited c.args.queues 4)) 1 c.loop-k._k _ (omega arith) c.loop-k.invariant.0
    c.in_err-below.ensures.field.reads))

pub loop-k-preserved : goal.loop-k-preserved
loop-k-preserved c = (
  as_reads (more_reads c.loop-k._k c.loop-k.invariant.0 c.in_ok-below.ensures.field.reads),
  omega (arith, c.loop-k.invariant.1, c.in_ok-below.ensures.field.one),
)

pub returns : goal.returns
returns c =
    let all : c.loop-k._k ≡ c.in_ok-count.count = omega arith in
    section_read
    (count_then (form_by c.args.wide).semaphores_least (form_by c.args.wide).semaphores_most (width_by c.args.wide)
    (field 1 (limited c.args.queues 4)) 1 c.in_ok-count.ensures (rw all at c.loop-k.invariant.0))
    (omega (arith, all, c.loop-k.invariant.1, c.in_ok-count.ensures.field.one))
