-- `before_operations` meets its contract: three sections and a count, or the first thing refused.
use Rattle.std.proofs.Common.{rules, ◌≡◌, arith}
use Rattle.std.specs.Prelude.{Err}
use Rattle.plan_format.specs.Form.{form_by}
use Rattle.plan_format.proofs.Forms.{proper_by}
use Rattle.stored_numbers.specs.Reading.{front_numbers}
use Rattle.stored_numbers.proofs.Openings.{opened, axes_refused, owners_refused, sizes_refused, count_over}
use Rattle.stored_numbers.proofs.reader.Reader.before_operations.Goals as goal

pub axes-requires : goal.axes-requires
unfolding front_numbers
axes-requires c =
    omega (arith, c.requires.begins.got, c.requires.room)

pub returns-in_err-queues-clause-reads : goal.returns-in_err-queues-clause-reads
returns-in_err-queues-clause-reads c =
    let gone : c.from_residual.result ≡ Err c.in_err-queues.field-0.0 = search rules in
    axes_refused (form_by c.args.wide) (proper_by c.args.wide).few c.requires.begins c.requires.room gone
    c.in_err-queues.ensures

pub owners-requires : goal.owners-requires
unfolding front_numbers
owners-requires c =
    omega (
      arith,
      c.requires.begins.got,
      c.requires.room,
      c.in_ok-queues.ensures.reads.reads.few,
      c.in_ok-queues.ensures.reads.reads.as_long,
    )

pub returns-in_err-semaphores-clause-reads : goal.returns-in_err-semaphores-clause-reads
returns-in_err-semaphores-clause-reads c =
    let gone : c.from_residual-in_err-semaphores.result ≡ Err c.in_err-semaphores.field-0.0 = search rules in
    owners_refused (form_by c.args.wide) (proper_by c.args.wide).few c.requires.begins c.requires.room gone
    c.in_ok-queues.ensures c.in_err-semaphores.ensures

pub sizes-requires : goal.sizes-requires
unfolding front_numbers
sizes-requires c =
    omega (
      arith,
      c.requires.begins.got,
      c.requires.room,
      c.in_ok-queues.ensures.reads.reads.few,
      c.in_ok-queues.ensures.reads.reads.as_long,
      c.in_ok-semaphores.ensures.reads.reads.few,
      c.in_ok-semaphores.ensures.reads.reads.as_long,
    )

pub returns-in_err-buffers-clause-reads : goal.returns-in_err-buffers-clause-reads
returns-in_err-buffers-clause-reads c =
    let gone : c.from_residual-in_err-buffers.result ≡ Err c.in_err-buffers.field-0.0 = search rules in
    sizes_refused (form_by c.args.wide) (proper_by c.args.wide).few c.requires.begins c.requires.room gone
    c.in_ok-queues.ensures c.in_ok-semaphores.ensures c.in_err-buffers.ensures

pub count-requires-clause-room : goal.count-requires-clause-room
unfolding front_numbers
count-requires-clause-room c =
    omega (
      arith,
      c.requires.begins.got,
      c.requires.room,
      c.in_ok-queues.ensures.reads.reads.few,
      c.in_ok-queues.ensures.reads.reads.as_long,
      c.in_ok-semaphores.ensures.reads.reads.few,
      c.in_ok-semaphores.ensures.reads.reads.as_long,
      c.in_ok-buffers.ensures.reads.reads.few,
      c.in_ok-buffers.ensures.reads.reads.as_long,
    )

pub returns-in_err-operations-clause-reads : goal.returns-in_err-operations-clause-reads
returns-in_err-operations-clause-reads c =
    let gone : c.from_residual-in_err-operations.result ≡ Err c.in_err-operations.field-0.0 = search rules in
    count_over (form_by c.args.wide) (proper_by c.args.wide).few c.requires.begins c.requires.room gone
    c.in_ok-queues.ensures c.in_ok-semaphores.ensures c.in_ok-buffers.ensures c.in_err-operations.ensures

pub returns-clause-reads : goal.returns-clause-reads
returns-clause-reads c =
    opened (form_by c.args.wide) (proper_by c.args.wide).few c.requires.begins c.requires.room
    c.in_ok-queues.ensures c.in_ok-semaphores.ensures c.in_ok-buffers.ensures c.in_ok-operations.ensures
