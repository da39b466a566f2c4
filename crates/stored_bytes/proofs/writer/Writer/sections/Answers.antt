-- `sections` meets its contract: the sections one after the other, or the first one refused.
use Rattle.std.proofs.Common.{rules, ◌≡◌, Err}
use Rattle.stored_bytes.specs.Writing.{listed_with}
use Rattle.stored_bytes.proofs.Plans.{no_axes, no_owners, no_sizes, four_sections}
use Rattle.stored_bytes.proofs.writer.Writer.sections.Goals as goal

pub returns-in_err-queues-clause-wrote : goal.returns-in_err-queues-clause-wrote
returns-in_err-queues-clause-wrote g c =
    let e : c.from_residual.result ≡ Err c.in_err-queues.field-0.0 = search rules in
    rw e (no_axes (listed_with g.row.WIDTH c.args.most) _ c.requires.first c.in_err-queues.ensures.wrote)

pub returns-in_err-semaphores-clause-wrote : goal.returns-in_err-semaphores-clause-wrote
returns-in_err-semaphores-clause-wrote g c =
    let e : c.from_residual-in_err-semaphores.result ≡ Err c.in_err-semaphores.field-0.0 = search rules in
    rw e (no_owners (listed_with g.row.WIDTH c.args.most) _ c.requires.first c.in_ok-queues.ensures.wrote
    c.in_ok-queues.ensures.count c.in_err-semaphores.ensures.wrote)

pub returns-in_err-buffers-clause-wrote : goal.returns-in_err-buffers-clause-wrote
returns-in_err-buffers-clause-wrote g c =
    let e : c.from_residual-in_err-buffers.result ≡ Err c.in_err-buffers.field-0.0 = search rules in
    rw e (no_sizes (listed_with g.row.WIDTH c.args.most) _ c.requires.first c.in_ok-queues.ensures.wrote
    c.in_ok-queues.ensures.count c.in_ok-semaphores.ensures.wrote c.in_ok-semaphores.ensures.count
    c.in_err-buffers.ensures.wrote)

pub returns-clause-wrote : goal.returns-clause-wrote
returns-clause-wrote g c =
    four_sections (listed_with g.row.WIDTH c.args.most) _ c.requires.first c.in_ok-queues.ensures.wrote
    c.in_ok-queues.ensures.count c.in_ok-semaphores.ensures.wrote c.in_ok-semaphores.ensures.count
    c.in_ok-buffers.ensures.wrote c.in_ok-buffers.ensures.count c.operations.ensures.wrote
