-- `size` meets its contract: a number is below the limit where it fits its bytes.
use Rattle.std.proofs.Common.{rules, ◌≡◌, Err}
use Rattle.stored_bytes.proofs.Writers.{wrote_ok, wrote_err, wrote_size}
use Rattle.stored_bytes.proofs.writer.Writer.size.Goals as goal

pub returns-in_err-below-clause-wrote : goal.returns-in_err-below-clause-wrote
returns-in_err-below-clause-wrote c =
    let e : c.from_residual.result ≡ Err c.in_err-below.field-0.0 = search rules in
    rw e (wrote_err (wrote_size (c.in_err-below.ensures).wrote))

pub returns-clause-wrote : goal.returns-clause-wrote
returns-clause-wrote c = wrote_ok tt (wrote_size (c.in_ok-below.ensures).wrote)
