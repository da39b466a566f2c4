-- `written` meets its contract: what begins alike is written alike.
use Rattle.print_input.proofs.Inputs.{write_alike}
use lib.ListN.{length, take}
use Rattle.print_input.proofs.written.Goals as goal

pub returns : goal.returns
returns c whole same =
    rw (write_alike whole (take c.args.n c.args.numbers.now) same (length c.args.out.now))
    c.write.ensures
