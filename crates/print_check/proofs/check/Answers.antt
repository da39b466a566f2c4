-- `check` meets its contract.
use Rattle.print_check.proofs.Counts.{few_counts}
use native.Mathlib.Omega.{arith}
use Rattle.print_check.proofs.check.Goals as goal

pub checked-requires : goal.checked-requires
checked-requires c =
    let few = few_counts _ c.check_counted-counted.result.counts c.check_counted-counted.ensures.sizes in (
      record {
        few_operations = few.0;
        few_queues = few.1;
        table_long = omega arith;
      },
      omega arith,
    )

pub returns : goal.returns
returns c =
    record {
      counted = c.check_counted-counted.result;
      table = _;
      list = _;
      checked = c.check_counted-counted.ensures.checked;
      sizes = c.check_counted-counted.ensures.sizes;
      text = c.checked.ensures;
    }
