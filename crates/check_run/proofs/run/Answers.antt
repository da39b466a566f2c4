-- `check_run::run` prepares the pass and takes its steps. Assumes nothing.
use Rattle.check_run.specs.State.{Prepared}
use mathlib.Core.Path.{refl}
use Rattle.check_run.proofs.run.Goals as goal

pub returns : goal.returns
returns c =
    let whole = rw c.from-many.ensures at c.all.ensures in
    let prepared : Prepared _ _ _ _ _ _ _ _ = record {
      chained = c.chain.ensures;
      ran_is = refl;
      looked = c.wake-ready.ensures;
    } in record {
      bounds = whole.bounds _ prepared;
      of_plans = λ p shown cleared room. whole.of_plans p _ shown cleared room prepared;
    }
