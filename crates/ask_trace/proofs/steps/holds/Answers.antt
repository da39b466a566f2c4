-- `holds` tests what a wait rests on. Assumes nothing.
use mathlib.Core.Path.{◌∙◌}
use Rattle.ask_trace.proofs.Turns.{wait_unmet_is}
use Rattle.ask_trace.proofs.steps.holds.Goals as goal

pub returns : goal.returns
returns c =
    wait_unmet_is _ _ _ _ _ _ _ _ (c.from-i.ensures ∙ c.get_or.ensures) c.has_run-ran.ensures c.unless.ensures
