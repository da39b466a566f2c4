-- `formed` tests the length as the definition does. Assumes nothing.
use mathlib.Core.Path.{◌∙◌}
use borrow.Author.Tests.{lt-leb}
use Rattle.ask_trace.proofs.Turns.{formed_short, formed_long}
use Rattle.ask_trace.proofs.steps.formed.Goals as goal

pub returns-then-trace-ge-STEP_BYTES : goal.returns-then-trace-ge-STEP_BYTES
returns-then-trace-ge-STEP_BYTES c = formed_long _ _ c.if-trace-ge-STEP_BYTES.true c.word.ensures.0

pub returns-else-trace-ge-STEP_BYTES : goal.returns-else-trace-ge-STEP_BYTES
returns-else-trace-ge-STEP_BYTES c =
    lt-leb _ _ c.if-trace-ge-STEP_BYTES.false ∙ formed_short _ c.if-trace-ge-STEP_BYTES.false
