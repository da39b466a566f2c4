-- `refusal` gives the check's refusal, then that of the room, then that of the trace. Assumes nothing.
use mathlib.Core.Path.{refl, sym, ◌∙◌}
use Rattle.std.specs.Prelude.{Err}
use Rattle.check_plan.specs.Counting.{outcome_told}
use Rattle.check_plan.proofs.Told.{refusal_given}
use Rattle.ask_trace.proofs.Refusals.{check_tells, short_tells, ill_tells, none_tells}
use Rattle.ask_trace.proofs.refusal.Goals as goal

pub returns-in-Err : goal.returns-in-Err
returns-in-Err c =
    rw (c.in-Err.is, c.forwarded.ensures, c.number.ensures)
    (check_tells (outcome_told (Err c.in-Err.e)) _ _ (refusal_given c.in-Err.e))

pub returns-then-room-lt-STATE_SIZE : goal.returns-then-room-lt-STATE_SIZE
returns-then-room-lt-STATE_SIZE c =
    rw c.in_default.is (short_tells _ _ _ refl _ c.if-room-lt-STATE_SIZE.true c.refused.ensures)

pub returns-then-formed : goal.returns-then-formed
returns-then-formed c =
    rw c.in_default.is
    (none_tells _ _ _ refl c.if-room-lt-STATE_SIZE.false _ (sym c.formed.ensures ∙ c.if-formed.true)
    c.answered.ensures)

pub returns : goal.returns
returns c =
    rw c.in_default.is
    (ill_tells _ _ _ refl c.if-room-lt-STATE_SIZE.false _ (sym c.formed.ensures ∙ c.if-formed.false)
    c.refused-2.ensures)
