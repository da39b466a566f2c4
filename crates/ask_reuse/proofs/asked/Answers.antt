-- `asked` hands on the check's refusal, or what `answer` says of a plan that passes. Assumes nothing.
use mathlib.Core.Path.{refl}
use Rattle.check_plan.proofs.Told.{refusal_given}
use Rattle.ask_reuse.proofs.asked.Goals as goal

pub returns-in-Err : goal.returns-in-Err
returns-in-Err c =
    rw (c.in-Err.is, c.forwarded.ensures, c.number.ensures)
    (record { refused = λ _. refl; answered = λ z. absurd (refusal_given c.in-Err.e z) })

pub returns : goal.returns
returns c =
    rw c.in_default.is (record { refused = λ bad. absurd (bad refl); answered = λ _. c.answer.ensures })
