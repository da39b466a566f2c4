-- `answer` refuses the queue, then the buffer, and else gives the verdict's number. Assumes nothing.
use mathlib.Core.Path.{ap, ◌∙◌}
use Rattle.plan_order.specs.Reuse.{number_of}
use Rattle.ask_reuse.proofs.ReuseAsked.{buffer_known, no_queue, no_buffer, answered}
use Rattle.ask_reuse.proofs.answer.Goals as goal

pub returns-then-c-q : goal.returns-then-c-q
returns-then-c-q c = λ p o. rw c.refused.ensures (no_queue o _ _ c.if-c-q.true)

pub returns-then-c-b : goal.returns-then-c-b
returns-then-c-b c =
    λ p o. rw c.refused-then-c-b.ensures (no_buffer o _ _ c.if-c-q.false c.if-c-b.true)

pub returns : goal.returns
returns c =
    rw c.answered.ensures
    (λ p o. let known = buffer_known o c.if-c-b.false in
    answered o _ _ c.if-c-q.false c.if-c-b.false
    (c.number_of.ensures ∙ ap number_of (c.judge-j.ensures.of_plans p known o.shown).verdict))
