-- `answer` refuses the queue, then the buffer, and else advises by the verdict. Assumes nothing.
use Rattle.ask_suggest.proofs.SuggestAsked.{no_queue, no_buffer, fresh, reusable, held, by_signal}
use Rattle.ask_suggest.proofs.answer.Goals as goal

pub returns-then-c-q : goal.returns-then-c-q
returns-then-c-q c = λ p o. no_queue o _ _ c.if-c-q.true c.refused.ensures

pub returns-then-c-b : goal.returns-then-c-b
returns-then-c-b c =
    λ p o. no_buffer o _ _ c.if-c-q.false c.if-c-b.true c.refused-then-c-b.ensures

pub returns-in-Fresh : goal.returns-in-Fresh
returns-in-Fresh c =
    λ p o. fresh o _ _ c.if-c-q.false c.if-c-b.false
    (c.judge-j.ensures.of_plans p)
    c.in-Fresh.is c.advised.ensures

pub returns-in-Reusable : goal.returns-in-Reusable
returns-in-Reusable c =
    λ p o. reusable o _ _ c.if-c-q.false c.if-c-b.false
    (c.judge-j.ensures.of_plans p)
    c.in-Reusable.is c.advised-in-Reusable.ensures

pub returns-in-Held : goal.returns-in-Held
returns-in-Held c =
    λ p o. held o _ _ c.if-c-q.false c.if-c-b.false
    (c.judge-j.ensures.of_plans p)
    c.in-Held.is c.advised-in-Held.ensures

pub returns-in-NotOrdered : goal.returns-in-NotOrdered
returns-in-NotOrdered c =
    λ p o. by_signal o _ _ c.if-c-q.false c.if-c-b.false
    (c.judge-j.ensures.of_plans p)
    c.in-NotOrdered.is c.unwrap_or.ensures c.by_signals.ensures
