-- `answer` refuses the operation, then the capacity, too low or too high, and else sends the row. Assumes nothing.
use mathlib.Core.Logic.{inl, inr}
use Rattle.ask_frontier.proofs.SentCalls.{operation_refused, capacity_refused, frontier_sent}
use Rattle.ask_frontier.proofs.answer.Goals as goal

pub returns-then-c-j : goal.returns-then-c-j
returns-then-c-j c = λ p o. operation_refused o _ _ c.if-c-j.true c.refused.ensures

pub returns-then-capacity-lt-LEAST : goal.returns-then-capacity-lt-LEAST
returns-then-capacity-lt-LEAST c =
    λ p o. capacity_refused o _ _ c.if-c-j.false
    (inl c.if-capacity-lt-LEAST.true) c.refused-then-capacity-lt-LEAST.ensures

pub returns-then-capacity-gt-MOST : goal.returns-then-capacity-gt-MOST
returns-then-capacity-gt-MOST c =
    λ p o. capacity_refused o _ _ c.if-c-j.false (inr c.if-capacity-gt-MOST.true)
    c.refused-then-capacity-gt-MOST.ensures

pub returns : goal.returns
returns c =
    λ p o. frontier_sent o _ _ c.if-c-j.false c.if-capacity-lt-LEAST.false
    c.if-capacity-gt-MOST.false c.min.ensures c.send-frontier.ensures
