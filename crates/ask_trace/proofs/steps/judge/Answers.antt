-- `judge` tests the four rules in order. Assumes nothing.
use mathlib.Core.Path.{◌∙◌}
use Rattle.ask_trace.proofs.Turns.{judge_unknown, judge_repeated, judge_late, judge_waits, wait_found, none_found}
use Rattle.ask_trace.proofs.steps.judge.Goals as goal

pub returns-then-n-j : goal.returns-then-n-j
returns-then-n-j c = judge_unknown _ _ _ _ _ _ c.if-n-j.true

pub returns-then-entry-count : goal.returns-then-entry-count
returns-then-entry-count c =
    judge_repeated _ _ _ _ _ _ _ _ c.if-n-j.false c.place.ensures.0 c.own-entry.ensures c.if-entry-count.true

pub returns-then-entry-count-gt1 : goal.returns-then-entry-count-gt1
returns-then-entry-count-gt1 c =
    judge_late _ _ _ _ _ _ _ _ c.if-n-j.false c.place.ensures.0 c.own-entry.ensures c.if-entry-count.false
    c.if-entry-count-gt1.true

pub returns-in-Some : goal.returns-in-Some
returns-in-Some c =
    wait_found _ _ _ (rw c.in-Some.is at c.unmet.ensures)
    ∙ judge_waits _ _ _ _ _ _ _ _ c.if-n-j.false c.place.ensures.0 c.own-entry.ensures c.if-entry-count.false
    c.if-entry-count-gt1.false

pub returns-in-None : goal.returns-in-None
returns-in-None c =
    none_found _ _ (rw c.in-None.is at c.unmet.ensures)
    ∙ judge_waits _ _ _ _ _ _ _ _ c.if-n-j.false c.place.ensures.0 c.own-entry.ensures c.if-entry-count.false
    c.if-entry-count-gt1.false
