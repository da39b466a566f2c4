-- `line` meets its contract: each case has its words. Assumes nothing.
use Rattle.base_text.proofs.Putting.{adds_both}
use Rattle.print_trace.specs.Printed.{followed_text}
use Rattle.print_trace.proofs.line.Goals as goal

pub returns-in-Full : goal.returns-in-Full
unfolding followed_text
returns-in-Full c = rw c.in-Full.is c.words.ensures

pub returns-in-Unfinished : goal.returns-in-Unfinished
unfolding followed_text
returns-in-Unfinished c =
    rw c.in-Unfinished.is
    (adds_both c.words-in-Unfinished.ensures c.next.ensures)

pub returns-in-Unknown : goal.returns-in-Unknown
unfolding followed_text
returns-in-Unknown c =
    rw c.in-Unknown.is c.departs.ensures

pub returns-in-Repeated : goal.returns-in-Repeated
unfolding followed_text
returns-in-Repeated c =
    rw c.in-Repeated.is
    c.departs-in-Repeated.ensures

pub returns-in-NotFirst : goal.returns-in-NotFirst
unfolding followed_text
returns-in-NotFirst c =
    rw c.in-NotFirst.is
    c.departs-in-NotFirst.ensures

pub returns-in-WaitNotMet : goal.returns-in-WaitNotMet
unfolding followed_text
returns-in-WaitNotMet c =
    rw c.in-WaitNotMet.is
    (adds_both c.departs-in-WaitNotMet.ensures c.next-in-WaitNotMet.ensures)
