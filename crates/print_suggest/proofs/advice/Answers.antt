-- `advice` meets its contract: each case has its words.
use Rattle.base_text.proofs.Putting.{adds_both}
use Rattle.print_suggest.specs.Printed.{advice_words}
use Rattle.print_suggest.proofs.advice.Goals as goal

pub returns-in-NoneNeeded : goal.returns-in-NoneNeeded
unfolding advice_words
returns-in-NoneNeeded c = rw c.in-NoneNeeded.is c.words.ensures

pub returns-in-Wait : goal.returns-in-Wait
unfolding advice_words
returns-in-Wait c =
    rw c.in-Wait.is
    (adds_both (adds_both c.words-in-Wait.ensures c.next.ensures) c.next-in-Wait.ensures)

pub returns-in-NoneWouldHelp : goal.returns-in-NoneWouldHelp
unfolding advice_words
returns-in-NoneWouldHelp c = rw c.in-NoneWouldHelp.is c.words-in-NoneWouldHelp.ensures
