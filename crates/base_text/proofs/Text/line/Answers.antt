-- `line` meets its contract.
use Rattle.base_text.specs.Text.{spaced}
use Rattle.base_text.proofs.Putting.{adds_none, adds_both}
use Rattle.base_text.proofs.Spelling.{spaced_none, blanked_each}
use Rattle.base_text.proofs.Text.line.Goals as goal

pub returns-in-Some : goal.returns-in-Some
unfolding spaced
returns-in-Some c =
    rw c.in-Some.ensures.cases.0 (adds_both c.number.ensures (rw (blanked_each c.in-Some.rest.now) at c.list.ensures))

pub returns-in_default : goal.returns-in_default
returns-in_default c = rw (spaced_none c.args.numbers.now c.in_default.ensures.cases) (adds_none _)
