-- `on_first` meets its contract: what begins alike is answered alike.
use mathlib.Core.Path.{sym, ◌∙◌}
use lib.ListN.{take}
use Rattle.std.proofs.lemmas.List.{take_min}
use Rattle.print_input.proofs.Inputs.{answered_alike}
use Rattle.print_input.proofs.Long.{when_long, when_judged, reads_alike}
use Rattle.print_input.proofs.on_first.Goals as goal

pub returns-then-is_long : goal.returns-then-is_long
returns-then-is_long c whole same =
    let long = rw (c.min.ensures, take_min c.args.n c.args.bytes.now) at c.is_long.ensures in
    when_long (take c.args.n c.args.bytes.now) whole same (sym long ∙ c.if-is_long.true) c.say_long.ensures

pub returns : goal.returns
returns c whole same =
    let begun = take c.args.n c.args.bytes.now in
    let long = rw (c.min.ensures, take_min c.args.n c.args.bytes.now) at c.is_long.ensures in
    let judged = sym long ∙ c.if-is_long.false in
    when_judged begun whole same judged
    (λ _. answered_alike begun whole (reads_alike begun whole (sym same) judged) c.args.question _ _ _
    (rw (c.min.ensures, take_min c.args.n c.args.bytes.now) at c.answered.ensures))
