-- `traced` meets its contract: what begins alike is printed alike. Assumes nothing.
use mathlib.Core.Path.{sym, ◌∙◌}
use lib.ListN.{take}
use Rattle.std.proofs.lemmas.List.{take_min}
use Rattle.print_input.proofs.Long.{when_long, when_judged, reads_alike}
use Rattle.print_input.proofs.Traces.{printed_alike}
use Rattle.print_input.proofs.traced.Goals as goal

pub returns-then-is_long : goal.returns-then-is_long
returns-then-is_long c =
    λ plan trace same bytes alike.
    let long = rw (c.min.ensures, take_min c.args.n c.args.plan.now) at c.is_long.ensures in
    when_long (take c.args.n c.args.plan.now) plan same (sym long ∙ c.if-is_long.true) c.say_long.ensures

pub returns : goal.returns
returns c =
    λ plan trace same bytes alike.
    let begun = take c.args.n c.args.plan.now in
    let long = rw (c.min.ensures, take_min c.args.n c.args.plan.now) at c.is_long.ensures in
    let judged = sym long ∙ c.if-is_long.false in
    when_judged begun plan same judged
    (λ _. printed_alike begun plan (take c.args.m c.args.trace.now) trace
    (reads_alike begun plan (sym same) judged) bytes alike _ _ _
    (rw (c.min.ensures, take_min c.args.n c.args.plan.now, c.min-2.ensures, take_min c.args.m c.args.trace.now)
    at c.trace.ensures))
