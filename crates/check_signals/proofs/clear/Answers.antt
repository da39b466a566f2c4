-- `check_signals::clear` fills as many places as there are. Assumes nothing.
use Rattle.std.proofs.Common.{rules, ◌≡◌, ℕ, ◌++◌}
use mathlib.Core.Path.{◌∙◌}
use lib.ListN.{drop, replicate}
use Rattle.check_signals.proofs.Clearing.{cleared_filled}
use Rattle.check_signals.proofs.clear.Goals as goal

pub returns : goal.returns
returns c =
    let own = c.min-own.result in
    let last = c.args.last.now in
    let filled : c.fill.new.self ++ drop own last ≡ replicate {A = ℕ} own 0 ++ drop own last = search rules in
    filled ∙ rw c.min-own.ensures (cleared_filled c.args.semaphores last)
