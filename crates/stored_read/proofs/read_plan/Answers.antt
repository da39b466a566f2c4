-- `read_plan` meets its contract: the plan in the first form, or in either.
use Rattle.std.proofs.Common.{sym, ◌∙◌}
use Rattle.stored_read.proofs.ReadRoom.{both}
use Rattle.stored_read.proofs.read_plan.Goals as goal

pub returns-then-is_second-clause-says : goal.returns-then-is_second-clause-says
returns-then-is_second-clause-says c =
    (both c.args.plan.now c.type_inv.plan _ _ _ c.read_either.ensures).0

pub returns-then-is_second-clause-means : goal.returns-then-is_second-clause-means
returns-then-is_second-clause-means c =
    (both c.args.plan.now c.type_inv.plan _ _ _ c.read_either.ensures).1

pub read_first-requires : goal.read_first-requires
read_first-requires c =
    sym c.is_second.ensures ∙ c.if-is_second.false

pub returns-clause-says : goal.returns-clause-says
returns-clause-says c =
    (both c.args.plan.now c.type_inv.plan _ _ _ c.read_first.ensures).0

pub returns-clause-means : goal.returns-clause-means
returns-clause-means c =
    (both c.args.plan.now c.type_inv.plan _ _ _ c.read_first.ensures).1
