-- `read_heading` meets its contract: no bytes past the end, else the part from the place on.
use Rattle.stored_read.proofs.ReadRoom.{heading_past, heading_from}
use Rattle.stored_read.proofs.read_heading.Goals as goal

pub returns-then-plan-at : goal.returns-then-plan-at
returns-then-plan-at c =
    heading_past c.args.plan.now c.type_inv.plan c.args.at
    (record { head = c.read_head-none.result; numbers = c.read_head-none.new.numbers })
    c.if-plan-at.true (c.read_head-none.ensures.form, (c.read_head-none.ensures.told, c.read_head-none.ensures.means))

pub returns : goal.returns
returns c =
    heading_from c.args.plan.now c.type_inv.plan c.args.at
    (record { head = c.read_head-head.result; numbers = c.read_head-head.new.numbers })
    (c.read_head-head.ensures.form, (c.read_head-head.ensures.told, c.read_head-head.ensures.means))
