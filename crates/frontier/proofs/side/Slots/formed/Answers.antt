-- `formed` meets its contract: what the form of slots tells. Assumes nothing.
use Rattle.std.proofs.Common.{sym, ◌∙◌}
use Rattle.frontier.specs.Frontiers.{entries}
use Rattle.frontier.specs.Sides.{shown}
use Rattle.frontier.proofs.Pack.{formed, all_slots}
use Rattle.frontier.proofs.side.Slots.formed.Goals as goal

pub invariant_of-result : goal.invariant_of-result
unfolding entries
invariant_of-result c =
    let w = sym c.formed.ensures ∙ c.if-not-formed.false in
    record {
      few = (formed (shown c.args.self) w).short;
      sixteen = all_slots (shown c.args.self) w;
      rising = (formed (shown c.args.self) w).rises;
    }
