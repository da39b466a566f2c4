-- `join` meets its contract: the whole union, or what of it exceeds the bound. Assumes nothing.
use mathlib.Core.Bool.{true}
use borrow.Author.Rules.{rules}
use Rattle.frontier.proofs.Join.{union_rises, join_whole, join_cut}
use Rattle.frontier.proofs.side.Formed.join.Goals as goal

pub returns-then-n-capacity : goal.returns-then-n-capacity
returns-then-n-capacity c =
    join_whole _ _ _ _ _ _ _ c.unite-n.ensures.2 c.unite-n.ensures.1 c.if-n-capacity.true

pub bound_of-bound-requires : goal.bound_of-bound-requires
bound_of-bound-requires c =
    record {
      len_in_bounds = (
        search rules,
        search rules,
        union_rises _ _ _ _ _ 0 true c.unite-n.ensures.2 c.args.self.rising c.args.other.rising,
      );
      le_capacity = (search rules, search rules);
    }

pub returns : goal.returns
returns c =
    join_cut _ _ _ _ _ _ _ c.unite-n.ensures.2 _ _ _ _ c.if-n-capacity.false c.bound_of-bound.ensures
    c.trim-len.ensures.0 c.trim-len.ensures.1
