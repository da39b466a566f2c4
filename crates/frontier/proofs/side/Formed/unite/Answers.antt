-- `unite` meets its contract: the loop's invariant is `Join`. Assumes nothing.
use borrow.Author.Rules.{rules}
use Rattle.frontier.proofs.Join.{join_none, join_more, join_end}
use Rattle.frontier.proofs.side.Formed.unite.Goals as goal

pub loop-i-init : goal.loop-i-init
loop-i-init c =
    join_none _ _ _ _ _ _ _ _ c.requires

pub loop-i-preserved : goal.loop-i-preserved
loop-i-preserved c =
    join_more _ _ _ _ _ _ _ _ _ _ _ _ _ _ _ c.loop-i.invariant (search rules) c.next-s.ensures.bounds.0
    c.next-s.ensures.bounds.1 c.next-s.ensures.bounds.2 c.next-s.ensures.union_goes_on

pub returns : goal.returns
returns c =
    join_end _ _ _ _ _ _ _ _ _ _ _ c.loop-i.invariant c.loop-i-test.false c.args.self.few c.args.other.few
