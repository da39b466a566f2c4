-- `leads_at` meets its contract: by the two lengths, then the axes. Assumes nothing.
use Rattle.frontier.proofs.Join.{leads_none, leads_alone, leads_both}
use Rattle.frontier.proofs.side.Formed.leads_at.Goals as goal

pub returns-then-self-i : goal.returns-then-self-i
returns-then-self-i c = leads_none _ _ _ _ _ c.if-self-i.true

pub returns-then-other-j : goal.returns-then-other-j
returns-then-other-j c = leads_alone _ _ _ _ _ _ _ _ c.if-self-i.false c.if-other-j.true

pub returns : goal.returns
returns c = leads_both _ _ _ _ _ _ _ _ c.if-self-i.false c.if-other-j.false
