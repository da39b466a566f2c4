-- `next` meets its contract: the side that leads, turned back where that is the other one. Assumes nothing.
use mathlib.Core.Path.{refl, sym, ◌∙◌}
use native.Mathlib.Omega.{arith}
use Rattle.frontier.proofs.Join.{leads_some, right_leads, next_turned}
use Rattle.frontier.proofs.side.Formed.next.Goals as goal

pub leading-requires : goal.leading-requires
leading-requires c =
    let q = c.leads_at.ensures in record {
      inside = (leads_some _ _ _ _ _ _ q c.if-leads_at.true, c.requires.1);
      first = sym q ∙ c.if-leads_at.true;
    }

pub leading-s-requires : goal.leading-s-requires
leading-s-requires c =
    let e = right_leads _ _ _ _ _ _ _ _ c.args.self.rising c.args.other.rising _ c.requires.2 c.requires.0
    c.requires.1 c.leads_at.ensures c.if-leads_at.false in record {
      inside = (leads_some _ _ _ _ _ _ refl e, c.requires.0);
      first = e;
    }

pub returns : goal.returns
returns c =
    record {
      bounds = (
        c.leading-s.ensures.bounds.1,
        c.leading-s.ensures.bounds.0,
        omega (arith, c.leading-s.ensures.bounds.2),
      );
      union_goes_on = next_turned _ _ _ _ _ _ _ _ c.args.self.rising c.args.other.rising _ _ _
          c.requires.0 c.requires.1 c.leading-s.ensures.bounds.1
          c.leading-s.ensures.bounds.0 c.leading-s.ensures.union_goes_on;
    }
