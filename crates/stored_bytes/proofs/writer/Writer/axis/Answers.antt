-- `axis` meets its contract, by the law of each way out.
use Rattle.std.proofs.Common.{rules, refl, arith}
use Rattle.std.proofs.lemmas.Bool.{eqb-false}
use Rattle.plan_format.specs.Sections.{axis_field}
use Rattle.plan_format.proofs.Axes.{axis_again, axis_new}
use Rattle.stored_bytes.proofs.Fields.{missing, wrong, kept}
use Rattle.stored_bytes.proofs.writer.Writer.axis.Goals as goal

pub returns-then-self-at-clause-wrote : goal.returns-then-self-at-clause-wrote
unfolding axis_field
returns-then-self-at-clause-wrote c =
    record { same_list = refl; writes = rw c.refusal.ensures (missing refl (omega arith) c.if-self-at.true) }

pub returns-then-repeated-clause-wrote : goal.returns-then-repeated-clause-wrote
unfolding axis_field
returns-then-repeated-clause-wrote c =
    record {
      same_list = refl;
      writes = rw c.refusal-then-repeated.ensures (wrong refl (omega arith) c.if-self-at.false refl
          (axis_again _ _ _ c.repeated.ensures c.if-repeated.true) (eqb-false 5 0 refl));
    }

pub returns-clause-wrote : goal.returns-clause-wrote
unfolding axis_field
returns-clause-wrote c =
    record {
      same_list = c.put.ensures.same_list;
      writes = rw c.put.ensures.past (kept refl (omega arith) c.if-self-at.false refl (omega arith)
          (axis_new _ _ _ c.repeated.ensures c.if-repeated.false)
          (search rules) c.put.ensures.put);
    }
