-- `at_least` meets its contract, by the law of each way out.
use Rattle.std.proofs.Common.{rules, refl, arith}
use Rattle.std.proofs.lemmas.Bool.{eqb-false}
use Rattle.plan_format.proofs.ChecksMeaning.{value_means}
use Rattle.plan_format.proofs.Blocks.{passes_at_least}
use Rattle.stored_bytes.proofs.Fields.{missing, wrong, kept}
use Rattle.stored_bytes.proofs.writer.Writer.at_least.Goals as goal

pub returns-then-self-clause-wrote : goal.returns-then-self-clause-wrote
returns-then-self-clause-wrote c =
    record { same_list = refl; writes = rw c.refusal.ensures (missing refl (omega arith) c.if-self.true) }

pub returns-then-value-least-clause-wrote : goal.returns-then-value-least-clause-wrote
returns-then-value-least-clause-wrote c =
    record {
      same_list = refl;
      writes = rw c.refusal-then-value-least.ensures (wrong refl (omega arith) c.if-self.false refl
          ((value_means c.args.least _ _).yes c.if-value-least.true) (eqb-false 16 0 refl));
    }

pub returns-clause-wrote : goal.returns-clause-wrote
returns-clause-wrote c =
    record {
      same_list = c.put.ensures.same_list;
      writes = rw c.put.ensures.past (kept refl (omega arith) c.if-self.false refl (omega arith)
          (passes_at_least c.args.least _ _ c.if-value-least.false)
          (search rules) c.put.ensures.put);
    }
