-- `below` meets its contract, by the law of each way out.
use Rattle.std.proofs.Common.{refl, arith}
use Rattle.stored_bytes.proofs.Fields.{limited_missing, limited_over, limited_kept}
use Rattle.stored_bytes.proofs.Writers.{reason_given}
use Rattle.stored_bytes.proofs.writer.Writer.below.Goals as goal

pub returns-then-self-clause-wrote : goal.returns-then-self-clause-wrote
returns-then-self-clause-wrote g c =
    record { same_list = refl; writes = rw c.refusal.ensures (limited_missing refl (omega arith) c.if-self.true) }

pub returns-then-limit-value-clause-wrote : goal.returns-then-limit-value-clause-wrote
returns-then-limit-value-clause-wrote g c =
    record {
      same_list = refl;
      writes = rw c.refusal-then-limit-value.ensures (limited_over refl (omega arith) c.if-self.false refl
          (reason_given c.args.over) c.if-limit-value.true);
    }

pub returns-clause-wrote : goal.returns-clause-wrote
returns-clause-wrote g c =
    record {
      same_list = c.put.ensures.same_list;
      writes = rw c.put.ensures.past (limited_kept refl (omega arith) c.if-self.false refl c.requires.width.1
          c.if-limit-value.false (omega (arith, c.if-limit-value.false, c.requires.fits)) c.put.ensures.put);
    }
