-- `lead` meets its contract: the second form has one byte in front.
use Rattle.std.proofs.Common.{refl, arith, length-set, take-suc-set, drop-set-lt}
use Rattle.plan_format.specs.Form.{first_form, second_form, form_by}
use Rattle.stored_bytes.proofs.lead.Goals as goal

pub returns-then-wide : goal.returns-then-wide
unfolding form_by first_form second_form
returns-then-wide c =
    rw c.if-wide.true (record {
      long = refl;
      front = take-suc-set c.args.bytes.now 0 242 (omega arith);
      as_long = length-set c.args.bytes.now 0 242;
      past = drop-set-lt 1 c.args.bytes.now 0 242 (omega arith);
    })

pub returns : goal.returns
unfolding form_by first_form second_form
returns c =
    rw c.if-wide.false (record { long = refl; front = refl; as_long = refl; past = refl })
